use Rattle.std.proofs.Common.{ℕ, ◌+◌, ◌*◌, ap, ◌∙◌, arith}
use Rattle.sim_session.specs.Sequence.{next_state}
use Rattle.sim_session.proofs.Steps.{four_on}
use Rattle.sim_session.proofs.draws.Draws.behind.Goals as goal

pub loop-k-preserved : goal.loop-k-preserved
loop-k-preserved c = λ seed n e. four_on _ seed (n + 4 * c.loop-k._k) (n + 4 * (c.loop-k._k + 1)) (omega arith)
    (c.draw-in-loop-k-3.ensures.state ∙ ap (λ (s : ℕ). next_state s) (c.draw-in-loop-k-2.ensures.state ∙ ap (λ (s : ℕ). next_state s) (c.draw-in-loop-k.ensures.state ∙ ap (λ (s : ℕ). next_state s)
    (c.draw.ensures.state ∙ ap (λ (s : ℕ). next_state s) (c.loop-k.invariant seed n e)))))
