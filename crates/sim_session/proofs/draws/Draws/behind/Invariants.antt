use Rattle.std.proofs.Common.{◌≡◌, ℕ, ◌+◌, ◌*◌}
use Rattle.sim_session.specs.Sequence.{state_after}
use Rattle.sim_session.proofs.draws.Draws.behind.Given as goal

abbrev pub invariant-loop-k : goal.invariant-loop-k
invariant-loop-k l = (seed n : ℕ) → l.fn.self.state ≡ state_after seed n → l.later.state ≡ state_after seed (n + 4 * l._k)
