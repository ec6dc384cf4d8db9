use Rattle.std.proofs.Common.{◌+◌, w64, ◌∙◌}
use Rattle.std.proofs.lemmas.Int.{to_z-of_z}
use Rattle.sim_session.specs.Sequence.{drawn_within}
use Rattle.sim_session.specs.Values.{l5_cycles}
use Rattle.sim_session.proofs.Steps.{same_three}
use Rattle.sim_session.specs.declared.drawn.TheConstants.{MOST_CYCLES}
use Rattle.sim_session.proofs.draws.Draws.cycles.Goals as goal

pub returns-clause-moves : goal.returns-clause-moves
returns-clause-moves c = λ seed n e. c.draw_within-on_l2.ensures.moves seed (n + 1) (c.draw_within-on_l1.ensures.moves seed n e)

pub returns-clause-value : goal.returns-clause-value
returns-clause-value c = λ seed n m e f.
    let second = c.draw_within-on_l1.ensures.moves seed n e in
    same_three _ _ _ (drawn_within MOST_CYCLES seed n) (drawn_within MOST_CYCLES seed (n + 1)) (l5_cycles c.args.l5 seed m)
    (to_z-of_z w64 c.draw_within-on_l1.result (record { sfits = c.draw_within-on_l1.type_inv }) ∙ c.draw_within-on_l1.ensures.value seed n e)
    (to_z-of_z w64 c.draw_within-on_l2.result (record { sfits = c.draw_within-on_l2.type_inv }) ∙ c.draw_within-on_l2.ensures.value seed (n + 1) second)
    (to_z-of_z w64 c.cycles_on_l5-on_l5.result (record { sfits = c.cycles_on_l5-on_l5.type_inv }) ∙ c.cycles_on_l5-on_l5.ensures.value seed m f)
