use Rattle.std.proofs.Common.{w64, ◌∙◌}
use Rattle.std.proofs.lemmas.Int.{to_z-of_z}
use Rattle.sim_session.specs.Sequence.{drawn_within}
use Rattle.sim_session.proofs.Steps.{same_three}
use Rattle.sim_session.specs.declared.drawn.TheConstants.{MOST_OFFSET}
use Rattle.sim_session.proofs.draws.Draws.offset.Goals as goal

pub returns-clause-moves : goal.returns-clause-moves
returns-clause-moves c = λ seed e. c.draw_within-z.ensures.moves seed 2 (c.draw_within-y.ensures.moves seed 1 (c.draw_within-x.ensures.moves seed 0 e))

pub returns-clause-value : goal.returns-clause-value
returns-clause-value c = λ seed e.
    let second = c.draw_within-x.ensures.moves seed 0 e in
    let third = c.draw_within-y.ensures.moves seed 1 second in
    same_three _ _ _ (drawn_within MOST_OFFSET seed 0) (drawn_within MOST_OFFSET seed 1) (drawn_within MOST_OFFSET seed 2)
    (to_z-of_z w64 c.draw_within-x.result (record { sfits = c.draw_within-x.type_inv }) ∙ c.draw_within-x.ensures.value seed 0 e)
    (to_z-of_z w64 c.draw_within-y.result (record { sfits = c.draw_within-y.type_inv }) ∙ c.draw_within-y.ensures.value seed 1 second)
    (to_z-of_z w64 c.draw_within-z.result (record { sfits = c.draw_within-z.type_inv }) ∙ c.draw_within-z.ensures.value seed 2 third)
