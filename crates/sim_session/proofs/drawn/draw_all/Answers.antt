use Rattle.std.proofs.Common.{w64, ◌∙◌}
use Rattle.std.proofs.lemmas.Int.{to_z-of_z}
use Rattle.sim_session.proofs.drawn.draw_all.Goals as goal

pub returns-clause-base_clock : goal.returns-clause-base_clock
returns-clause-base_clock c =
    to_z-of_z w64 c.draw_within-base_clock.result (record { sfits = c.draw_within-base_clock.type_inv })
    ∙ c.draw_within-base_clock.ensures.value c.args.seed 3 (c.offset-offset.ensures.moves c.args.seed c.new-draws.ensures)

pub returns-clause-rover_clock : goal.returns-clause-rover_clock
returns-clause-rover_clock c =
    to_z-of_z w64 c.draw_within-rover_clock.result (record { sfits = c.draw_within-rover_clock.type_inv })
    ∙ c.draw_within-rover_clock.ensures.value c.args.seed 4 (c.draw_within-base_clock.ensures.moves c.args.seed 3 (c.offset-offset.ensures.moves c.args.seed c.new-draws.ensures))

pub returns-clause-base_cycles : goal.returns-clause-base_cycles
returns-clause-base_cycles c =
    c.in_ok-cycles.ensures.base c.args.seed (c.draw_within-rover_clock.ensures.moves c.args.seed 4
    (c.draw_within-base_clock.ensures.moves c.args.seed 3 (c.offset-offset.ensures.moves c.args.seed c.new-draws.ensures)))

pub returns-clause-rover_cycles : goal.returns-clause-rover_cycles
returns-clause-rover_cycles c =
    c.in_ok-cycles.ensures.rover c.args.seed (c.draw_within-rover_clock.ensures.moves c.args.seed 4
    (c.draw_within-base_clock.ensures.moves c.args.seed 3 (c.offset-offset.ensures.moves c.args.seed c.new-draws.ensures)))

pub returns-clause-truth : goal.returns-clause-truth
returns-clause-truth c =
    c.in_ok-cycles.ensures.truth c.args.seed (c.draw_within-rover_clock.ensures.moves c.args.seed 4
    (c.draw_within-base_clock.ensures.moves c.args.seed 3 (c.offset-offset.ensures.moves c.args.seed c.new-draws.ensures)))
