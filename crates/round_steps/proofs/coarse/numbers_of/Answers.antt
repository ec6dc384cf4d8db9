use Rattle.std.proofs.Common.{◌∙◌}
use Rattle.round_steps.proofs.FrontNumbers.{coarse_columns}
use Rattle.round_steps.proofs.coarse.numbers_of.Goals as goal

pub numbers_by_front-requires-clause-no_integers : goal.numbers_by_front-requires-clause-no_integers
numbers_by_front-requires-clause-no_integers c =
    c.refill_sum.ensures.columns ∙ coarse_columns c.args.session.now.arcs c.args.session.now.signals c.args.session.now.scale c.requires.coarse
