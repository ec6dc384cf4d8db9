use Rattle.whole_math.specs.Rational.{◌*ʳ◌}
use Rattle.orbit_model.specs.Solution.{one}
use Rattle.orbit_place.proofs.Ellipses.{one_held}
use Rattle.orbit_place.proofs.ellipse.rest_of.Goals as goal

pub returns-clause-holds : goal.returns-clause-holds
returns-clause-holds c = λ e h.
    c.difference_of.ensures.holds one (e *ʳ e) (one_held c.one.result c.one.ensures.lo c.one.ensures.hi) (c.square-square.ensures.holds e h)
