use Rattle.whole_math.specs.Rational.{times}
use Rattle.orbit_model.specs.Elements.{earth_rate}
use Rattle.orbit_place.proofs.angles.relative_rate.Goals as goal

pub returns : goal.returns
returns c = λ r h. c.sub.ensures.holds r (times 10000 earth_rate) h c.earth_rate.ensures
