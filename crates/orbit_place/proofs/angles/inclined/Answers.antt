use Rattle.whole_math.specs.Rational.{◌+ʳ◌, ◌*ʳ◌}
use Rattle.orbit_place.proofs.angles.inclined.Goals as goal

pub returns : goal.returns
returns c = record { holds = λ i d r t hi hd hr ht. c.add.ensures.holds (i +ʳ d) (r *ʳ t) (c.add-changed.ensures.holds i d hi hd) (c.mul-tilt.ensures.holds r t hr ht) }
