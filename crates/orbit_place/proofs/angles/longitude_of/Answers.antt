use Rattle.whole_math.specs.Rational.{◌+ʳ◌, ◌*ʳ◌}
use Rattle.orbit_place.proofs.angles.longitude_of.Goals as goal

pub returns : goal.returns
returns c = record {
  holds = λ n r t w hn hr ht hw.
      c.sub.ensures.holds (n +ʳ r *ʳ t) w (c.add-drifted.ensures.holds n (r *ʳ t) hn (c.mul-drift.ensures.holds r t hr ht)) hw;
}
