use Rattle.std.proofs.Common.{lit<}
use Rattle.whole_math.specs.Rational.{◌+ʳ◌, ◌*ʳ◌, times, divided}
use Rattle.orbit_model.specs.Solution.{harmonic}
use Rattle.orbit_place.proofs.Transports.{held_along, inclination_with}
use Rattle.orbit_place.proofs.angles.inclination_of.Goals as goal

pub returns : goal.returns
returns c = record {
  holds = λ world eph sent q h s t.
      let correction = harmonic eph.cis eph.cic q.twice_pair in
      c.rotation_of.ensures.holds q.inclination q.inclination_pair
      (held_along c.inclined-angle.result.held (eph.incl +ʳ correction +ʳ times 10000 eph.incl_rate *ʳ divided q.tk 10000 (lit< tt)) q.inclination
      (inclination_with q.inclination eph.incl q.inclination_change correction eph.incl_rate q.tk s.corrected_inclination s.inclination_correction)
      (c.inclined-angle.ensures.holds eph.incl correction (times 10000 eph.incl_rate) (divided q.tk 10000 (lit< tt)) h.inclination
      (c.angle_change-change.ensures.holds eph.cis eph.cic q.twice_pair h.cis h.cic t) h.inclination_rate h.epoch_time)) s.inclination_of_angle;
}
