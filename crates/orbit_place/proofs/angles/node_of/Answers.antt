use Rattle.std.proofs.Common.{refl, lit<}
use Rattle.whole_math.specs.Rational.{◌+ʳ◌, ◌-ʳ◌, ◌*ʳ◌, times, divided}
use Rattle.orbit_model.specs.Elements.{earth_rate}
use Rattle.orbit_place.proofs.Transports.{held_along, node_with}
use Rattle.orbit_place.proofs.angles.node_of.Goals as goal

pub returns : goal.returns
returns c = record {
  holds = λ world eph sent q h s.
      let time = divided q.tk 10000 (lit< tt) in
      let rate = times 10000 eph.node_rate -ʳ times 10000 earth_rate in
      let turn = earth_rate *ʳ eph.toe_second in
      c.wide_rotation_of.ensures.holds q.node q.node_pair
      (held_along c.longitude_of-angle.result.held (eph.node +ʳ rate *ʳ time -ʳ turn) q.node
      (node_with q.node eph.node eph.node_rate earth_rate q.tk eph.toe_second eph.toe_second s.corrected_node refl)
      (c.longitude_of-angle.ensures.holds eph.node rate time turn h.node h.node_rate h.epoch_time h.earth_turn)) s.node_of_angle;
}
