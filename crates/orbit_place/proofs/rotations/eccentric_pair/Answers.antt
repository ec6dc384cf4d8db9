use Rattle.std.proofs.Common.{arith}
use Rattle.orbit_place.proofs.AnglePairs.{near_circle_5}
use Rattle.orbit_place.proofs.Turns.{both_along}
use Rattle.orbit_place.proofs.rotations.eccentric_pair.Goals as goal

pub new-requires : goal.new-requires
new-requires c =
    let box = c.anomaly_box-found.result in
    let box_told = c.anomaly_box-found.ensures in
    (omega arith, (∣ near_circle_5 box.angle box.cos box.sin box_told.range box_told.pairs ∣₁, (box_told.pair_width.0, (box_told.pair_width.1, (omega arith, omega arith)))))

pub returns : goal.returns
returns c = record {
  holds = λ m e x p h k s.
      let box = c.anomaly_box-found.result in
      let pair_held = c.anomaly_box-found.ensures.holds m e x p.cos p.sin h k s in
      both_along c.new.result.cos c.new.result.sin box.cos box.sin p c.new.ensures.cos c.new.ensures.sin (pair_held.1, pair_held.2);
}
