use Rattle.std.proofs.Common.{arith, refl}
use Rattle.orbit_place.proofs.AnglePairs.{near_circle_5, narrow_5, within_16}
use Rattle.orbit_place.proofs.Turns.{both_along}
use Rattle.orbit_place.proofs.rotations.rotation_of.Goals as goal

pub new-requires : goal.new-requires
new-requires g c =
    let angle = c.args.angle.now in
    let box = c.pair_box-pair.result in
    let is_narrow = c.pair_box-pair.ensures.width_of_five refl in (
      omega arith,
      (
        ∣ near_circle_5 angle.held box.cos box.sin (within_16 g.row.ANGLE angle.held angle.within c.requires.range) c.pair_box-pair.ensures.holds ∣₁,
        (
          narrow_5 _ _ g.row.ANGLE_WIDTH g.row.WIDTH angle.narrow is_narrow.0 c.requires.width,
          (narrow_5 _ _ g.row.ANGLE_WIDTH g.row.WIDTH angle.narrow is_narrow.1 c.requires.width, (omega arith, c.requires.fine)),
        ),
      ),
    )

pub returns : goal.returns
returns g c = record {
  holds = λ x p h k. both_along c.new.result.cos c.new.result.sin c.pair_box-pair.result.cos c.pair_box-pair.result.sin p c.new.ensures.cos
      c.new.ensures.sin (c.pair_box-pair.ensures.holds x p.cos p.sin h k);
}
