use Rattle.std.proofs.Common.{refl, ◌+ℤ◌, ◌-ℤ◌}
use Rattle.trig_box.proofs.Boxes.{held_is}
use Rattle.trig_box.proofs.Start.{IsMade, made_holds, made_five}
use Rattle.trig_box.proofs.Sizes.{made_ends}
use Rattle.trig_box.proofs.AsPoints.{pair_as_points}
use Rattle.trig_box.proofs.Within.{made_within, width_by_radius}
use Rattle.trig_box.proofs.nearby.PointPair.within.Goals as goal

made : (c : goal.After-around-sin) →
    IsMade 5 (c.args.self.now.angle -ℤ c.args.radius) (c.args.self.now.angle +ℤ c.args.radius) (c.args.self.now.angle -ℤ c.args.radius)
    (c.args.self.now.angle +ℤ c.args.radius) c.args.self.now.angle c.pad_for-pad.result
    c.args.self.now.cos c.args.self.now.sin c.around-cos.result.lo c.around-cos.result.hi c.around-sin.result.lo c.around-sin.result.hi
made c =
    let nearby_pair = c.args.self.now in
    made_within nearby_pair.angle c.args.radius c.pad_for-pad.result nearby_pair.cos nearby_pair.sin c.around-cos.result.lo c.around-cos.result.hi c.around-sin.result.lo c.around-sin.result.hi (record {
      range = nearby_pair.range;
      radius_low = c.requires.radius_low;
      radius_high = c.requires.radius_high;
      low = c.requires.low;
      high = c.requires.high;
      fits_w = record { sfits = c.pad_for-pad.type_inv };
      cos_size = nearby_pair.cos_size;
      sin_size = nearby_pair.sin_size;
      pad = c.pad_for-pad.ensures.five refl;
      cos_is = nearby_pair.cos_is;
      sin_is = nearby_pair.sin_is;
      cos_lo = c.around-cos.ensures.lo;
      cos_hi = c.around-cos.ensures.hi;
      sin_lo = c.around-sin.ensures.lo;
      sin_hi = c.around-sin.ensures.hi;
    })

pub returns-clause-holds : goal.returns-clause-holds
returns-clause-holds c = λ a x y b p. held_is 5 _ _ _ _ _ _ (made_holds _ _ _ _ _ _ _ _ _ _ _ _ _ (made c)) a x y b (pair_as_points 5 a x y p)

pub returns-clause-width : goal.returns-clause-width
returns-clause-width c =
    let width_at_most = made_five _ _ _ _ _ _ _ _ _ _ _ _ _ (made c) refl in
    (width_by_radius c.args.self.now.angle c.args.radius _ width_at_most.0, width_by_radius c.args.self.now.angle c.args.radius _ width_at_most.1)

pub returns-clause-ends : goal.returns-clause-ends
returns-clause-ends c = made_ends _ _ _ _ _ _ _ _ _ _ _ _ _ (made c) c.around-cos.result.ordered c.around-sin.result.ordered
