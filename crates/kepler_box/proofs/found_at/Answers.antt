use Rattle.std.proofs.Common.{ℤ, ◌-ℤ◌, ◌≤ℤ◌, subst, subst₂, ◌∙◌}
use Rattle.std.proofs.lemmas.Int.{to_z-of_z}
use Rattle.std.specs.Int.{w64}
use Rattle.whole_math.specs.Rational.{Rational, InBox}
use Rattle.whole_math.specs.Boxes.{of_scale}
use Rattle.trig_box.specs.AnglePairs.{IsAnglePair}
use Rattle.kepler_box.proofs.Contract.{IsFound, found_holds, found_near}
use Rattle.kepler_box.proofs.Parts.{wide_of, ends_of}
use Rattle.kepler_box.proofs.found_at.Goals as goal

found : (c : goal.After-pairs_around) →
    IsFound c.args.m.now.lo c.args.m.now.hi c.args.e.now.lo c.args.e.now.hi c.args.angle c.widened-radius.result c.sine_at-sine.result.lo
    c.sine_at-sine.result.hi c.right_side-right.result.lo c.right_side-right.result.hi
    c.pairs_around.result.angle.lo c.pairs_around.result.angle.hi c.pairs_around.result.cos.lo c.pairs_around.result.cos.hi c.pairs_around.result.sin.lo c.pairs_around.result.sin.hi
found c =
    let x : ℤ = c.args.angle in
    let r : ℤ = c.widened-radius.result in
    let a : ℤ = c.sine_at-sine.result.lo in
    let b : ℤ = c.sine_at-sine.result.hi in
    let n : ℤ = c.residual_of.result in
    let same_angle = to_z-of_z w64 x c.ranges.angle in
    let point_is = c.of-point.ensures ∙ same_angle in
    let same_radius = to_z-of_z w64 r (record { sfits = c.widened-radius.type_inv }) in
    let same_residual = to_z-of_z w64 n (record { sfits = c.residual_of.type_inv }) in
    let same_high = to_z-of_z w64 c.hi-hi.result (record { sfits = c.hi-hi.type_inv }) ∙ c.hi-hi.ensures in
    let same_low = to_z-of_z w64 c.lo-lo.result (record { sfits = c.lo-lo.type_inv }) ∙ c.lo-lo.ensures in
    let ends_are = ends_of x r c.pairs_around.result.angle.lo c.pairs_around.result.angle.hi _ _ point_is same_radius c.requires.angle.0 c.requires.angle.1
    c.widened-radius.ensures.low c.widened-radius.ensures.high c.pairs_around.ensures.lo c.pairs_around.ensures.hi in
    record {
      e_low = c.requires.e_low;
      e_high = c.requires.e_high;
      sine = subst (λ (z : ℤ). (c s : Rational) → IsAnglePair 5 (of_scale 56 z) c s → InBox 60 a b s) point_is c.sine_at-sine.ensures.holds;
      right = c.right_side-right.ensures.holds;
      above = wide_of _ n _ r (subst₂ (λ (y z : ℤ). (y -ℤ z) ≤ℤ n) same_high same_angle c.residual_of.ensures.above) same_residual c.widened-radius.ensures.wide;
      below = wide_of _ n _ r (subst₂ (λ (y z : ℤ). (y -ℤ z) ≤ℤ n) same_angle same_low c.residual_of.ensures.below) same_residual c.widened-radius.ensures.wide;
      radius = c.widened-radius.ensures.low;
      low_is = ends_are.3;
      high_is = ends_are.4;
      low_end = ends_are.0;
      high_end = ends_are.1;
      pair = c.pairs_around.ensures.pairs;
    }

pub returns : goal.returns
returns c =
    let point_is = c.of-point.ensures ∙ to_z-of_z w64 c.args.angle c.ranges.angle in
    let same_radius = to_z-of_z w64 c.widened-radius.result (record { sfits = c.widened-radius.type_inv }) in
    let e = ends_of c.args.angle c.widened-radius.result c.pairs_around.result.angle.lo c.pairs_around.result.angle.hi _ _ point_is same_radius
    c.requires.angle.0 c.requires.angle.1 c.widened-radius.ensures.low c.widened-radius.ensures.high
    c.pairs_around.ensures.lo c.pairs_around.ensures.hi in
    record {
      holds = λ mean e angle cos sin h k g. found_holds _ _ _ _ _ _ _ _ _ _ _ _ _ _ _ _ mean e angle cos sin (found c) h k g;
      pairs = c.pairs_around.ensures.pairs;
      near = λ d mean e angle cos sin h k g. found_near _ _ _ _ _ _ _ _ _ _ _ _ _ _ _ _ d mean e angle cos sin (found c) h k g;
      range = (e.0, e.1);
      angle_width = e.2;
      pair_width = c.pairs_around.ensures.pair_width;
      ends = c.pairs_around.ensures.ends;
    }
