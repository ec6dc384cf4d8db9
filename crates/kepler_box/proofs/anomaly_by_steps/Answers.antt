use Rattle.std.proofs.Common.{◌≡◌, ◌*◌, ◌^◌, ◌≤◌, neg_ℤ, unsigned_abs, arith, ℤ, pos, ◌+ℤ◌, ◌-ℤ◌, ◌≤ℤ◌, subst, subst₂, sym, ◌∙◌}
use Rattle.std.proofs.lemmas.Int.{ints, to_z-of_z}
use Rattle.std.specs.Int.{w64}
use Rattle.whole_math.specs.Rational.{Rational, InBox}
use Rattle.whole_math.specs.Boxes.{of_scale}
use Rattle.trig_box.specs.AnglePairs.{IsAnglePair}
use Rattle.kepler_box.specs.Steps.{IsStep, AreNear}
use Rattle.kepler_box.proofs.Contract.{IsFound, found_holds, found_near}
use Rattle.kepler_box.proofs.Parts.{IsReached, residual, halves, wide_of, ends_of}
use Rattle.kepler_box.proofs.anomaly_by_steps.Goals as goal

reached : (c : goal.After-hi-2) →
    IsReached c.args.m.now.lo c.args.m.now.hi c.args.e.now.lo c.args.e.now.hi c.middle_between.result c.settle-angle.result c.sine_of-sine.result.lo
    c.sine_of-sine.result.hi c.right_side-right.result.lo c.right_side-right.result.hi
reached c =
    let t : ℤ = c.middle_between.result in
    let x : ℤ = c.settle-angle.result in
    let a : ℤ = c.sine_of-sine.result.lo in
    let b : ℤ = c.sine_of-sine.result.hi in
    let same_angle = to_z-of_z w64 x (record { sfits = c.settle-angle.type_inv }) in
    let same_middle = to_z-of_z w64 t (record { sfits = c.middle_between.type_inv }) in
    let same_e = to_z-of_z w64 c.lo-2.result (record { sfits = c.lo-2.type_inv }) ∙ c.lo-2.ensures in
    let same_low = to_z-of_z w64 c.lo.result (record { sfits = c.lo.type_inv }) ∙ c.lo.ensures in
    let same_high = to_z-of_z w64 c.hi.result (record { sfits = c.hi.type_inv }) ∙ c.hi.ensures in
    let halves_narrow = halves c.args.m.now.lo c.args.m.now.hi t (pos 8) (pos 0) c.requires.mean_narrow
    (subst₂ (λ (y z : ℤ). (t -ℤ y) ≤ℤ (z -ℤ t)) same_low same_high c.middle_between.ensures.nearer) (subst₂ (λ (y z : ℤ). ((z -ℤ t) +ℤ (z -ℤ t)) ≤ℤ ((z -ℤ y) +ℤ pos 1)) same_low same_high c.middle_between.ensures.half) in
    record {
      sized = record {
        e_low = c.requires.eccentricity_low;
        e_high = c.requires.eccentricity_high;
        ordered = c.args.e.now.ordered;
        a_size = c.sine_of-sine.ensures.lo_size;
        b_size = c.sine_of-sine.ensures.hi_size;
      };
      e_narrow = c.requires.eccentricity_narrow;
      sine = record {
        holds = subst (λ (z : ℤ). (c s : Rational) → IsAnglePair 5 (of_scale 56 z) c s → InBox 60 a b s) same_angle c.sine_of-sine.ensures.holds;
        ordered = c.sine_of-sine.result.ordered;
        narrow = c.sine_of-sine.ensures.narrow;
        a_size = c.sine_of-sine.ensures.lo_size;
        b_size = c.sine_of-sine.ensures.hi_size;
      };
      m_below = halves_narrow.0;
      m_above = halves_narrow.1;
      settled = subst₂ (λ (y z : ℤ). (next : ℤ) → IsStep y z x next → AreNear (pos 3) next x) same_middle same_e c.settle-angle.ensures.settled;
      lo_is = c.right_side-right.ensures.lo;
      hi_is = c.right_side-right.ensures.hi;
    }

pub residual_of-requires-clause-above : goal.residual_of-requires-clause-above
residual_of-requires-clause-above c =
    let residual_bounds = residual c.args.m.now.lo c.args.m.now.hi c.args.e.now.lo c.args.e.now.hi c.middle_between.result c.settle-angle.result c.sine_of-sine.result.lo
    c.sine_of-sine.result.hi c.right_side-right.result.lo c.right_side-right.result.hi (reached c) in
    let same_angle = to_z-of_z w64 c.settle-angle.result (record { sfits = c.settle-angle.type_inv }) in
    let same_high = to_z-of_z w64 c.hi-2.result (record { sfits = c.hi-2.type_inv }) ∙ c.hi-2.ensures in
    subst₂ (λ (y z : ℤ). (y -ℤ z) ≤ℤ pos 14) (sym same_high) (sym same_angle) residual_bounds.0

pub residual_of-requires-clause-below : goal.residual_of-requires-clause-below
residual_of-requires-clause-below c =
    let residual_bounds = residual c.args.m.now.lo c.args.m.now.hi c.args.e.now.lo c.args.e.now.hi c.middle_between.result c.settle-angle.result c.sine_of-sine.result.lo
    c.sine_of-sine.result.hi c.right_side-right.result.lo c.right_side-right.result.hi (reached c) in
    let same_angle = to_z-of_z w64 c.settle-angle.result (record { sfits = c.settle-angle.type_inv }) in
    let same_low = to_z-of_z w64 c.lo-3.result (record { sfits = c.lo-3.type_inv }) ∙ c.lo-3.ensures in
    subst₂ (λ (y z : ℤ). (y -ℤ z) ≤ℤ pos 14) (sym same_angle) (sym same_low) residual_bounds.1

in_range : (x y : ℤ) → y ≡ x → neg_ℤ (pos (13 * 2 ^ 56)) ≤ℤ x → x ≤ℤ pos (13 * 2 ^ 56) → unsigned_abs y ≤ 2 ^ 60
in_range x y e h k = omega (arith, ints)

pub of-requires : goal.of-requires
of-requires c =
    in_range c.settle-angle.result _ (to_z-of_z w64 c.settle-angle.result (record { sfits = c.settle-angle.type_inv }))
    c.settle-angle.ensures.angle.0 c.settle-angle.ensures.angle.1

found : (c : goal.After-pairs_around) →
    IsFound c.args.m.now.lo c.args.m.now.hi c.args.e.now.lo c.args.e.now.hi c.settle-angle.result c.widened-radius.result c.sine_of-sine.result.lo
    c.sine_of-sine.result.hi c.right_side-right.result.lo c.right_side-right.result.hi
    c.pairs_around.result.angle.lo c.pairs_around.result.angle.hi c.pairs_around.result.cos.lo c.pairs_around.result.cos.hi c.pairs_around.result.sin.lo c.pairs_around.result.sin.hi
found c =
    let x : ℤ = c.settle-angle.result in
    let r : ℤ = c.widened-radius.result in
    let a : ℤ = c.sine_of-sine.result.lo in
    let b : ℤ = c.sine_of-sine.result.hi in
    let n : ℤ = c.residual_of.result in
    let same_angle = to_z-of_z w64 x (record { sfits = c.settle-angle.type_inv }) in
    let point_is = c.of.ensures ∙ same_angle in
    let same_radius = to_z-of_z w64 r (record { sfits = c.widened-radius.type_inv }) in
    let same_residual = to_z-of_z w64 n (record { sfits = c.residual_of.type_inv }) in
    let same_high = to_z-of_z w64 c.hi-2.result (record { sfits = c.hi-2.type_inv }) ∙ c.hi-2.ensures in
    let same_low = to_z-of_z w64 c.lo-3.result (record { sfits = c.lo-3.type_inv }) ∙ c.lo-3.ensures in
    let ends_are = ends_of x r c.pairs_around.result.angle.lo c.pairs_around.result.angle.hi _ _ point_is same_radius c.settle-angle.ensures.angle.0 c.settle-angle.ensures.angle.1
    c.widened-radius.ensures.low c.widened-radius.ensures.high c.pairs_around.ensures.lo c.pairs_around.ensures.hi in
    record {
      e_low = c.requires.eccentricity_low;
      e_high = c.requires.eccentricity_high;
      sine = subst (λ (z : ℤ). (c s : Rational) → IsAnglePair 5 (of_scale 56 z) c s → InBox 60 a b s) same_angle c.sine_of-sine.ensures.holds;
      right = c.right_side-right.ensures.holds;
      above = wide_of _ n _ r (subst₂ (λ (y z : ℤ). (y -ℤ z) ≤ℤ n) same_high same_angle c.residual_of.ensures.above) same_residual c.widened-radius.ensures.wide;
      below = wide_of _ n _ r (subst₂ (λ (y z : ℤ). (y -ℤ z) ≤ℤ n) same_angle same_low c.residual_of.ensures.below) same_residual c.widened-radius.ensures.wide;
      radius = c.widened-radius.ensures.low;
      low_is = ends_are.3;
      high_is = ends_are.4;
      low_end = ends_are.0;
      high_end = ends_are.1;
      pair = c.pairs_around.ensures.pairs;
    }

pub returns : goal.returns
returns c =
    let point_is = c.of.ensures ∙ to_z-of_z w64 c.settle-angle.result (record { sfits = c.settle-angle.type_inv }) in
    let same_radius = to_z-of_z w64 c.widened-radius.result (record { sfits = c.widened-radius.type_inv }) in
    let e = ends_of c.settle-angle.result c.widened-radius.result c.pairs_around.result.angle.lo c.pairs_around.result.angle.hi _ _ point_is same_radius
    c.settle-angle.ensures.angle.0 c.settle-angle.ensures.angle.1 c.widened-radius.ensures.low c.widened-radius.ensures.high
    c.pairs_around.ensures.lo c.pairs_around.ensures.hi in
    record {
      holds = λ mean e angle cos sin h k g. found_holds _ _ _ _ _ _ _ _ _ _ _ _ _ _ _ _ mean e angle cos sin (found c) h k g;
      pairs = c.pairs_around.ensures.pairs;
      near = λ d mean e angle cos sin h k g. found_near _ _ _ _ _ _ _ _ _ _ _ _ _ _ _ _ d mean e angle cos sin (found c) h k g;
      range = (e.0, e.1);
      angle_width = e.2;
      pair_width = c.pairs_around.ensures.pair_width;
      ends = c.pairs_around.ensures.ends;
    }
