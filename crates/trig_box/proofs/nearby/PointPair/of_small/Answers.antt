use Rattle.std.proofs.Common.{arith, ◌*◌, ◌^◌, ◌≤◌, ℤ, subst, sym, ◌∙◌, unsigned_abs}
use Rattle.std.proofs.lemmas.Int.{to_z-of_z}
use Rattle.std.specs.Int.{w64}
use Rattle.trig_box.proofs.Start.{fits_pair}
use Rattle.trig_box.proofs.nearby.PointPair.of_small.Goals as goal

wide : (a : ℤ) → unsigned_abs a ≤ 2 ^ 40 → unsigned_abs a ≤ 2 ^ 60
wide a h = omega arith

pub invariant_of-result : goal.invariant_of-result
invariant_of-result c =
    let pair_stands = c.small_point_pair-cos.ensures in
    let same_cosine = to_z-of_z w64 c.small_point_pair-cos.result.0 (fits_pair c.small_point_pair-cos.result.0 pair_stands.cos_size) in
    let same_sine = to_z-of_z w64 c.small_point_pair-cos.result.1 (fits_pair c.small_point_pair-cos.result.1 pair_stands.sin_size) in
    record {
      range = subst (λ (z : ℤ). unsigned_abs z ≤ 2 ^ 60) (sym (to_z-of_z w64 c.args.angle c.ranges.angle)) (wide c.args.angle c.requires);
      cos_is = same_cosine ∙ pair_stands.cos;
      sin_is = same_sine ∙ pair_stands.sin;
      cos_size = subst (λ (z : ℤ). unsigned_abs z ≤ 3 * 2 ^ 61) (sym same_cosine) pair_stands.cos_size;
      sin_size = subst (λ (z : ℤ). unsigned_abs z ≤ 3 * 2 ^ 61) (sym same_sine) pair_stands.sin_size;
    }
