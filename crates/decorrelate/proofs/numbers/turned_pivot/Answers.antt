use Rattle.std.proofs.Common.{◌≡◌, ◌^◌, ◌+ℤ◌, ◌*ℤ◌, arith, to_z, of_z, ap, ◌∙◌}
use Rattle.std.proofs.lemmas.Int.{ints, to_z-of_z}
use Rattle.std.specs.Int.{w64, w128}
use Rattle.whole_math.specs.Rounding.{floor_div}
use Rattle.decorrelate.proofs.numbers.turned_pivot.Goals as goal

pub returns-clause-value : goal.returns-clause-value
returns-clause-value c =
    let same_a : to_z w64 (of_z w64 c.args.a) ≡ c.args.a = to_z-of_z w64 c.args.a c.ranges.a in
    let same_b : to_z w64 (of_z w64 c.args.b) ≡ c.args.b = to_z-of_z w64 c.args.b c.ranges.b in
    let same_r : to_z w64 (of_z w64 c.args.r) ≡ c.args.r = to_z-of_z w64 c.args.r c.ranges.r in
    let same_wide_b : to_z w128 (of_z w128 c.args.b) ≡ c.args.b = omega (arith, ints) in
    let same_share : to_z w128 (of_z w128 c.share.result) ≡ c.share.result = omega (arith, ints, c.share.ensures.size) in
    let same_units : to_z w128 (of_z w128 c.in_units.result) ≡ c.in_units.result = omega (arith, ints, c.in_units.ensures.size) in
    let share_is : c.share.result ≡ c.args.a *ℤ (c.args.r *ℤ c.args.r) = rw (same_a, same_r) at c.share.ensures.value in
    let units_are : c.in_units.result ≡ floor_div c.share.result (2 ^ 60) = rw same_share at c.in_units.ensures.value in
    let same_sum : to_z w128 (of_z w128 (c.args.b +ℤ c.in_units.result)) ≡ c.args.b +ℤ c.in_units.result = omega (arith, ints, c.in_units.ensures.size) in
    rw (same_b, same_wide_b, same_units, same_sum) (ap (λ z. c.args.b +ℤ z) (units_are ∙ ap (λ z. floor_div z (2 ^ 60)) share_is))
