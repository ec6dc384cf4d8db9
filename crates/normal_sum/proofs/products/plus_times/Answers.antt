use Rattle.std.proofs.Common.{◌≡◌, ◌+◌, ◌≤◌, ◌^◌, ◌+ℤ◌, ◌*ℤ◌, arith, unsigned_abs, to_z, of_z}
use Rattle.std.proofs.lemmas.Int.{to_z-of_z}
use Rattle.std.specs.Int.{w64, w128}
use Rattle.whole_math.proofs.Order.{abs_mul_le}
use Rattle.whole_math.proofs.Words.{as_w128, size_add}
use Rattle.normal_sum.proofs.products.plus_times.Goals as goal

pub returns : goal.returns
returns c =
    let product_small : unsigned_abs (c.args.factor *ℤ c.args.value) ≤ 2 ^ 115 = abs_mul_le c.args.factor c.args.value (2 ^ 77) (2 ^ 38) c.requires.factor_size c.requires.value_size in
    let sum_at_most : unsigned_abs (c.args.sum +ℤ (c.args.factor *ℤ c.args.value)) ≤ unsigned_abs c.args.sum + unsigned_abs (c.args.factor *ℤ c.args.value) =
    size_add c.args.sum (c.args.factor *ℤ c.args.value) in
    let value_kept : to_z w128 (of_z w128 c.args.value) ≡ c.args.value = as_w128 c.args.value (omega (arith, c.requires.value_size)) in
    rw (
      to_z-of_z w128 c.args.sum c.ranges.sum,
      to_z-of_z w128 c.args.factor c.ranges.factor,
      to_z-of_z w64 c.args.value c.ranges.value,
      value_kept,
      as_w128 (c.args.factor *ℤ c.args.value)
          (omega arith),
      as_w128 (c.args.sum +ℤ (c.args.factor *ℤ c.args.value)) (omega (arith, c.requires.sum_size)),
    )
