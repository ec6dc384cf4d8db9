use Rattle.std.proofs.Common.{◌+◌, ◌≤◌, ◌^◌, ℤ, FitsSigned, ◌+ℤ◌, ◌*ℤ◌, arith, unsigned_abs}
use Rattle.std.proofs.lemmas.Int.{ints, to_z-of_z}
use Rattle.std.specs.Int.{w64, w128}
use Rattle.whole_math.proofs.Order.{abs_mul_le}
use Rattle.whole_math.proofs.Words.{as_w128, size_add}
use Rattle.normal_sum.proofs.products.plus_short.Goals as goal

fits : (x : ℤ) → unsigned_abs x ≤ 2 ^ 126 → FitsSigned w128 x
fits x small = omega (arith, ints)

pub overflow_add-result : goal.overflow_add-result
overflow_add-result c =
    let product : unsigned_abs (c.args.factor *ℤ c.args.value) ≤ 2 ^ 100 = abs_mul_le c.args.factor c.args.value (2 ^ 62) (2 ^ 38) c.requires.factor_size c.requires.value_size in
    let whole : unsigned_abs (c.args.sum +ℤ (c.args.factor *ℤ c.args.value)) ≤ unsigned_abs c.args.sum + unsigned_abs (c.args.factor *ℤ c.args.value) =
    size_add c.args.sum (c.args.factor *ℤ c.args.value) in
    rw (
      to_z-of_z w128 c.args.sum c.ranges.sum,
      to_z-of_z w64 c.args.factor c.ranges.factor,
      to_z-of_z w64 c.args.value c.ranges.value,
      as_w128 c.args.factor (omega (arith, c.requires.factor_size)),
      as_w128 c.args.value (omega (arith, c.requires.value_size)),
      as_w128 (c.args.factor *ℤ c.args.value) (omega arith),
    ) (fits (c.args.sum +ℤ (c.args.factor *ℤ c.args.value)) (omega (arith, c.requires.sum_size)))

pub returns : goal.returns
returns c =
    let product : unsigned_abs (c.args.factor *ℤ c.args.value) ≤ 2 ^ 100 = abs_mul_le c.args.factor c.args.value (2 ^ 62) (2 ^ 38) c.requires.factor_size c.requires.value_size in
    let whole : unsigned_abs (c.args.sum +ℤ (c.args.factor *ℤ c.args.value)) ≤ unsigned_abs c.args.sum + unsigned_abs (c.args.factor *ℤ c.args.value) =
    size_add c.args.sum (c.args.factor *ℤ c.args.value) in
    rw (
      to_z-of_z w128 c.args.sum c.ranges.sum,
      to_z-of_z w64 c.args.factor c.ranges.factor,
      to_z-of_z w64 c.args.value c.ranges.value,
      as_w128 c.args.factor (omega (arith, c.requires.factor_size)),
      as_w128 c.args.value (omega (arith, c.requires.value_size)),
      as_w128 (c.args.factor *ℤ c.args.value) (omega arith),
      as_w128 (c.args.sum +ℤ (c.args.factor *ℤ c.args.value)) (omega (arith, c.requires.sum_size)),
    )
