use Rattle.std.proofs.Common.{FitsSigned, ◌*◌, ◌^◌, ◌≤◌, ◌-ℤ◌, ◌*ℤ◌, ℤ, unsigned_abs, arith, sym, subst}
use Rattle.std.proofs.lemmas.Int.{ints, to_z-of_z}
use Rattle.std.specs.Int.{w64}
use Rattle.whole_math.proofs.Order.{abs_mul_le}
use Rattle.whole_math.proofs.Words.{as_w64}
use Rattle.normal_sum.specs.declared.places.TheConstants.{MOST_ROWS}
use Rattle.normal_sum.proofs.directions.less_product.Goals as goal

fits : (x : ℤ) → unsigned_abs x ≤ 2 ^ 57 → FitsSigned w64 x
fits x small = omega (arith, ints)

less : (x y : ℤ) → unsigned_abs x ≤ MOST_ROWS * 2 ^ 52 → unsigned_abs y ≤ 2 ^ 56 → unsigned_abs (x -ℤ y) ≤ 2 ^ 57
less x y h g = omega (arith, ints)

pub overflow_mul-result : goal.overflow_mul-result
overflow_mul-result c = rw (to_z-of_z w64 c.args.rows c.ranges.rows, to_z-of_z w64 c.args.products c.ranges.products)
    (fits (c.args.rows *ℤ c.args.products) (omega (arith, abs_mul_le c.args.rows c.args.products MOST_ROWS (2 ^ 52) c.requires.few_rows c.requires.products_size)))

pub overflow_mul-result-2 : goal.overflow_mul-result-2
overflow_mul-result-2 c = rw (to_z-of_z w64 c.args.first c.ranges.first, to_z-of_z w64 c.args.second c.ranges.second)
    (fits (c.args.first *ℤ c.args.second) (omega (arith, abs_mul_le c.args.first c.args.second (2 ^ 28) (2 ^ 28) c.requires.first_size c.requires.second_size)))

pub overflow_sub-result : goal.overflow_sub-result
overflow_sub-result c =
    let many : unsigned_abs (c.args.rows *ℤ c.args.products) ≤ MOST_ROWS * 2 ^ 52 = abs_mul_le c.args.rows c.args.products MOST_ROWS (2 ^ 52) c.requires.few_rows c.requires.products_size in
    let product : unsigned_abs (c.args.first *ℤ c.args.second) ≤ 2 ^ 56 = abs_mul_le c.args.first c.args.second (2 ^ 28) (2 ^ 28) c.requires.first_size c.requires.second_size in
    rw (
      to_z-of_z w64 c.args.rows c.ranges.rows,
      to_z-of_z w64 c.args.products c.ranges.products,
      to_z-of_z w64 c.args.first c.ranges.first,
      to_z-of_z w64 c.args.second c.ranges.second,
      as_w64 (c.args.rows *ℤ c.args.products) (omega arith),
      as_w64 (c.args.first *ℤ c.args.second) (omega arith),
    ) (fits ((c.args.rows *ℤ c.args.products) -ℤ (c.args.first *ℤ c.args.second)) (less (c.args.rows *ℤ c.args.products) (c.args.first *ℤ c.args.second) many product))

pub returns-clause-value : goal.returns-clause-value
returns-clause-value c =
    let many : unsigned_abs (c.args.rows *ℤ c.args.products) ≤ MOST_ROWS * 2 ^ 52 = abs_mul_le c.args.rows c.args.products MOST_ROWS (2 ^ 52) c.requires.few_rows c.requires.products_size in
    let product : unsigned_abs (c.args.first *ℤ c.args.second) ≤ 2 ^ 56 = abs_mul_le c.args.first c.args.second (2 ^ 28) (2 ^ 28) c.requires.first_size c.requires.second_size in
    rw (
      to_z-of_z w64 c.args.rows c.ranges.rows,
      to_z-of_z w64 c.args.products c.ranges.products,
      to_z-of_z w64 c.args.first c.ranges.first,
      to_z-of_z w64 c.args.second c.ranges.second,
      as_w64 (c.args.rows *ℤ c.args.products) (omega arith),
      as_w64 (c.args.first *ℤ c.args.second) (omega arith),
      as_w64 ((c.args.rows *ℤ c.args.products) -ℤ (c.args.first *ℤ c.args.second)) (omega (arith, less (c.args.rows *ℤ c.args.products) (c.args.first *ℤ c.args.second) many product)),
    )

pub returns-clause-size : goal.returns-clause-size
returns-clause-size c =
    let many : unsigned_abs (c.args.rows *ℤ c.args.products) ≤ MOST_ROWS * 2 ^ 52 = abs_mul_le c.args.rows c.args.products MOST_ROWS (2 ^ 52) c.requires.few_rows c.requires.products_size in
    let product : unsigned_abs (c.args.first *ℤ c.args.second) ≤ 2 ^ 56 = abs_mul_le c.args.first c.args.second (2 ^ 28) (2 ^ 28) c.requires.first_size c.requires.second_size in
    subst (λ (x : ℤ). unsigned_abs x ≤ 2 ^ 57) (sym (returns-clause-value c)) (less (c.args.rows *ℤ c.args.products) (c.args.first *ℤ c.args.second) many product)
