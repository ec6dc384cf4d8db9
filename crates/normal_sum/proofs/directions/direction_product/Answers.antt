use Rattle.std.proofs.Common.{rules, FitsSigned, ◌^◌, ◌<◌, ◌≤◌, ◌*ℤ◌, ℤ, pos, length, unsigned_abs, arith, sym, subst}
use Rattle.std.proofs.lemmas.Int.{ints}
use Rattle.std.specs.Int.{w64}
use Rattle.whole_math.proofs.Order.{abs_mul_le}
use Rattle.whole_math.proofs.Words.{as_w64}
use Rattle.obs_rows.specs.Data.{number_at}
use Rattle.normal_sum.proofs.directions.direction_product.Goals as goal

fits : (x : ℤ) → unsigned_abs x ≤ 2 ^ 48 → FitsSigned w64 x
fits x small = omega (arith, ints)

pub overflow_mul-result : goal.overflow_mul-result
overflow_mul-result c =
    let first_in : c.args.first < length c.args.row.now.u = search rules in
    let second_in : c.args.second < length c.args.row.now.u = search rules in
    let first_small : unsigned_abs (number_at c.args.row.now.u c.args.first) ≤ 2 ^ 24 = c.args.row.now.u_in c.args.first (pos 0) first_in in
    let second_small : unsigned_abs (number_at c.args.row.now.u c.args.second) ≤ 2 ^ 24 = c.args.row.now.u_in c.args.second (pos 0) second_in in
    let product : unsigned_abs (number_at c.args.row.now.u c.args.first *ℤ number_at c.args.row.now.u c.args.second) ≤ 2 ^ 48 =
    abs_mul_le (number_at c.args.row.now.u c.args.first) (number_at c.args.row.now.u c.args.second) (2 ^ 24) (2 ^ 24) first_small second_small in
    rw (as_w64 (number_at c.args.row.now.u c.args.first) (omega arith), as_w64 (number_at c.args.row.now.u c.args.second) (omega arith))
    (fits (number_at c.args.row.now.u c.args.first *ℤ number_at c.args.row.now.u c.args.second) product)

pub returns-clause-value : goal.returns-clause-value
returns-clause-value c =
    let first_in : c.args.first < length c.args.row.now.u = search rules in
    let second_in : c.args.second < length c.args.row.now.u = search rules in
    let first_small : unsigned_abs (number_at c.args.row.now.u c.args.first) ≤ 2 ^ 24 = c.args.row.now.u_in c.args.first (pos 0) first_in in
    let second_small : unsigned_abs (number_at c.args.row.now.u c.args.second) ≤ 2 ^ 24 = c.args.row.now.u_in c.args.second (pos 0) second_in in
    let product : unsigned_abs (number_at c.args.row.now.u c.args.first *ℤ number_at c.args.row.now.u c.args.second) ≤ 2 ^ 48 =
    abs_mul_le (number_at c.args.row.now.u c.args.first) (number_at c.args.row.now.u c.args.second) (2 ^ 24) (2 ^ 24) first_small second_small in
    rw (
      as_w64 (number_at c.args.row.now.u c.args.first) (omega arith),
      as_w64 (number_at c.args.row.now.u c.args.second) (omega arith),
      as_w64 (number_at c.args.row.now.u c.args.first *ℤ number_at c.args.row.now.u c.args.second) (omega arith),
    )

pub returns-clause-size : goal.returns-clause-size
returns-clause-size c =
    let first_in : c.args.first < length c.args.row.now.u = search rules in
    let second_in : c.args.second < length c.args.row.now.u = search rules in
    let first_small : unsigned_abs (number_at c.args.row.now.u c.args.first) ≤ 2 ^ 24 = c.args.row.now.u_in c.args.first (pos 0) first_in in
    let second_small : unsigned_abs (number_at c.args.row.now.u c.args.second) ≤ 2 ^ 24 = c.args.row.now.u_in c.args.second (pos 0) second_in in
    subst (λ (x : ℤ). unsigned_abs x ≤ 2 ^ 48) (sym (returns-clause-value c))
    (abs_mul_le (number_at c.args.row.now.u c.args.first) (number_at c.args.row.now.u c.args.second) (2 ^ 24) (2 ^ 24) first_small second_small)
