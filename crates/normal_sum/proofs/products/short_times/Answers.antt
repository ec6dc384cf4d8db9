use Rattle.std.proofs.Common.{◌≤◌, ◌^◌, ℤ, ◌*ℤ◌, unsigned_abs, sym, subst}
use Rattle.std.proofs.lemmas.Int.{to_z-of_z}
use Rattle.std.specs.Int.{w64}
use Rattle.whole_math.proofs.Order.{abs_mul_le}
use Rattle.whole_math.proofs.Words.{as_w64}
use Rattle.normal_sum.proofs.products.short_times.Goals as goal

pub returns-clause-value : goal.returns-clause-value
returns-clause-value c =
    let product : unsigned_abs (c.args.weight *ℤ c.args.value) ≤ 2 ^ 62 = abs_mul_le c.args.weight c.args.value (2 ^ 32) (2 ^ 30) c.requires.weight_size c.requires.value_size in
    rw (to_z-of_z w64 c.args.weight c.ranges.weight, to_z-of_z w64 c.args.value c.ranges.value, as_w64 (c.args.weight *ℤ c.args.value) product)

pub returns-clause-size : goal.returns-clause-size
returns-clause-size c =
    let product : unsigned_abs (c.args.weight *ℤ c.args.value) ≤ 2 ^ 62 = abs_mul_le c.args.weight c.args.value (2 ^ 32) (2 ^ 30) c.requires.weight_size c.requires.value_size in
    subst (λ (x : ℤ). unsigned_abs x ≤ 2 ^ 62) (sym (returns-clause-value c)) product
