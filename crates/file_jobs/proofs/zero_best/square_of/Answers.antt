use Rattle.std.proofs.Common.{◌≡◌, ◌≤◌, ◌^◌, ◌*◌, ap, subst, sym, ◌∙◌, arith, of_z, to_z, FitsSigned, lit<, ℤ, ◌≤ℤ◌, pos, unsigned_abs}
use Rattle.std.specs.Int.{w128}
use Rattle.std.proofs.lemmas.Int.{ints, to_z-of_z, fits_signed_mul}
use Rattle.file_jobs.specs.ZeroSums.{square}
use Rattle.whole_math.proofs.Order.{square_nn, mul_bounds}
use Rattle.file_jobs.proofs.zero_best.square_of.Goals as goal

pub overflow_mul-result : goal.overflow_mul-result
overflow_mul-result c = fits_signed_mul w128 (to_z w128 (of_z w128 c.args.x)) (to_z w128 (of_z w128 c.args.x)) (2 ^ 49) (2 ^ 49) (omega (arith, ints)) (omega (arith, ints)) (lit< tt)

pub returns : goal.returns
returns c =
    let same_x : to_z w128 (of_z w128 c.args.x) ≡ c.args.x = omega (arith, ints) in
    let small : unsigned_abs c.args.x ≤ 2 ^ 49 = omega (arith, ints) in
    let fits : FitsSigned w128 (square c.args.x) = fits_signed_mul w128 c.args.x c.args.x (2 ^ 49) (2 ^ 49) small small (lit< tt) in
    let value = ap (λ (y : ℤ). to_z w128 (of_z w128 (square y))) same_x ∙ to_z-of_z w128 (square c.args.x) fits in
    record {
      value = value;
      low = subst (λ (y : ℤ). pos 0 ≤ℤ y) (sym value) (square_nn c.args.x);
      high = subst (λ (y : ℤ). y ≤ℤ pos (2 ^ 49 * 2 ^ 49)) (sym value) (mul_bounds c.args.x c.args.x (2 ^ 49) (2 ^ 49) c.requires.low c.requires.high c.requires.low c.requires.high).1;
    }
