use Rattle.std.proofs.Common.{◌≡◌, ◌^◌, ◌≤◌, ℤ, pos, ◌-ℤ◌, ◌*ℤ◌, unsigned_abs, arith, to_z, of_z, ap₂, ◌∙◌}
use Rattle.std.proofs.lemmas.Int.{ints, to_z-of_z}
use Rattle.std.specs.Int.{w64, w128}
use Rattle.whole_math.proofs.Words.{as_w128}
use Rattle.elimination.proofs.quotients.unit_missed.Goals as goal

difference_size : (x y : ℤ) → unsigned_abs x ≤ 2 ^ 114 → unsigned_abs y ≤ 2 ^ 114 → unsigned_abs (x -ℤ y) ≤ 2 ^ 126
difference_size x y h g = omega (arith, ints)

pub returns-clause-value : goal.returns-clause-value
returns-clause-value c =
    let ratio_kept : to_z w64 (of_z w64 c.args.ratio) ≡ c.args.ratio = to_z-of_z w64 c.args.ratio c.ranges.ratio in
    let divisor_kept : to_z w64 (of_z w64 c.args.a) ≡ c.args.a = to_z-of_z w64 c.args.a c.ranges.a in
    let pivot_kept : to_z w64 (of_z w64 c.args.p) ≡ c.args.p = to_z-of_z w64 c.args.p c.ranges.p in
    let first : c.product.result ≡ c.args.ratio *ℤ c.args.a = rw (ratio_kept, divisor_kept) at c.product.ensures.value in
    let second : c.product-2.result ≡ pos (2 ^ 61) *ℤ c.args.p = rw pivot_kept at c.product-2.ensures.value in
    ap₂ (λ x y. to_z w128 (of_z w128 (x -ℤ y))) (as_w128 c.product.result (omega (arith, c.product.ensures.size))) (as_w128 c.product-2.result (omega (arith, c.product-2.ensures.size)))
    ∙ as_w128 (c.product.result -ℤ c.product-2.result) (difference_size c.product.result c.product-2.result c.product.ensures.size c.product-2.ensures.size)
    ∙ ap₂ (λ x y. x -ℤ y) first second
