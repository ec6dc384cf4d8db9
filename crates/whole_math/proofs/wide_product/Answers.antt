-- The product fits 128 bits.
use Rattle.std.proofs.Common.{◌≡◌, ◌+◌, ◌^◌, ◌≤◌, ℤ, ◌*ℤ◌, unsigned_abs, arith, sym, subst, ◌∙◌, to_z, of_z}
use Rattle.std.proofs.lemmas.Int.{ints, to_z-of_z}
use Rattle.std.specs.Int.{w64, w128}
use Rattle.whole_math.proofs.Words.{as_w128}
use Rattle.whole_math.proofs.Products.{product_size, product_fits}
use Rattle.whole_math.proofs.wide_product.Goals as goal

pub overflow_mul-result : goal.overflow_mul-result
overflow_mul-result g c =
    let small : unsigned_abs (c.args.x *ℤ c.args.y) ≤ 2 ^ 126 = product_fits c.args.x c.args.y g.row.A g.row.B c.requires.x_size c.requires.y_size c.requires.fits in
    let x_kept : to_z w64 (of_z w64 c.args.x) ≡ c.args.x = to_z-of_z w64 c.args.x c.ranges.x in
    let x_wide : to_z w128 (of_z w128 c.args.x) ≡ c.args.x = omega (arith, ints, c.ranges.x) in
    let y_kept : to_z w128 (of_z w128 c.args.y) ≡ c.args.y = to_z-of_z w128 c.args.y c.ranges.y in
    rw (x_kept, x_wide, y_kept) (omega (arith, ints, small))

pub returns-clause-value : goal.returns-clause-value
returns-clause-value g c =
    let x_kept : to_z w64 (of_z w64 c.args.x) ≡ c.args.x = to_z-of_z w64 c.args.x c.ranges.x in
    let x_wide : to_z w128 (of_z w128 c.args.x) ≡ c.args.x = omega (arith, ints, c.ranges.x) in
    let y_kept : to_z w128 (of_z w128 c.args.y) ≡ c.args.y = to_z-of_z w128 c.args.y c.ranges.y in
    rw (x_kept, x_wide, y_kept)
    (as_w128 (c.args.x *ℤ c.args.y) (product_fits c.args.x c.args.y g.row.A g.row.B c.requires.x_size c.requires.y_size c.requires.fits))

pub returns-clause-size : goal.returns-clause-size
returns-clause-size g c = subst (λ (z : ℤ). unsigned_abs z ≤ 2 ^ (g.row.A + g.row.B)) (sym (returns-clause-value g c))
    (product_size c.args.x c.args.y g.row.A g.row.B c.requires.x_size c.requires.y_size)
