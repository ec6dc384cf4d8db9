use Rattle.std.proofs.Common.{◌≡◌, ◌-ℤ◌, arith, to_z, of_z, ap}
use Rattle.std.proofs.lemmas.Int.{ints, to_z-of_z}
use Rattle.std.specs.Int.{w64, w128}
use Rattle.decorrelate.proofs.gauss.minus_multiple.Goals as goal

pub returns-clause-value : goal.returns-clause-value
returns-clause-value c =
    let same_t : to_z w64 (of_z w64 c.args.t) ≡ c.args.t = to_z-of_z w64 c.args.t c.ranges.t in
    let same_k : to_z w64 (of_z w64 c.args.k) ≡ c.args.k = to_z-of_z w64 c.args.k c.ranges.k in
    let same_y : to_z w64 (of_z w64 c.args.y) ≡ c.args.y = to_z-of_z w64 c.args.y c.ranges.y in
    let same_wide_t : to_z w128 (of_z w128 c.args.t) ≡ c.args.t = omega (arith, ints) in
    let same_product : to_z w128 (of_z w128 c.product.result) ≡ c.product.result = omega (arith, ints, c.product.ensures.size) in
    let same_difference : to_z w128 (of_z w128 (c.args.t -ℤ c.product.result)) ≡ c.args.t -ℤ c.product.result = omega (arith, ints, c.product.ensures.size) in
    rw (same_t, same_wide_t, same_product, same_difference) (ap (λ z. c.args.t -ℤ z) (rw (same_k, same_y) at c.product.ensures.value))
