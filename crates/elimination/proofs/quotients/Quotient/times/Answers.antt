use Rattle.std.proofs.Common.{◌≡◌, ◌^◌, ◌<◌, ℤ, pos, ◌+ℤ◌, ◌-ℤ◌, ◌*ℤ◌, arith, to_z, of_z, ◌∙◌}
use Rattle.std.proofs.lemmas.Int.{to_z-of_z}
use Rattle.std.specs.Int.{w64, w128}
use Rattle.whole_math.proofs.Words.{as_w64, as_w128}
use Rattle.elimination.proofs.ProductUnits.{rest_is, below_margin, from_none, read_nearest}
use Rattle.elimination.proofs.RowWords.{word}
use Rattle.elimination.proofs.quotients.Quotient.times.Goals as goal

pub returns-then-rest-self-clause-value : goal.returns-then-rest-self-clause-value
returns-then-rest-self-clause-value c =
    let s = c.args.self.now in
    let eight : c.eight_times.result ≡ pos 8 *ℤ c.args.q = rw (to_z-of_z w64 c.args.q c.ranges.q) at c.eight_times.ensures.value in
    let eight_kept : word c.eight_times.result ≡ c.eight_times.result = as_w64 c.eight_times.result (omega (arith, c.eight_times.ensures.size)) in
    let product : c.product-product.result ≡ c.args.self.now.ratio *ℤ (pos 8 *ℤ c.args.q) = rw (as_w64 s.ratio s.ratio_in, eight_kept, eight) at c.product-product.ensures.value in
    let product_kept : to_z w128 (of_z w128 c.product-product.result) ≡ c.product-product.result = as_w128 c.product-product.result (omega (arith, c.product-product.ensures.size)) in
    let raised : c.raised_product.result ≡ ((c.args.self.now.ratio *ℤ (pos 8 *ℤ c.args.q)) +ℤ pos (2 ^ 63)) -ℤ pos (2 ^ 55) = rw (product_kept, product) at c.raised_product.ensures.value in
    let raised_kept : to_z w128 (of_z w128 c.raised_product.result) ≡ c.raised_product.result = as_w128 c.raised_product.result (omega (arith, c.raised_product.ensures.size)) in
    let room : 0 < c.args.self.now.rest_to = omega (arith, c.if-rest-self.true) in
    let whole : ℤ = c.units_and_rest-whole.result.0 in
    let parts : c.raised_product.result ≡ (pos (2 ^ 64) *ℤ c.units_and_rest-whole.result.0) +ℤ pos c.units_and_rest-whole.result.1 = rw raised_kept at c.units_and_rest-whole.ensures.value in
    as_w64 whole (omega (arith, c.units_and_rest-whole.ensures.size))
    ∙ read_nearest s.p c.args.q s.a s.ratio whole (pos c.units_and_rest-whole.result.1) s.positive c.requires (s.near room)
    (rest_is c.raised_product.result _ whole (pos c.units_and_rest-whole.result.1) raised parts) (from_none c.units_and_rest-whole.result.1)
    (below_margin c.units_and_rest-whole.result.1 s.rest_to c.if-rest-self.true s.rest_in)
