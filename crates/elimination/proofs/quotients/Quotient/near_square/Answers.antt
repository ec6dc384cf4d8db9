use Rattle.std.proofs.Common.{◌≡◌, ◌^◌, ◌<◌, ◌≤◌, ℤ, pos, ◌+ℤ◌, ◌-ℤ◌, ◌*ℤ◌, unsigned_abs, arith, to_z, of_z, ◌∙◌}
use Rattle.std.proofs.lemmas.Int.{ints}
use Rattle.std.specs.Int.{w128}
use Rattle.whole_math.proofs.Words.{as_w64, as_w128}
use Rattle.elimination.proofs.ProductUnits.{rest_is, below_margin, from_none, read_ceil}
use Rattle.elimination.proofs.RowWords.{word, short}
use Rattle.elimination.proofs.quotients.Quotient.near_square.Goals as goal

next_word : (x : ℤ) → unsigned_abs x ≤ 2 ^ 55 → word (word x +ℤ pos 1) ≡ x +ℤ pos 1
next_word x h = omega (arith, ints)

pub returns-then-rest-self-clause-value : goal.returns-then-rest-self-clause-value
returns-then-rest-self-clause-value c =
    let s = c.args.self.now in
    let eight : c.eight_times.result ≡ pos 8 *ℤ c.args.self.now.p = rw (short s.p s.p_in) at c.eight_times.ensures.value in
    let eight_kept : word c.eight_times.result ≡ c.eight_times.result = as_w64 c.eight_times.result (omega (arith, c.eight_times.ensures.size)) in
    let product : c.product-product.result ≡ c.args.self.now.ratio *ℤ (pos 8 *ℤ c.args.self.now.p) = rw (as_w64 s.ratio s.ratio_in, eight_kept, eight) at c.product-product.ensures.value in
    let product_kept : to_z w128 (of_z w128 c.product-product.result) ≡ c.product-product.result = as_w128 c.product-product.result (omega (arith, c.product-product.ensures.size)) in
    let lowered : c.lowered_product.result ≡ ((c.args.self.now.ratio *ℤ (pos 8 *ℤ c.args.self.now.p)) -ℤ pos (2 ^ 55)) -ℤ pos 1 = rw (product_kept, product) at c.lowered_product.ensures.value in
    let lowered_kept : to_z w128 (of_z w128 c.lowered_product.result) ≡ c.lowered_product.result = as_w128 c.lowered_product.result (omega (arith, c.lowered_product.ensures.size)) in
    let room : 0 < c.args.self.now.rest_to = omega (arith, c.if-rest-self.true) in
    let whole : ℤ = c.units_and_rest-whole.result.0 in
    let parts : c.lowered_product.result ≡ (pos (2 ^ 64) *ℤ c.units_and_rest-whole.result.0) +ℤ pos c.units_and_rest-whole.result.1 = rw lowered_kept at c.units_and_rest-whole.ensures.value in
    next_word whole c.units_and_rest-whole.ensures.size
    ∙ read_ceil s.p s.a s.ratio whole (pos c.units_and_rest-whole.result.1) s.positive s.p_in (s.near room)
    (rest_is c.lowered_product.result _ whole (pos c.units_and_rest-whole.result.1) lowered parts) (from_none c.units_and_rest-whole.result.1)
    (below_margin c.units_and_rest-whole.result.1 s.rest_to c.if-rest-self.true s.rest_in)
