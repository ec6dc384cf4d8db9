use Rattle.std.proofs.Common.{◌≡◌, ◌^◌, ◌+◌, ◌≤◌, ℤ, pos, ◌+ℤ◌, ◌*ℤ◌, unsigned_abs, to_z, of_z, arith, ap, ap₂, ◌∙◌}
use Rattle.std.proofs.lemmas.Int.{to_z-of_z, ints}
use Rattle.std.specs.Int.{w64, w128}
use Rattle.whole_math.proofs.Words.{as_w128, size_add}
use Rattle.integer_form.proofs.products.column_value.Goals as goal

twice : (b : ℤ) → unsigned_abs b ≤ 2 ^ 118 → unsigned_abs (pos 2 *ℤ b) ≤ 2 ^ 119
twice b h = omega (arith, ints)

whole : (a b : ℤ) → unsigned_abs a ≤ 2 ^ 112 → unsigned_abs b ≤ 2 ^ 118 → unsigned_abs (a +ℤ pos 2 *ℤ b) ≤ 2 ^ 120
whole a b h g = let sum_size_at_most : unsigned_abs (a +ℤ pos 2 *ℤ b) ≤ unsigned_abs a + unsigned_abs (pos 2 *ℤ b) = size_add a (pos 2 *ℤ b) in let double_small : unsigned_abs (pos 2 *ℤ b) ≤ 2 ^ 119 = twice b g in omega arith

-- what the code adds
sum_is : (a b : ℤ) → unsigned_abs a ≤ 2 ^ 112 → unsigned_abs b ≤ 2 ^ 118 →
    to_z w128 (of_z w128 a) +ℤ to_z w128 (of_z w128 (pos 2 *ℤ to_z w128 (of_z w128 b))) ≡ a +ℤ pos 2 *ℤ b
sum_is a b h g =
    let double_small : unsigned_abs (pos 2 *ℤ b) ≤ 2 ^ 119 = twice b g in
    ap₂ (λ x y. x +ℤ y) (as_w128 a (omega arith)) (ap (λ x. to_z w128 (of_z w128 (pos 2 *ℤ x))) (as_w128 b (omega arith)) ∙ as_w128 (pos 2 *ℤ b) (omega arith))

pub overflow_add-result : goal.overflow_add-result
overflow_add-result c =
    let sum_small : unsigned_abs (c.wide_product.result +ℤ pos 2 *ℤ c.wide_product-2.result) ≤ 2 ^ 120 = whole c.wide_product.result c.wide_product-2.result c.wide_product.ensures.size c.wide_product-2.ensures.size in
    rw (sum_is c.wide_product.result c.wide_product-2.result c.wide_product.ensures.size c.wide_product-2.ensures.size) (omega (arith, ints))

pub returns-clause-value : goal.returns-clause-value
returns-clause-value c =
    let sum_small : unsigned_abs (c.wide_product.result +ℤ pos 2 *ℤ c.wide_product-2.result) ≤ 2 ^ 120 = whole c.wide_product.result c.wide_product-2.result c.wide_product.ensures.size c.wide_product-2.ensures.size in
    let same_own : to_z w64 (of_z w64 c.args.own) ≡ c.args.own = to_z-of_z w64 c.args.own c.ranges.own in
    let same_x : to_z w64 (of_z w64 c.args.x) ≡ c.args.x = to_z-of_z w64 c.args.x c.ranges.x in
    let same_later : to_z w128 (of_z w128 c.args.later) ≡ c.args.later = to_z-of_z w128 c.args.later c.ranges.later in
    let square_is : to_z w128 (of_z w128 c.product.result) ≡ c.args.x *ℤ c.args.x = as_w128 c.product.result (omega (arith, c.product.ensures.size)) ∙ c.product.ensures.value ∙ ap (λ z. z *ℤ z) same_x in
    rw (sum_is c.wide_product.result c.wide_product-2.result c.wide_product.ensures.size c.wide_product-2.ensures.size)
    (as_w128 (c.wide_product.result +ℤ pos 2 *ℤ c.wide_product-2.result) (omega arith)
    ∙ ap₂ (λ a b. a +ℤ pos 2 *ℤ b) (c.wide_product.ensures.value ∙ ap₂ (λ a b. a *ℤ b) same_own square_is) (c.wide_product-2.ensures.value ∙ ap₂ (λ a b. a *ℤ b) same_x same_later))

pub returns-clause-size : goal.returns-clause-size
returns-clause-size c =
    let sum_small : unsigned_abs (c.wide_product.result +ℤ pos 2 *ℤ c.wide_product-2.result) ≤ 2 ^ 120 = whole c.wide_product.result c.wide_product-2.result c.wide_product.ensures.size c.wide_product-2.ensures.size in
    rw (sum_is c.wide_product.result c.wide_product-2.result c.wide_product.ensures.size c.wide_product-2.ensures.size)
    (rw (as_w128 (c.wide_product.result +ℤ pos 2 *ℤ c.wide_product-2.result) (omega arith)) sum_small)
