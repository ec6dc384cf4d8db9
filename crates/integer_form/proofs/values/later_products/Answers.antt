use Rattle.std.proofs.Common.{◌≡◌, ℕ, suc, ◌+◌, ◌-◌, ◌*◌, ◌^◌, ◌<◌, ◌≤◌, ℤ, pos, ◌+ℤ◌, ◌*ℤ◌, unsigned_abs, to_z, of_z, slice_index_or, arith, sym, ap, ap₂, ◌∙◌, subst}
use Rattle.std.specs.Int.{w64, w128}
use Rattle.whole_math.proofs.Order.{abs_mul_le}
use Rattle.whole_math.specs.Vectors.{dot}
use Rattle.quadratic_form.specs.Places.{list_from}
use Rattle.quadratic_form.specs.declared.sizes.TheConstants.{MOST_FORM_COLUMNS}
use Rattle.quadratic_form.specs.Tables.{entry, item}
use Rattle.whole_math.proofs.Words.{as_w64, as_w128, size_add}
use Rattle.integer_form.proofs.PlaceLaws.{dot_more}
use Rattle.integer_form.proofs.values.later_products.Goals as goal

pub loop-c-preserved : goal.loop-c-preserved
loop-c-preserved c =
    let k : ℕ = c.loop-c.c in
    let r : ℕ = c.args.r in
    let p : ℕ → ℤ = entry c.args.p.now c.args.r in
    let x : ℕ → ℤ = item c.args.x.now in
    let o : ℤ = to_z w128 c.loop-c.sum-bits in
    let t : ℤ = c.product-sum.result in
    let small : unsigned_abs (entry c.args.p.now c.args.r c.loop-c.c) < 2 ^ 52 = c.requires.entries c.args.r c.loop-c.c in
    let narrow : unsigned_abs (slice_index_or c.args.x.now c.loop-c.c (pos 0)) ≤ 2 ^ 30 = c.requires.numbers c.loop-c.c c.loop-c-test.true in
    let product : unsigned_abs (entry c.args.p.now c.args.r c.loop-c.c *ℤ slice_index_or c.args.x.now c.loop-c.c (pos 0)) ≤ 2 ^ 82 =
    abs_mul_le (entry c.args.p.now c.args.r c.loop-c.c) (slice_index_or c.args.x.now c.loop-c.c (pos 0)) (2 ^ 52) (2 ^ 30) (omega arith) narrow in
    let same_entry : to_z w64 (of_z w64 c.at.result) ≡ entry c.args.p.now c.args.r c.loop-c.c =
    as_w64 c.at.result (omega (arith, subst (λ (z : ℤ). unsigned_abs z < 2 ^ 52) (sym c.at.ensures.value) small)) ∙ c.at.ensures.value in
    let same_number : to_z w64 (of_z w64 (slice_index_or c.args.x.now c.loop-c.c (pos 0))) ≡ slice_index_or c.args.x.now c.loop-c.c (pos 0) =
    as_w64 (slice_index_or c.args.x.now c.loop-c.c (pos 0)) (omega arith) in
    let product_is : t ≡ p k *ℤ x k = c.product-sum.ensures.value ∙ ap₂ (λ a b. a *ℤ b) same_entry same_number in
    let product_small : unsigned_abs t ≤ 2 ^ 82 = subst (λ (z : ℤ). unsigned_abs z ≤ 2 ^ 82) (sym product_is) product in
    let sum_size_at_most : unsigned_abs (o +ℤ t) ≤ unsigned_abs o + unsigned_abs t = size_add o t in
    let sum_small : unsigned_abs o ≤ k * 2 ^ 82 = c.loop-c.invariant.size in
    let column_below : k < MOST_FORM_COLUMNS = omega (arith, c.loop-c-test.true, c.requires.columns_in) in
    let same_sum : to_z w128 (of_z w128 (to_z w128 c.loop-c.sum-bits +ℤ to_z w128 (of_z w128 t))) ≡ o +ℤ t =
    ap (λ z. to_z w128 (of_z w128 z)) (ap (λ b. o +ℤ b) (as_w128 t (omega arith))) ∙ as_w128 (o +ℤ t) (omega arith) in
    let m : ℕ = k - suc r in
    let next : suc m ≡ (k + 1) - suc r = omega (arith, c.loop-c.invariant.from) in
    let here : suc r + m ≡ k = omega (arith, c.loop-c.invariant.from) in
    record {
      from = omega (arith, c.loop-c.invariant.from);
      value = same_sum ∙ ap₂ (λ a b. a +ℤ b) c.loop-c.invariant.value (product_is ∙ sym (ap (λ (i : ℕ). p i *ℤ x i) here)) ∙ sym (dot_more p x (suc r) m)
          ∙ ap (λ (i : ℕ). dot (list_from p (suc r) i) (list_from x (suc r) i)) next;
      size = rw same_sum (omega arith);
    }
