use Rattle.std.proofs.Common.{◌≡◌, ℕ, ◌+◌, ◌*◌, ◌^◌, ◌<◌, ◌≤◌, ℤ, ◌+ℤ◌, ◌*ℤ◌, unsigned_abs, arith, to_z, of_z, ap, ap₂, sym, ◌∙◌, subst, zero-add}
use Rattle.std.specs.Int.{w64, w128}
use Rattle.decorrelate.proofs.Words.{rest_w64}
use Rattle.quadratic_form.specs.declared.sizes.TheConstants.{MOST_FORM_COLUMNS}
use Rattle.quadratic_form.specs.Tables.{entry}
use Rattle.int_search.specs.Sums.{total}
use Rattle.int_search.specs.Transformed.{with_constant}
use Rattle.int_search.proofs.TotalLaws.{total_last}
use Rattle.whole_math.proofs.Words.{as_w128}
use Rattle.int_search.proofs.Words.{wide_sum_word, wide_sum_size}
use Rattle.int_search.proofs.coordinates.whole.Goals as goal

pub loop-a-preserved : goal.loop-a-preserved
loop-a-preserved c =
    let a : ℕ = c.loop-a.a in
    let sum : ℤ = to_z w128 c.loop-a.sum-bits in
    let term : ℕ → ℤ = λ a. entry c.args.halves.now a c.args.j *ℤ with_constant c.args.n (entry c.args.map.now) a c.args.i in
    let map_entry_is : to_z w64 (of_z w64 c.map_entry.result) ≡ with_constant c.args.n (entry c.args.map.now) a c.args.i = rest_w64 c.map_entry.result c.map_entry.ensures.size ∙ c.map_entry.ensures.value in
    let half_small : unsigned_abs (entry c.args.halves.now a c.args.j) ≤ 2 ^ 88 = c.requires.halves a c.loop-a-test.true in
    let half_is : to_z w128 (of_z w128 c.at.result) ≡ entry c.args.halves.now a c.args.j = ap (λ z. to_z w128 (of_z w128 z)) c.at.ensures.value
    ∙ as_w128 (entry c.args.halves.now a c.args.j) (omega (arith, half_small)) in
    let product_is : c.half_product-sum.result ≡ term a = c.half_product-sum.ensures.value ∙ ap₂ (λ x y. x *ℤ y) half_is map_entry_is in
    let product_kept : to_z w128 (of_z w128 c.half_product-sum.result) ≡ c.half_product-sum.result = as_w128 c.half_product-sum.result (omega (arith, c.half_product-sum.ensures.size)) in
    let place_in_form : a < MOST_FORM_COLUMNS = omega (arith, c.requires.size, c.loop-a-test.true) in
    let sum_kept : to_z w128 (of_z w128 (sum +ℤ to_z w128 (of_z w128 c.half_product-sum.result))) ≡ sum +ℤ c.half_product-sum.result = ap (λ z. to_z w128 (of_z w128 (sum +ℤ z))) product_kept
    ∙ wide_sum_word sum c.half_product-sum.result a place_in_form c.loop-a.invariant.size c.half_product-sum.ensures.size in
    record {
      value = sum_kept ∙ ap₂ (λ x y. x +ℤ y) c.loop-a.invariant.value product_is ∙ sym (total_last term 0 a ∙ ap (λ (i : ℕ). total term 0 a +ℤ term i) (zero-add a));
      size = subst (λ (z : ℤ). unsigned_abs z ≤ (a + 1) * 2 ^ 118) (sym sum_kept) (wide_sum_size sum c.half_product-sum.result a c.loop-a.invariant.size c.half_product-sum.ensures.size);
    }
