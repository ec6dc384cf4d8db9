use Rattle.std.proofs.Common.{◌≡◌, ℕ, ◌+◌, ◌*◌, ◌^◌, ◌<◌, ◌≤◌, ℤ, ◌+ℤ◌, ◌*ℤ◌, unsigned_abs, arith, to_z, of_z, ap, ap₂, sym, ◌∙◌, subst, zero-add}
use Rattle.std.specs.Int.{w64, w128}
use Rattle.decorrelate.proofs.Words.{rest_w64, narrow_w64}
use Rattle.quadratic_form.specs.declared.sizes.TheConstants.{MOST_FORM_COLUMNS}
use Rattle.quadratic_form.specs.Tables.{entry}
use Rattle.int_search.specs.Sums.{total}
use Rattle.int_search.specs.Transformed.{with_constant}
use Rattle.int_search.proofs.TotalLaws.{total_last}
use Rattle.whole_math.proofs.Words.{as_w128}
use Rattle.int_search.proofs.Words.{sum_word, sum_size}
use Rattle.int_search.proofs.halves.half.Goals as goal

pub loop-b-preserved : goal.loop-b-preserved
loop-b-preserved c =
    let b : ℕ = c.loop-b.b in
    let sum : ℤ = to_z w128 c.loop-b.sum-bits in
    let term : ℕ → ℤ = λ b. with_constant c.args.n (entry c.args.map.now) b c.args.j *ℤ entry c.args.p.now c.args.a b in
    let map_entry_is : to_z w64 (of_z w64 c.map_entry.result) ≡ with_constant c.args.n (entry c.args.map.now) b c.args.j = rest_w64 c.map_entry.result c.map_entry.ensures.size ∙ c.map_entry.ensures.value in
    let form_entry_is : to_z w64 (of_z w64 c.at.result) ≡ entry c.args.p.now c.args.a b = ap (λ z. to_z w64 (of_z w64 z)) c.at.ensures.value
    ∙ narrow_w64 (entry c.args.p.now c.args.a b) (c.requires.form c.args.a b) in
    let product_is : c.product-sum.result ≡ term b = c.product-sum.ensures.value ∙ ap₂ (λ x y. x *ℤ y) map_entry_is form_entry_is in
    let product_kept : to_z w128 (of_z w128 c.product-sum.result) ≡ c.product-sum.result = as_w128 c.product-sum.result (omega (arith, c.product-sum.ensures.size)) in
    let place_in_form : b < MOST_FORM_COLUMNS = omega (arith, c.requires.size, c.loop-b-test.true) in
    let sum_kept : to_z w128 (of_z w128 (sum +ℤ to_z w128 (of_z w128 c.product-sum.result))) ≡ sum +ℤ c.product-sum.result = ap (λ z. to_z w128 (of_z w128 (sum +ℤ z))) product_kept
    ∙ sum_word sum c.product-sum.result b place_in_form c.loop-b.invariant.size c.product-sum.ensures.size in
    record {
      value = sum_kept ∙ ap₂ (λ x y. x +ℤ y) c.loop-b.invariant.value product_is ∙ sym (total_last term 0 b ∙ ap (λ (i : ℕ). total term 0 b +ℤ term i) (zero-add b));
      size = subst (λ (z : ℤ). unsigned_abs z ≤ (b + 1) * 2 ^ 82) (sym sum_kept) (sum_size sum c.product-sum.result b c.loop-b.invariant.size c.product-sum.ensures.size);
    }
