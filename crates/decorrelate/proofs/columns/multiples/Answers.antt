use Rattle.std.proofs.Common.{◌≡◌, ℕ, ◌+◌, ◌*◌, ◌^◌, ◌<◌, ◌≤◌, ℤ, pos, ◌+ℤ◌, ◌*ℤ◌, unsigned_abs, arith, to_z, of_z, ap, ap₂, sym, ◌∙◌, subst}
use Rattle.std.proofs.lemmas.Int.{ints}
use Rattle.std.specs.Int.{w64, w128}
use Rattle.quadratic_form.specs.Tables.{entry, item}
use Rattle.quadratic_form.specs.declared.sizes.TheConstants.{MOST_FORM_COLUMNS}
use Rattle.decorrelate.specs.Moving.{taken}
use Rattle.whole_math.proofs.Words.{as_w128}
use Rattle.decorrelate.proofs.Words.{small_w64, multiple_w64}
use Rattle.decorrelate.proofs.MovedRows.{taken_more}
use Rattle.decorrelate.proofs.columns.multiples.Goals as goal

as_sum : (x y : ℤ) (c : ℕ) → c < MOST_FORM_COLUMNS → unsigned_abs x ≤ c * 2 ^ 104 → unsigned_abs y ≤ 2 ^ 104 → to_z w128 (of_z w128 (x +ℤ y)) ≡ x +ℤ y
as_sum x y c h g k = omega (arith, ints)

sum_size : (x y : ℤ) (c : ℕ) → unsigned_abs x ≤ c * 2 ^ 104 → unsigned_abs y ≤ 2 ^ 104 → unsigned_abs (x +ℤ y) ≤ (c + 1) * 2 ^ 104
sum_size x y c g k = omega (arith, ints)

pub loop-c-preserved : goal.loop-c-preserved
loop-c-preserved c =
    let i : ℕ = c.loop-c.c in
    let sum : ℤ = to_z w128 c.loop-c.sum-bits in
    let same_multiple : to_z w64 (of_z w64 (item c.args.ks.now i)) ≡ item c.args.ks.now i = multiple_w64 (item c.args.ks.now i) (c.requires.ks_size i (omega arith)) in
    let same_entry : to_z w64 (of_z w64 (entry c.args.map.now c.args.row i)) ≡ entry c.args.map.now c.args.row i = small_w64 (entry c.args.map.now c.args.row i) (c.requires.small i) in
    let same_product : to_z w128 (of_z w128 c.product-sum.result) ≡ c.product-sum.result = as_w128 c.product-sum.result (omega (arith, c.product-sum.ensures.size)) in
    let same_sum : to_z w128 (of_z w128 (sum +ℤ to_z w128 (of_z w128 c.product-sum.result))) ≡ sum +ℤ c.product-sum.result =
    ap (λ z. to_z w128 (of_z w128 (sum +ℤ z))) same_product ∙ as_sum sum c.product-sum.result i (omega (arith, c.requires.place)) c.loop-c.invariant.size c.product-sum.ensures.size in
    let product_is : c.product-sum.result ≡ item c.args.ks.now i *ℤ entry c.args.map.now c.args.row i = rw (c.at.ensures.value, same_multiple, same_entry) at c.product-sum.ensures.value in
    record {
      value = same_sum ∙ ap₂ (λ x y. x +ℤ y) c.loop-c.invariant.value product_is
          ∙ sym (taken_more (pos 0) (item c.args.ks.now) (entry c.args.map.now c.args.row) 0 i
          ∙ ap (λ b. taken (pos 0) (item c.args.ks.now) (entry c.args.map.now c.args.row) 0 i +ℤ (item c.args.ks.now b *ℤ entry c.args.map.now c.args.row b)) (omega arith));
      size = subst (λ (z : ℤ). unsigned_abs z ≤ (i + 1) * 2 ^ 104) (sym same_sum) (sum_size sum c.product-sum.result i c.loop-c.invariant.size c.product-sum.ensures.size);
    }
