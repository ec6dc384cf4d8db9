use Rattle.std.proofs.Common.{◌≡◌, ℕ, suc, ◌+◌, ◌-◌, ◌*◌, ◌^◌, ◌<◌, ◌≤◌, [], ◌∷◌, ◌++◌, ℤ, pos, ◌+ℤ◌, ◌*ℤ◌, unsigned_abs, to_z, of_z, arith, sym, ap, ap₂, ◌∙◌, subst}
use Rattle.std.specs.Int.{w64, w128}
use Rattle.whole_math.specs.Vectors.{dot}
use Rattle.quadratic_form.specs.Places.{list_from}
use Rattle.quadratic_form.specs.declared.sizes.TheConstants.{MOST_COLUMNS}
use Rattle.quadratic_form.specs.Tables.{entry, item}
use Rattle.whole_math.proofs.Words.{as_w64, as_w128, size_add}
use Rattle.integer_form.proofs.PlaceLaws.{dot_more}
use Rattle.integer_form.proofs.FloatLaws.{sum_with_constant}
use Rattle.integer_form.proofs.float_point.factor_sum.Goals as goal

-- a sum so far, and one product more
sum_is : (o t : ℤ) (k : ℕ) → k < MOST_COLUMNS → unsigned_abs o ≤ k * 2 ^ 98 → unsigned_abs t ≤ 2 ^ 98 → (to_z w128 (of_z w128 (o +ℤ to_z w128 (of_z w128 t))) ≡ o +ℤ t) ×
    (unsigned_abs (o +ℤ t) ≤ (k + 1) * 2 ^ 98)
sum_is o t k h p q = let sum_size_at_most : unsigned_abs (o +ℤ t) ≤ unsigned_abs o + unsigned_abs t = size_add o t in
    (ap (λ a. to_z w128 (of_z w128 (o +ℤ a))) (as_w128 t (omega arith)) ∙ as_w128 (o +ℤ t) (omega arith), omega arith)

pub loop-i-preserved : goal.loop-i-preserved
loop-i-preserved g c =
    let k : ℕ = c.loop-i.i in
    let j : ℕ = c.args.j in
    let a : ℕ → ℤ = λ i. entry c.args.l.now i c.args.j in
    let b : ℕ → ℤ = item c.args.numbers.now in
    let t : ℤ = c.product-sum.result in
    let o : ℤ = to_z w128 c.loop-i.sum-bits in
    let small : unsigned_abs (entry c.args.l.now c.loop-i.i c.args.j) < 2 ^ 52 = c.requires.factors c.loop-i.i c.args.j in
    let narrow : unsigned_abs (item c.args.numbers.now c.loop-i.i) < 2 ^ 46 = c.requires.narrow c.loop-i.i c.loop-i.invariant.from c.loop-i-test.true in
    let entry_is : to_z w64 (of_z w64 c.at.result) ≡ a k = as_w64 c.at.result (omega (arith, subst (λ (z : ℤ). unsigned_abs z < 2 ^ 52) (sym c.at.ensures.value) small)) ∙ c.at.ensures.value in
    let number_is : to_z w64 (of_z w64 (item c.args.numbers.now c.loop-i.i)) ≡ b k = as_w64 (item c.args.numbers.now c.loop-i.i) (omega arith) in
    let product_is : t ≡ a k *ℤ b k = c.product-sum.ensures.value ∙ ap₂ (λ x y. x *ℤ y) entry_is number_is in
    let column_below : k < MOST_COLUMNS = omega (arith, c.loop-i-test.true, c.requires.columns_in) in
    let sum_fits : (to_z w128 (of_z w128 (o +ℤ to_z w128 (of_z w128 t))) ≡ o +ℤ t) × (unsigned_abs (o +ℤ t) ≤ (k + 1) * 2 ^ 98) = sum_is o t k column_below c.loop-i.invariant.size c.product-sum.ensures.size in
    let m : ℕ = k - suc j in
    let next : suc m ≡ (k + 1) - suc j = omega (arith, c.loop-i.invariant.from) in
    let here : suc j + m ≡ k = omega (arith, c.loop-i.invariant.from) in
    record {
      from = omega (arith, c.loop-i.invariant.from);
      value = sum_fits.0 ∙ ap₂ (λ x y. x +ℤ y) c.loop-i.invariant.value (product_is ∙ sym (ap (λ (i : ℕ). a i *ℤ b i) here)) ∙ sym (dot_more a b (suc j) m)
          ∙ ap (λ (i : ℕ). dot (list_from a (suc j) i) (list_from b (suc j) i)) next;
      size = rw sum_fits.0 sum_fits.1;
    }

pub returns-clause-value : goal.returns-clause-value
returns-clause-value g c =
    let j : ℕ = c.args.j in
    let n : ℕ = c.args.columns - 1 - suc c.args.j in
    let a : ℕ → ℤ = λ i. entry c.args.l.now i c.args.j in
    let b : ℕ → ℤ = item c.args.numbers.now in
    let t : ℤ = c.product.result in
    let o : ℤ = to_z w128 c.loop-i.sum-bits in
    let one : 1 + 1 ≤ c.args.columns = omega (arith, c.requires.column) in
    let ends : c.loop-i.i ≤ c.args.columns - 1 = omega (arith, c.loop-i.auto.i-end, c.requires.column) in
    let end : c.loop-i.i ≡ c.args.columns - 1 = omega (arith, c.loop-i-test.false) in
    let few : c.loop-i.i < MOST_COLUMNS = omega (arith, c.requires.columns_in) in
    let small : unsigned_abs (entry c.args.l.now (c.args.columns - 1) c.args.j) < 2 ^ 52 = c.requires.factors (c.args.columns - 1) c.args.j in
    let entry_is : to_z w64 (of_z w64 c.at-2.result) ≡ a (c.args.columns - 1) = as_w64 c.at-2.result (omega (arith, subst (λ (z : ℤ). unsigned_abs z < 2 ^ 52) (sym c.at-2.ensures.value) small))
    ∙ c.at-2.ensures.value in
    let here : c.args.columns - 1 ≡ suc j + n = omega (arith, c.requires.column) in
    let product_is : t ≡ a (suc j + n) *ℤ pos (2 ^ 16) = c.product.ensures.value ∙ ap (λ z. z *ℤ pos (2 ^ 16)) (entry_is ∙ ap a here) in
    let sum_fits : (to_z w128 (of_z w128 (o +ℤ to_z w128 (of_z w128 t))) ≡ o +ℤ t) ×
    (unsigned_abs (o +ℤ t) ≤ (c.loop-i.i + 1) * 2 ^ 98) = sum_is o t c.loop-i.i few c.loop-i.invariant.size c.product.ensures.size in
    let whole : suc n ≡ c.args.columns - c.args.j - 1 = omega (arith, c.requires.column) in
    sum_fits.0 ∙ ap₂ (λ x y. x +ℤ y) (c.loop-i.invariant.value ∙ ap (λ (i : ℕ). dot (list_from a (suc j) (i - suc j)) (list_from b (suc j) (i - suc j))) end) product_is
    ∙ sym (sum_with_constant a b (pos (2 ^ 16)) (suc j) n) ∙ ap (λ (i : ℕ). dot (list_from a (suc j) i) (list_from b (suc j) n ++ (pos (2 ^ 16) ∷ []))) whole
