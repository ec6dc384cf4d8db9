use Rattle.std.proofs.Common.{◌≡◌, ℕ, suc, ◌+◌, ◌-◌, ◌*◌, ◌^◌, ◌<◌, ◌≤◌, List, [], ◌∷◌, ◌++◌, length, ℤ, pos, ◌+ℤ◌, ◌*ℤ◌, unsigned_abs, to_z, of_z, arith, sym, ap, ap₂, ◌∙◌, refl, subst}
use Rattle.std.proofs.Common.{rules, FitsSigned}
use Rattle.std.proofs.lemmas.Int.{ints}
use Rattle.std.specs.Int.{w64, w128}
use Rattle.std.proofs.Math.IntN.{+ℤ_comm}
use Rattle.whole_math.specs.Vectors.{dot}
use Rattle.quadratic_form.specs.Forms.{quad}
use Rattle.quadratic_form.specs.Places.{list_from, form_from}
use Rattle.quadratic_form.specs.declared.sizes.TheConstants.{MOST_FORM_COLUMNS, MOST_COLUMNS}
use Rattle.quadratic_form.specs.Tables.{entry, item}
use Rattle.integer_form.specs.declared.form.Form.{Form}
use Rattle.whole_math.proofs.Words.{as_w64, as_w128, size_add}
use Rattle.integer_form.proofs.form.Form.value.Goals as goal

-- one more column at the front: row r has k columns after it
one_more : (e : ℕ → ℕ → ℤ) (f : ℕ → ℤ) (o t y : ℤ) (n r k : ℕ) → r ≡ n - 1 - k → k < n → o ≡ quad (form_from e (n - k) k) (list_from f (n - k) k) →
    y ≡ dot (list_from (e r) (suc r) (n - r - 1)) (list_from f (suc r) (n - r - 1)) → t ≡ e r r *ℤ (f r *ℤ f r) +ℤ pos 2 *ℤ (f r *ℤ y) →
    o +ℤ t ≡ quad (form_from e (n - (k + 1)) (k + 1)) (list_from f (n - (k + 1)) (k + 1))
one_more e f o t y n r k h g p q s =
    let start : n - k ≡ suc r = omega arith in
    let count : n - r - 1 ≡ k = omega arith in
    let first : r ≡ n - (k + 1) = omega arith in
    let more : suc k ≡ k + 1 = omega arith in
    +ℤ_comm o t
    ∙ ap₂ (λ a b. a +ℤ b) (s ∙ ap (λ a. e r r *ℤ (f r *ℤ f r) +ℤ pos 2 *ℤ (f r *ℤ a)) (q ∙ ap (λ (m : ℕ). dot (list_from (e r) (suc r) m) (list_from f (suc r) m)) count))
    (p ∙ ap (λ (m : ℕ). quad (form_from e m k) (list_from f m k)) start)
    ∙ ap₂ (λ (i j : ℕ). quad (form_from e i j) (list_from f i j)) first more

-- what the code adds for one column
column_is : (e x y a b d t : ℤ) → a ≡ e → b ≡ x → d ≡ y → t ≡ a *ℤ (b *ℤ b) +ℤ pos 2 *ℤ (b *ℤ d) → t ≡ e *ℤ (x *ℤ x) +ℤ pos 2 *ℤ (x *ℤ y)
column_is e x y a b d t p q r h = h ∙ ap₂ (λ u v. u *ℤ (v *ℤ v) +ℤ pos 2 *ℤ (v *ℤ d)) p q ∙ ap (λ u. e *ℤ (x *ℤ x) +ℤ pos 2 *ℤ (x *ℤ u)) r

-- the sum so far, and the next column
sum_is : (o t : ℤ) (k : ℕ) → k < MOST_FORM_COLUMNS → unsigned_abs o ≤ k * 2 ^ 120 → unsigned_abs t ≤ 2 ^ 120 → (o +ℤ to_z w128 (of_z w128 t) ≡ o +ℤ t) ×
    (unsigned_abs (o +ℤ t) ≤ (k + 1) * 2 ^ 120) × (unsigned_abs (o +ℤ t) ≤ 2 ^ 126)
sum_is o t k h p q = let sum_size_at_most : unsigned_abs (o +ℤ t) ≤ unsigned_abs o + unsigned_abs t = size_add o t in (ap (λ a. o +ℤ a) (as_w128 t (omega arith)), omega arith, omega arith)

few : (columns k : ℕ) → columns ≤ MOST_COLUMNS → k < columns - 3 → k < MOST_FORM_COLUMNS
few columns k h g = omega arith

pub overflow_add-sum : goal.overflow_add-sum
overflow_add-sum c =
    let columns_at_most : c.args.self.now.columns ≤ MOST_COLUMNS = c.args.self.now.columns_to in
    let sum_fits : (to_z w128 c.loop-k.sum-bits +ℤ to_z w128 (of_z w128 c.column_value-sum.result) ≡ to_z w128 c.loop-k.sum-bits +ℤ c.column_value-sum.result) ×
    (unsigned_abs (to_z w128 c.loop-k.sum-bits +ℤ c.column_value-sum.result) ≤ (c.loop-k.k + 1) * 2 ^ 120) × (unsigned_abs (to_z w128 c.loop-k.sum-bits +ℤ c.column_value-sum.result) ≤ 2 ^ 126) =
    sum_is (to_z w128 c.loop-k.sum-bits) c.column_value-sum.result c.loop-k.k (few c.args.self.now.columns c.loop-k.k columns_at_most c.loop-k-test.true) c.loop-k.invariant.size c.column_value-sum.ensures.size in
    rw sum_fits.0 (fits (to_z w128 c.loop-k.sum-bits +ℤ c.column_value-sum.result) sum_fits.2)
  where
    fits : (x : ℤ) → unsigned_abs x ≤ 2 ^ 126 → FitsSigned w128 x
    fits x h = omega (arith, ints)

pub loop-k-preserved : goal.loop-k-preserved
loop-k-preserved c =
    let form : Form = c.args.self.now in
    let n : ℕ = c.args.self.now.columns - 3 in
    let r : ℕ = (c.args.self.now.columns - 3 - 1) - c.loop-k.k in
    let x : List ℤ = c.with_one-x.result in
    let columns_at_most : c.args.self.now.columns ≤ MOST_COLUMNS = c.args.self.now.columns_to in
    let o : ℤ = to_z w128 c.loop-k.sum-bits in
    let t : ℤ = c.column_value-sum.result in
    let y : ℤ = c.later_products-later.result in
    let sum_fits : (o +ℤ to_z w128 (of_z w128 t) ≡ o +ℤ t) × (unsigned_abs (o +ℤ t) ≤ (c.loop-k.k + 1) * 2 ^ 120) × (unsigned_abs (o +ℤ t) ≤ 2 ^ 126) =
    sum_is o t c.loop-k.k (few c.args.self.now.columns c.loop-k.k columns_at_most c.loop-k-test.true) c.loop-k.invariant.size c.column_value-sum.ensures.size in
    let same_sum : to_z w128 (of_z w128 (o +ℤ to_z w128 (of_z w128 t))) ≡ o +ℤ t = ap (λ z. to_z w128 (of_z w128 z)) sum_fits.0 ∙ as_w128 (o +ℤ t) sum_fits.2 in
    let small : unsigned_abs (entry form.p r r) < 2 ^ 52 = form.entries_in r r in
    let narrow : unsigned_abs (item x r) ≤ 2 ^ 30 = c.with_one-x.ensures.size r (omega (arith, c.requires.count)) in
    let entry_is : to_z w64 (of_z w64 c.at.result) ≡ entry form.p r r = as_w64 c.at.result (omega (arith, subst (λ (z : ℤ). unsigned_abs z < 2 ^ 52) (sym c.at.ensures.value) small)) ∙ c.at.ensures.value in
    let same_number : to_z w64 (of_z w64 (item x r)) ≡ item x r = as_w64 (item x r) (omega arith) in
    let same_later : to_z w128 (of_z w128 y) ≡ y = as_w128 y (omega (arith, c.later_products-later.ensures.size)) in
    let term_is : t ≡ entry form.p r r *ℤ (item x r *ℤ item x r) +ℤ pos 2 *ℤ (item x r *ℤ y) =
    column_is (entry form.p r r) (item x r) y (to_z w64 (of_z w64 c.at.result)) (to_z w64 (of_z w64 (item x r))) (to_z w128 (of_z w128 y)) t entry_is same_number same_later c.column_value-sum.ensures.value in
    record {
      value = same_sum ∙ one_more (entry form.p) (item x) o t y n r c.loop-k.k refl c.loop-k-test.true c.loop-k.invariant.value c.later_products-later.ensures.value term_is;
      size = rw same_sum sum_fits.1;
    }

pub returns-clause-value : goal.returns-clause-value
returns-clause-value c = ends c.args.self.now c.args.z.now c.with_one-x.result (to_z w128 c.loop-k.sum-bits) c.loop-k.k c.requires.count c.with_one-x.ensures.list
    (omega (arith, c.loop-k-test.false, ended)) c.loop-k.invariant.value
  where
    ended : c.loop-k.k ≤ c.args.self.now.columns - 3
    ended = search rules

    ends : (f : Form) (z x : List ℤ) (o : ℤ) (k : ℕ) → length z ≡ f.columns - 4 → list_from (item x) 0 (suc (length z)) ≡ z ++ (pos 1 ∷ []) → k ≡ f.columns - 3 →
        o ≡ quad (form_from (entry f.p) (f.columns - 3 - k) k) (list_from (item x) (f.columns - 3 - k) k) → o ≡ quad (form_from (entry f.p) 0 (f.columns - 3)) (z ++ (pos 1 ∷ []))
    ends f z x o k e l h g =
        let none : f.columns - 3 - k ≡ 0 = omega arith in
        let from : 4 ≤ f.columns = f.columns_from in
        let whole : k ≡ suc (length z) = omega arith in
        g ∙ ap (λ (m : ℕ). quad (form_from (entry f.p) m k) (list_from (item x) m k)) none
        ∙ ap₂ (λ (i : ℕ) (s : List ℤ). quad (form_from (entry f.p) 0 i) s) h (ap (λ (m : ℕ). list_from (item x) 0 m) whole ∙ l)
