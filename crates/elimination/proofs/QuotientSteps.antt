-- The steps of the baseline's columns for a row, by the quotients of its entries.
use Rattle.std.proofs.Common.{◌≡◌, ◌⊎◌, ⊎_elim, ℕ, suc, ◌-◌, ◌^◌, ◌<◌, ◌≤◌, true, List, ℤ, pos, ◌-ℤ◌, unsigned_abs, Option, Some, None, IfSome, arith, sym, ap, ap₂, ◌∙◌, refl, subst, below_more}
use Rattle.quadratic_form.specs.Tables.{entry}
use Rattle.elimination.specs.StepEntries.{is_small, nearest_quotient}
use Rattle.elimination.specs.Quotients.{factor_by, own_by, other_by, quotient_in, IsQuotientOf, AreQuotients}
use Rattle.elimination.specs.RowSteps.{left_own, left_entry, left_after, IsLeft, HasFactors}
use Rattle.elimination.specs.declared.quotients.Quotient.{Quotient}
use Rattle.elimination.specs.declared.quotients.RowQuotients.{RowQuotients}
use Rattle.elimination.proofs.RowStepLaws.{left_none, left_next, on_diagonal, off_diagonal}

-- what two clauses say of an answer
pub both_some : {X : Type 0} (o : Option X) (P Q : X → Type 0) → IfSome o P → IfSome o Q → IfSome o (λ x. P x × Q x)
both_some None P Q p q = tt
both_some (Some x) P Q p q = (p, q)

-- what holds of 0, 1 and 2
pub one_of_three : (P : ℕ → Type 0) → P 0 → P 1 → P 2 → (k : ℕ) → k < 3 → P k
one_of_three P x y z k h = ⊎_elim (λ (a : k ≡ 0). subst P (sym a) x) (λ (b : (k ≡ 1) ⊎ (k ≡ 2)). ⊎_elim (λ (e : k ≡ 1). subst P (sym e) y) (λ (e : k ≡ 2). subst P (sym e) z) b) (cases k h)
  where
    cases : (k : ℕ) → k < 3 → (k ≡ 0) ⊎ ((k ≡ 1) ⊎ (k ≡ 2))
    cases k h = grind arith

-- ---- an entry x off the diagonal, less the quotients f, s and t of the three steps
pub record ThreeLeft (q : List (List ℤ)) (n r c : ℕ) (x f s t : ℤ) : Type 0 where
  pub one : x -ℤ f ≡ left_after q n r c 1 x
  pub two : (x -ℤ f) -ℤ s ≡ left_after q n r c 2 x
  pub three : ((x -ℤ f) -ℤ s) -ℤ t ≡ left_after q n r c 3 x

abbrev pub IsQuotient : List (List ℤ) → ℕ → ℕ → ℕ → ℤ → Type 0
IsQuotient q j r c f = f ≡ nearest_quotient (entry q j r) (entry q j c) (entry q j j)

pub three_left : (q : List (List ℤ)) (n r c : ℕ) (x f s t : ℤ) → r < c → IsQuotient q 0 r c f → IsQuotient q 1 r c s → IsQuotient q 2 r c t → ThreeLeft q n r c x f s t
three_left q n r c x f s t h ef es et =
    let one : x -ℤ f ≡ left_after q n r c 1 x =
    ap (λ z. x -ℤ z) ef ∙ sym (off_diagonal q n r c 0 x h) ∙ ap (λ z. left_entry q n r c 0 z) (sym (left_none q n r c x)) ∙ sym (left_next q n r c 0 x) in
    let two : (x -ℤ f) -ℤ s ≡ left_after q n r c 2 x =
    ap₂ (λ u v. u -ℤ v) one es ∙ sym (off_diagonal q n r c 1 (left_after q n r c 1 x) h) ∙ sym (left_next q n r c 1 x) in
    let three : ((x -ℤ f) -ℤ s) -ℤ t ≡ left_after q n r c 3 x =
    ap₂ (λ u v. u -ℤ v) two et ∙ sym (off_diagonal q n r c 2 (left_after q n r c 2 x) h) ∙ sym (left_next q n r c 2 x) in
    record { one = one; two = two; three = three }

-- ---- a step by a quotient
-- that of column j
quotient_at : (q : List (List ℤ)) (r count : ℕ) (s : RowQuotients) (j : ℕ) (o : Quotient) → AreQuotients q r count s → j < count → count ≤ 3 → o ≡ quotient_in s j → IsQuotientOf q j r o
quotient_at q r count s j o are low few is = subst (λ (t : Quotient). IsQuotientOf q j r t) (sym is) (are j low (omega (arith, low, few)))

-- what it says of products is said of the entries that it is of
pub quotient_of : (q : List (List ℤ)) (j r c : ℕ) (o : Quotient) (x f : ℤ) → f ≡ nearest_quotient o.p x o.a → x ≡ entry q j c → IsQuotientOf q j r o → IsQuotient q j r c f
quotient_of q j r c o x f e ex is =
    e ∙ ap₂ (λ u v. nearest_quotient u v o.a) is.0 ex ∙ ap (λ u. nearest_quotient (entry q j r) (entry q j c) u) is.1

-- the step of column j leaves x of y, an own entry
pub own_step : (q : List (List ℤ)) (n r count : ℕ) (s : RowQuotients) (j : ℕ) (o : Quotient) (x y z : ℤ) → AreQuotients q r count s → j < count → count ≤ 3 → o ≡ quotient_in s j →
    x ≡ own_by o (n - j - 1) y → y ≡ left_after q n r r j z → x ≡ left_after q n r r (suc j) z
own_step q n r count s j o x y z are low few is ex ey =
    let found : IsQuotientOf q j r o = quotient_at q r count s j o are low few is in
    ex ∙ ap₂ (λ (p a : ℤ). left_own (unsigned_abs a) (n - j - 1) p y) found.0 found.1
    ∙ sym (on_diagonal q n r j y) ∙ ap (λ v. left_entry q n r r j v) ey ∙ sym (left_next q n r r j z)

-- and of an entry off the diagonal, where v stands in the row of the pivot
pub other_step : (q : List (List ℤ)) (n r c count : ℕ) (s : RowQuotients) (j : ℕ) (o : Quotient) (x y z v : ℤ) → AreQuotients q r count s → j < count → count ≤ 3 → o ≡ quotient_in s j →
    r < c → v ≡ entry q j c → x ≡ other_by o v y → y ≡ left_after q n r c j z → x ≡ left_after q n r c (suc j) z
other_step q n r c count s j o x y z v are low few is after ev ex ey =
    let found : IsQuotientOf q j r o = quotient_at q r count s j o are low few is in
    ex ∙ ap (λ f. y -ℤ f) (quotient_of q j r c o v (nearest_quotient o.p v o.a) refl ev found)
    ∙ sym (off_diagonal q n r c j y after) ∙ ap (λ u. left_entry q n r c j u) ey ∙ sym (left_next q n r c j z)

-- a factor that is written
pub factor_written : (q l : List (List ℤ)) (r count : ℕ) (s : RowQuotients) (j : ℕ) (o : Quotient) (f : ℤ) → AreQuotients q r count s → j < count → count ≤ 3 → o ≡ quotient_in s j →
    entry l r j ≡ f → f ≡ factor_by o → is_small f ≡ true → HasFactors q l j r
factor_written q l r count s j o f are low few is there ef small =
    let found : IsQuotientOf q j r o = quotient_at q r count s j o are low few is in
    record {
      factor = there ∙ ef ∙ ap₂ (λ (p a : ℤ). nearest_quotient p (pos (2 ^ 30)) a) found.0 found.1;
      small = subst (λ (z : ℤ). is_small z ≡ true) (sym there) small;
    }

-- ---- the steps one after another
pub no_step : (q : List (List ℤ)) (n r c : ℕ) (z x : ℤ) → x ≡ z → IsLeft q n r c 0 z x
no_step q n r c z x e = record { value = e ∙ sym (left_none q n r c z); small = λ j h. absurd (omega arith) }

pub one_more : (q : List (List ℤ)) (n r c k l : ℕ) (z x y : ℤ) → IsLeft q n r c k z y → (y ≡ left_after q n r c k z → x ≡ left_after q n r c (suc k) z) → is_small x ≡ true → suc k ≡ l →
    IsLeft q n r c l z x
one_more q n r c k l z x y before step small next = subst (λ (m : ℕ). IsLeft q n r c m z x) next (record {
  value = step before.value;
  small = λ j h. below_more (λ (j : ℕ). is_small (left_after q n r c (suc j) z) ≡ true) k (λ j g. before.small j g)
      (subst (λ (v : ℤ). is_small v ≡ true) (step before.value) small) j (omega (arith, h));
})

-- by the three quotients at once
pub three_taken : (q : List (List ℤ)) (n r c : ℕ) (z f s t x : ℤ) → ThreeLeft q n r c z f s t → x ≡ ((z -ℤ f) -ℤ s) -ℤ t → is_small (z -ℤ f) ≡ true → is_small ((z -ℤ f) -ℤ s) ≡ true →
    is_small x ≡ true → IsLeft q n r c 3 z x
three_taken q n r c z f s t x l e small_one small_two small_three = record {
  value = e ∙ l.three;
  small = λ j h. one_of_three (λ (m : ℕ). is_small (left_after q n r c (suc m) z) ≡ true)
      (subst (λ (v : ℤ). is_small v ≡ true) l.one small_one)
      (subst (λ (v : ℤ). is_small v ≡ true) l.two small_two)
      (subst (λ (v : ℤ). is_small v ≡ true) (e ∙ l.three) small_three) j h;
}
