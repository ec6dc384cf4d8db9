-- The factors under a turn, from one table to the next.
use Rattle.std.proofs.Common.{ℕ, ◌≡◌, ◌≢◌, ◌⊎◌, inl, inr, ⊎_elim, ◌+◌, ◌^◌, ◌<◌, ◌≤◌, List, ℤ, unsigned_abs, arith, refl, sym, ap₂, ◌∙◌, subst}
use Rattle.std.proofs.lemmas.Bool.{cases_lt}
use Rattle.quadratic_form.specs.Tables.{entry}
use Rattle.decorrelate.specs.Turning.{minus_scaled, plus_scaled, first_factor, second_factor, AreColumnsSmall, AreFactorsSmall, IsRowTurned}
use Rattle.quadratic_form.specs.Matrices.{EntriesBelow}
use Rattle.decorrelate.specs.Permuted.{AreRowsPermuted, ArePermuted}
use Rattle.decorrelate.proofs.TurnedPlaces.{three_places}

as_small : (x y : ℤ) → x ≡ y → unsigned_abs y < 2 ^ 52 → unsigned_abs x < 2 ^ 52
as_small x y e h = subst (λ (z : ℤ). unsigned_abs z < 2 ^ 52) (sym e) h

seconds : (r : ℤ) (j : ℕ) (f g : ℕ → ℤ) → f j ≡ g j → f (j + 1) ≡ g (j + 1) → second_factor r j f ≡ second_factor r j g
seconds r j f g a b = ap₂ (λ x y. minus_scaled x r y) a b

firsts : (r q : ℤ) (j : ℕ) (f g : ℕ → ℤ) → f j ≡ g j → f (j + 1) ≡ g (j + 1) → first_factor r q j f ≡ first_factor r q j g
firsts r q j f g a b = ap₂ (λ x y. plus_scaled y q (minus_scaled x r y)) a b

pub columns_as : (r q : ℤ) (j : ℕ) (f g : ℕ → ℤ) → ((m : ℕ) → f m ≡ g m) → AreColumnsSmall r q j f → AreColumnsSmall r q j g
columns_as r q j f g e s = record {
  second = as_small _ _ (sym (seconds r j f g (e j) (e (j + 1)))) s.second;
  first = as_small _ _ (sym (firsts r q j f g (e j) (e (j + 1)))) s.first;
}

pub row_as : (r q : ℤ) (j : ℕ) (f g u v : ℕ → ℤ) → ((m : ℕ) → f m ≡ g m) → ((m : ℕ) → v m ≡ u m) → IsRowTurned r q j f u → IsRowTurned r q j g v
row_as r q j f g u v e d t = record {
  first = d j ∙ t.first ∙ firsts r q j f g (e j) (e (j + 1));
  second = d (j + 1) ∙ t.second ∙ seconds r j f g (e j) (e (j + 1));
  others = λ m a b. d m ∙ t.others m a b ∙ e m;
}

own : (i m j : ℕ) → ((i ≡ j + 1) × (m ≡ j)) ⊎ ((i ≢ j + 1) ⊎ (m ≢ j))
own i m j = grind arith

pub rows_small : (j : ℕ) (q : ℤ) (t : ℕ → ℤ) (old new : List (List ℤ)) → AreRowsPermuted j q t old new → EntriesBelow (2 ^ 52) old → ((m : ℕ) → m < j → unsigned_abs (t m) < 2 ^ 52)
    → unsigned_abs q < 2 ^ 52 → EntriesBelow (2 ^ 52) new
rows_small j q t old new x old_small narrow between i m = cases (own i m j)
  where
    before : m < j → (i ≡ j) ⊎ ((i ≡ j + 1) ⊎ ((i ≢ j) × (i ≢ j + 1))) → unsigned_abs (entry new i m) < 2 ^ 52
    before h (inl e) = subst (λ (k : ℕ). unsigned_abs (entry new k m) < 2 ^ 52) (sym e) (as_small _ _ (x.first m h) (narrow m h))
    before h (inr (inl e)) = subst (λ (k : ℕ). unsigned_abs (entry new k m) < 2 ^ 52) (sym e) (as_small _ _ (x.second m h) (old_small j m))
    before h (inr (inr e)) = as_small _ _ (x.others i m e.0 e.1) (old_small i m)

    cases : ((i ≡ j + 1) × (m ≡ j)) ⊎ ((i ≢ j + 1) ⊎ (m ≢ j)) → unsigned_abs (entry new i m) < 2 ^ 52
    cases (inl e) = as_small _ _ (ap₂ (λ a b. entry new a b) e.0 e.1 ∙ x.between) between
    cases (inr d) = ⊎_elim (λ (h : m < j). before h (three_places i j)) (λ (h : j ≤ m). as_small _ _ (x.later i m h d) (old_small i m)) (cases_lt m j)

pub later_row : (j : ℕ) (q : ℤ) (t : ℕ → ℤ) (old new : List (List ℤ)) → AreRowsPermuted j q t old new → (i : ℕ) → j + 1 < i → (m : ℕ) → entry new i m ≡ entry old i m
later_row j q t old new x i h m = x.others i m (omega arith) (omega arith)

pub permuted_tables : (n j : ℕ) (r q : ℤ) (t : ℕ → ℤ) (old next last : List (List ℤ)) → AreRowsPermuted j q t old next → AreFactorsSmall n j r q t (entry old) → EntriesBelow (2 ^ 52) old →
    ((i : ℕ) → j + 1 < i → i < n → IsRowTurned r q j (entry next i) (entry last i)) → ((i m : ℕ) → (i ≤ j + 1) ⊎ (n ≤ i) → entry last i m ≡ entry next i m) → ArePermuted n j r q t old last
permuted_tables n j r q t old next last x narrow old_small turned same = record {
  turned = record {
    before = λ i m h g. same i m (inl (omega arith)) ∙ x.others i m (omega arith) (omega arith);
    first = λ m h. same j m (inl (omega arith)) ∙ x.first m h;
    second = λ m h. same (j + 1) m (inl (omega arith)) ∙ x.second m h;
    between = same (j + 1) j (inl (omega arith)) ∙ x.between;
    after = after;
  };
  small = λ i m. cases i m (row i);
}
  where
    row : (i : ℕ) → ((i ≤ j + 1) ⊎ (n ≤ i)) ⊎ ((j + 1 < i) × (i < n))
    row i = grind arith

    after : (i : ℕ) → j + 1 < i → i < n → IsRowTurned r q j (entry old i) (entry last i)
    after i h g = row_as r q j (entry next i) (entry old i) (entry last i) (entry last i) (later_row j q t old next x i h) (λ m. refl) (turned i h g)

    small : EntriesBelow (2 ^ 52) next
    small = rows_small j q t old next x old_small narrow.left narrow.between

    inside : (i m : ℕ) → j + 1 < i → i < n → (m ≡ j) ⊎ ((m ≡ j + 1) ⊎ ((m ≢ j) × (m ≢ j + 1))) → unsigned_abs (entry last i m) < 2 ^ 52
    inside i m h g (inl e) = subst (λ (k : ℕ). unsigned_abs (entry last i k) < 2 ^ 52) (sym e) (as_small _ _ (after i h g).first (narrow.columns i h g).first)
    inside i m h g (inr (inl e)) = subst (λ (k : ℕ). unsigned_abs (entry last i k) < 2 ^ 52) (sym e) (as_small _ _ (after i h g).second (narrow.columns i h g).second)
    inside i m h g (inr (inr e)) = as_small _ _ ((after i h g).others m e.0 e.1) (old_small i m)

    cases : (i m : ℕ) → ((i ≤ j + 1) ⊎ (n ≤ i)) ⊎ ((j + 1 < i) × (i < n)) → unsigned_abs (entry last i m) < 2 ^ 52
    cases i m (inl h) = as_small _ _ (same i m h) (small i m)
    cases i m (inr h) = inside i m h.0 h.1 (three_places m j)
