-- Two maps with the same entries inside give the same form and the same images.
use Rattle.std.proofs.Common.{ℕ, zero, suc, nat_eq, true, false, ◌≡◌, ⊎_elim, ◌+◌, ◌<◌, ◌≤◌, ◌^◌, List, ◌∷◌, ℤ, pos, ◌*ℤ◌, unsigned_abs, arith, sym, ap, ap₂, ◌∙◌, refl, subst}
use Rattle.std.proofs.lemmas.Bool.{cases_lt, lt-ltb, le-ltb}
use Rattle.quadratic_form.proofs.Places.{list_same, form_same}
use Rattle.quadratic_form.specs.Tables.{entry}
use Rattle.decorrelate.specs.Inverses.{rows_from, block}
use Rattle.int_search.specs.Transformed.{with_constant, half_entry, transformed_entry, transformed_form, IsTransformedSmall}
use Rattle.int_search.proofs.TotalLaws.{total_same}
use Rattle.int_search.proofs.TransformedLaws.{inside}

beside : (n : ℕ) (m : ℕ → ℕ → ℤ) (i j : ℕ) → i < n → n ≤ j → with_constant n m i j ≡ pos 0
beside n m i j h g = rw (lt-ltb i n h, le-ltb j n g, with_constant) refl

under : (n : ℕ) (m : ℕ → ℕ → ℤ) (i j : ℕ) → n ≤ i → with_constant n m i j ≡ (elim (nat_eq i j) as (λ b. ℤ) [ true ↦ pos 1 | false ↦ pos 0 ])
under n m i j h = rw (le-ltb i n h, with_constant) refl

-- the entries inside are the same
abbrev pub AreSameInside : ℕ → (ℕ → ℕ → ℤ) → (ℕ → ℕ → ℤ) → Type 0
AreSameInside n m k = (i c : ℕ) → i < n → c < n → m i c ≡ k i c

constants_same : (n : ℕ) (m k : ℕ → ℕ → ℤ) → AreSameInside n m k → (i j : ℕ) → with_constant n m i j ≡ with_constant n k i j
constants_same n m k e i j = ⊎_elim
    (λ (h : i < n). ⊎_elim (λ (g : j < n). inside n m i j h g ∙ e i j h g ∙ sym (inside n k i j h g)) (λ (g : n ≤ j). beside n m i j h g ∙ sym (beside n k i j h g)) (cases_lt j n))
    (λ (h : n ≤ i). under n m i j h ∙ sym (under n k i j h)) (cases_lt i n)

halves_same : (n : ℕ) (m k p : ℕ → ℕ → ℤ) → AreSameInside n m k → (a j : ℕ) → half_entry n m p a j ≡ half_entry n k p a j
halves_same n m k p e a j = total_same (λ b. with_constant n m b j *ℤ p a b) (λ b. with_constant n k b j *ℤ p a b) 0 (n + 1) (λ b h g. ap (λ z. z *ℤ p a b) (constants_same n m k e b j))

entries_same : (n : ℕ) (m k p : ℕ → ℕ → ℤ) → AreSameInside n m k → (i j : ℕ) → transformed_entry n m p i j ≡ transformed_entry n k p i j
entries_same n m k p e i j = total_same (λ a. half_entry n m p a j *ℤ with_constant n m a i) (λ a. half_entry n k p a j *ℤ with_constant n k a i) 0 (n + 1)
    (λ a h g. ap₂ (λ x y. x *ℤ y) (halves_same n m k p e a j) (constants_same n m k e a i))

pub form_as : (n : ℕ) (a b p : List (List ℤ)) → AreSameInside n (entry a) (entry b) → transformed_form n a p ≡ transformed_form n b p
form_as n a b p e = form_same (transformed_entry n (entry a) (entry p)) (transformed_entry n (entry b) (entry p)) 0 (n + 1) (λ r c h g l. entries_same n (entry a) (entry b) (entry p) e r c)

pub small_as : (n : ℕ) (a b p : List (List ℤ)) → AreSameInside n (entry a) (entry b) → IsTransformedSmall n a p → IsTransformedSmall n b p
small_as n a b p e s i j h g = subst (λ (z : ℤ). unsigned_abs z < 2 ^ 52) (entries_same n (entry a) (entry b) (entry p) e i j) (s i j h g)

rows_same : (f g : ℕ → ℕ → ℤ) (n a k : ℕ) → ((i c : ℕ) → i < a + k → c < n → f i c ≡ g i c) → rows_from f n a k ≡ rows_from g n a k
rows_same f g n a zero h = refl
rows_same f g n a (suc k) h = ap₂ (λ r t. r ∷ t) (list_same (f a) (g a) 0 n (λ c i l. h a c (omega arith) (omega arith))) (rows_same f g n (suc a) k (λ i c l m. h i c (omega arith) m))

pub block_as : (n : ℕ) (a b : List (List ℤ)) → AreSameInside n (entry a) (entry b) → block n a ≡ block n b
block_as n a b e = rows_same (entry a) (entry b) n 0 n (λ i c h g. e i c (omega arith) g)
