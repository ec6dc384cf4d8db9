-- Whether all entries of a list and of a form are small, by their places.
use Rattle.std.proofs.Common.{◌≡◌, ⊎_elim, ℕ, zero, suc, ◌+◌, ◌^◌, ◌<◌, ◌≤◌, Bool, true, false, ◌&&◌, unsigned_abs, ℤ, Some, None, arith, refl, sym, subst, eq-or-lt_of_le}
use borrow.Author.Tests.{ltb-true}
use Rattle.std.proofs.lemmas.Bool.{and_left, and_right, and_from}
use Rattle.quadratic_form.specs.Elimination.{all_small, form_small}
use Rattle.quadratic_form.specs.Places.{list_from, form_from}
use Rattle.elimination.specs.StepEntries.{is_small, IsSmallOnly}

pub list_small : (f : ℕ → ℤ) (j k : ℕ) → ((c : ℕ) → j ≤ c → c < j + k → is_small (f c) ≡ true) → all_small (list_from f j k) ≡ true
list_small f j zero h = refl
list_small f j (suc k) h = and_from (is_small (f j)) (all_small (list_from f (suc j) k)) (h j (omega arith) (omega arith)) (list_small f (suc j) k (λ c a b. h c (omega arith) (omega arith)))

pub list_wide : (f : ℕ → ℤ) (j k c : ℕ) → j ≤ c → c < j + k → is_small (f c) ≡ false → all_small (list_from f j k) ≡ false
list_wide f j zero c a b e = absurd (omega arith)
list_wide f j (suc k) c a b e = ⊎_elim (λ (i : j ≡ c). and_left (is_small (f j)) (all_small (list_from f (suc j) k)) (subst (λ (m : ℕ). is_small (f m) ≡ false) (sym i) e))
    (λ (i : suc j ≤ c). and_right (is_small (f j)) (all_small (list_from f (suc j) k)) (list_wide f (suc j) k c i (omega arith) e)) (eq-or-lt_of_le a)

pub form_all_small : (e : ℕ → ℕ → ℤ) (j k : ℕ) → ((r c : ℕ) → j ≤ r → r ≤ c → c < j + k → is_small (e r c) ≡ true) → form_small (form_from e j k) ≡ true
form_all_small e j zero h = refl
form_all_small e j (suc k) h = and_from (is_small (e j j)) (all_small (list_from (e j) (suc j) k) && form_small (form_from e (suc j) k)) (h j j (omega arith) (omega arith) (omega arith))
    (and_from (all_small (list_from (e j) (suc j) k)) (form_small (form_from e (suc j) k)) (list_small (e j) (suc j) k (λ c a b. h j c (omega arith) (omega arith) (omega arith)))
    (form_all_small e (suc j) k (λ r c a b d. h r c (omega arith) (omega arith) (omega arith))))

pub form_wide : (e : ℕ → ℕ → ℤ) (j k r c : ℕ) → j ≤ r → r ≤ c → c < j + k → is_small (e r c) ≡ false → form_small (form_from e j k) ≡ false
form_wide e j zero r c a b d h = absurd (omega arith)
form_wide e j (suc k) r c a b d h = ⊎_elim
    (λ (i : j ≡ r). right_or (subst (λ (m : ℕ). is_small (e m c) ≡ false) (sym i) h) (subst (λ (m : ℕ). m ≤ c) (sym i) b))
    (λ (i : suc j ≤ r). and_right own (others && rest) (and_right others rest (form_wide e (suc j) k r c i b (omega arith) h))) (eq-or-lt_of_le a)
  where
    own : Bool
    own = is_small (e j j)

    others : Bool
    others = all_small (list_from (e j) (suc j) k)

    rest : Bool
    rest = form_small (form_from e (suc j) k)

    right_or : is_small (e j c) ≡ false → j ≤ c → (own && (others && rest)) ≡ false
    right_or g l = ⊎_elim (λ (i : j ≡ c). and_left own (others && rest) (subst (λ (m : ℕ). is_small (e j m) ≡ false) (sym i) g))
        (λ (i : suc j ≤ c). and_right own (others && rest) (and_left others rest (list_wide (e j) (suc j) k c i (omega arith) g))) (eq-or-lt_of_le l)

pub small_size : (x : ℤ) → is_small x ≡ true → unsigned_abs x ≤ 2 ^ 62
small_size x e = omega (arith, ltb-true)

pub small_entry : (x : ℤ) → is_small x ≡ true → unsigned_abs x ≤ 2 ^ 52
small_entry x e = omega (arith, ltb-true)

-- ---- an answer that gives a number where it is small
pub small_given : (x y : ℤ) → y ≡ x → is_small y ≡ true → IsSmallOnly x (Some y)
small_given x y e small = record { value = e; small = small; refused = λ n. absurd cc }

pub none_given : (x : ℤ) → is_small x ≡ false → IsSmallOnly x None
none_given x wide = record { value = tt; small = tt; refused = λ n. wide }
