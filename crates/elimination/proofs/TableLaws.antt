-- Forms and factors by the entries of their tables.
use Rattle.std.proofs.Common.{◌≡◌, ◌⊎◌, inr, ⊎_elim, ℕ, zero, suc, ◌+◌, ◌^◌, ◌<◌, ◌≤◌, List, ◌∷◌, ℤ, pos, neg_ℤ, ◌<ℤ◌, unsigned_abs, arith, sym, ap, ap₂, ◌∙◌, refl, subst, add-zero, eq-or-lt_of_le}
use Rattle.std.proofs.lemmas.Int.{ints}
use Rattle.std.proofs.lemmas.Bool.{cases_lt}
use Rattle.quadratic_form.specs.Forms.{Column}
use Rattle.quadratic_form.specs.LowerSums.{Small, SmallList, SmallForm}
use Rattle.quadratic_form.specs.Places.{list_from, form_from}
use Rattle.quadratic_form.proofs.Places.{later}
use Rattle.quadratic_form.specs.Tables.{entry, IsZeroOutside}
use Rattle.quadratic_form.specs.Matrices.{IsSymmetric, EntriesBelow}
use Rattle.quadratic_form.proofs.TableLaws.{zero_small}

-- ---- a form that stands elsewhere
list_moved : (f g : ℕ → ℤ) (i j k : ℕ) → ((c : ℕ) → c < k → f (i + c) ≡ g (j + c)) → list_from f i k ≡ list_from g j k
list_moved f g i j zero h = refl
list_moved f g i j (suc k) h = ap₂ (λ x s. x ∷ s) (sym (ap f (add-zero i)) ∙ h 0 (omega arith) ∙ ap g (add-zero j))
    (list_moved f g (suc i) (suc j) k (λ c l. ap f (later i c) ∙ h (suc c) (omega arith) ∙ sym (ap g (later j c))))

pub form_moved : (d e : ℕ → ℕ → ℤ) (i j k : ℕ) → ((r c : ℕ) → r ≤ c → c < k → d (i + r) (i + c) ≡ e (j + r) (j + c)) → form_from d i k ≡ form_from e j k
form_moved d e i j zero h = refl
form_moved d e i j (suc k) h =
    ap₂ (λ (x : ℤ) (s : List ℤ). record { own = x; others = s } ∷ form_from d (suc i) k) own others
    ∙ ap (λ (a : List Column). record { own = e j j; others = list_from (e j) (suc j) k } ∷ a)
    (form_moved d e (suc i) (suc j) k (λ r c l g. ap₂ (λ p q. d p q) (later i r) (later i c) ∙ h (suc r) (suc c) (omega arith) (omega arith) ∙ sym (ap₂ (λ p q. e p q) (later j r) (later j c))))
  where
    own : d i i ≡ e j j
    own = sym (ap₂ (λ p q. d p q) (add-zero i) (add-zero i)) ∙ h 0 0 (omega arith) (omega arith) ∙ ap₂ (λ p q. e p q) (add-zero j) (add-zero j)

    others : list_from (d i) (suc i) k ≡ list_from (e j) (suc j) k
    others = list_moved (d i) (e j) (suc i) (suc j) k (λ c l. ap₂ (λ p q. d p q) (sym (add-zero i)) (later i c) ∙ h 0 (suc c) (omega arith) (omega arith)
        ∙ ap₂ (λ p q. e p q) (add-zero j) (sym (later j c)))

-- ---- what is small
pub size : (x : ℤ) → Small x → unsigned_abs x < 2 ^ 52
size x s = go x s.0 s.1
  where
    go : (x : ℤ) → neg_ℤ (pos (2 ^ 52)) <ℤ x → x <ℤ pos (2 ^ 52) → unsigned_abs x < 2 ^ 52
    go x a b = omega (arith, ints)

pub small_of_list : (f : ℕ → ℤ) (j k : ℕ) → SmallList (list_from f j k) → (c : ℕ) → j ≤ c → c < j + k → unsigned_abs (f c) < 2 ^ 52
small_of_list f j zero s c h g = absurd (omega arith)
small_of_list f j (suc k) s c h g = ⊎_elim (λ (e : j ≡ c). subst (λ (m : ℕ). unsigned_abs (f m) < 2 ^ 52) e (size (f j) s.0))
    (λ (l : suc j ≤ c). small_of_list f (suc j) k s.1 c l (omega arith)) (eq-or-lt_of_le h)

pub small_of_form : (e : ℕ → ℕ → ℤ) (j k : ℕ) → SmallForm (form_from e j k) → (r c : ℕ) → j ≤ r → r ≤ c → c < j + k → unsigned_abs (e r c) < 2 ^ 52
small_of_form e j zero s r c h l g = absurd (omega arith)
small_of_form e j (suc k) s r c h l g = ⊎_elim
    (λ (i : j ≡ r). subst (λ (m : ℕ). unsigned_abs (e m c) < 2 ^ 52) i (first (subst (λ (m : ℕ). m ≤ c) (sym i) l)))
    (λ (i : suc j ≤ r). small_of_form e (suc j) k s.2 r c i l (omega arith)) (eq-or-lt_of_le h)
  where
    first : j ≤ c → unsigned_abs (e j c) < 2 ^ 52
    first l = ⊎_elim (λ (i : j ≡ c). subst (λ (m : ℕ). unsigned_abs (e j m) < 2 ^ 52) i (size (e j j) s.0)) (λ (i : suc j ≤ c). small_of_list (e j) (suc j) k s.1 c i (omega arith)) (eq-or-lt_of_le l)

-- each entry, from those on the diagonal and after it
pub small_table : (p : List (List ℤ)) (n : ℕ) → IsSymmetric p → IsZeroOutside n n p → ((r c : ℕ) → r ≤ c → c < n → unsigned_abs (entry p r c) < 2 ^ 52) → EntriesBelow (2 ^ 52) p
small_table p n s o h i j = ⊎_elim (λ (l : i ≤ j). half i j l) (λ (l : j ≤ i). subst (λ (z : ℤ). unsigned_abs z < 2 ^ 52) (s j i) (half j i l)) (either i j)
  where
    either : (i j : ℕ) → (i ≤ j) ⊎ (j ≤ i)
    either i j = grind arith

    half : (i j : ℕ) → i ≤ j → unsigned_abs (entry p i j) < 2 ^ 52
    half i j l = ⊎_elim (λ (g : j < n). h i j l g) (λ (g : n ≤ j). subst (λ (z : ℤ). unsigned_abs z < 2 ^ 52) (sym (o i j (inr g))) zero_small) (cases_lt j n)
