-- What code does entry by entry is what the definitions do to forms.
use Rattle.std.proofs.Common.{ℕ, zero, suc, ◌≡◌, ◌+◌, ◌^◌, ◌<◌, ◌≤◌, List, ◌∷◌, ℤ, pos, ◌+ℤ◌, ◌-ℤ◌, ◌*ℤ◌, arith, ap, ap₂, ◌∙◌, refl}
use Rattle.whole_math.specs.Rounding.{floor_div, ceil_div, nearest_div}
use Rattle.quadratic_form.specs.Forms.{Column, plus, times, outer}
use Rattle.quadratic_form.specs.Elimination.{nearest_each, rounded, factors, others_after, next}
use Rattle.quadratic_form.specs.Places.{list_from, form_from}
use Rattle.whole_math.specs.Vectors.{len, scaled, added}

-- the place after j, k further on
pub later : (j k : ℕ) → suc j + k ≡ j + suc k
later j k = omega arith

pub list_same : (f g : ℕ → ℤ) (j k : ℕ) → ((c : ℕ) → j ≤ c → c < j + k → f c ≡ g c) → list_from f j k ≡ list_from g j k
list_same f g j zero h = refl
list_same f g j (suc k) h = ap₂ (λ x s. x ∷ s) (h j (omega arith) (omega arith)) (list_same f g (suc j) k (λ c a b. h c (omega arith) (omega arith)))

column : (o p : ℤ) (s t : List ℤ) (a b : List Column) → o ≡ p → s ≡ t → a ≡ b →
    (record { own = o; others = s } ∷ a) ≡ record { own = p; others = t } ∷ b
column o p s t a b e f g = ap₂ (λ (x : ℤ) (u : List ℤ). record { own = x; others = u } ∷ a) e f ∙ ap (λ (c : List Column). record { own = p; others = t } ∷ c) g

pub form_same : (d e : ℕ → ℕ → ℤ) (j k : ℕ) → ((r c : ℕ) → j ≤ r → r ≤ c → c < j + k → d r c ≡ e r c) → form_from d j k ≡ form_from e j k
form_same d e j zero h = refl
form_same d e j (suc k) h = column (d j j) (e j j) (list_from (d j) (suc j) k) (list_from (e j) (suc j) k) (form_from d (suc j) k) (form_from e (suc j) k)
    (h j j (omega arith) (omega arith) (omega arith))
    (list_same (d j) (e j) (suc j) k (λ c a b. h j c (omega arith) (omega arith) (omega arith)))
    (form_same d e (suc j) k (λ r c a b g. h r c (omega arith) (omega arith) (omega arith)))

-- ---- sums, multiples, products
pub list_added : (f g : ℕ → ℤ) (j k : ℕ) → list_from (λ c. f c +ℤ g c) j k ≡ added (list_from f j k) (list_from g j k)
list_added f g j zero = refl
list_added f g j (suc k) = ap (λ s. (f j +ℤ g j) ∷ s) (list_added f g (suc j) k)

pub list_scaled : (x : ℤ) (f : ℕ → ℤ) (j k : ℕ) → list_from (λ c. x *ℤ f c) j k ≡ scaled x (list_from f j k)
list_scaled x f j zero = refl
list_scaled x f j (suc k) = ap (λ s. (x *ℤ f j) ∷ s) (list_scaled x f (suc j) k)

pub form_plus : (d e : ℕ → ℕ → ℤ) (j k : ℕ) → form_from (λ r c. d r c +ℤ e r c) j k ≡ plus (form_from d j k) (form_from e j k)
form_plus d e j zero = refl
form_plus d e j (suc k) = column _ _ _ _ _ _ refl (list_added (d j) (e j) (suc j) k) (form_plus d e (suc j) k)

pub form_times : (x : ℤ) (e : ℕ → ℕ → ℤ) (j k : ℕ) → form_from (λ r c. x *ℤ e r c) j k ≡ times x (form_from e j k)
form_times x e j zero = refl
form_times x e j (suc k) = column _ _ _ _ _ _ refl (list_scaled x (e j) (suc j) k) (form_times x e (suc j) k)

pub form_outer : (f : ℕ → ℤ) (j k : ℕ) → form_from (λ r c. f r *ℤ f c) j k ≡ outer (list_from f j k)
form_outer f j zero = refl
form_outer f j (suc k) = column _ _ _ _ _ _ refl (list_scaled (f j) f (suc j) k) (form_outer f (suc j) k)

-- ---- the first rounding
list_nearest : (m : ℕ) (f : ℕ → ℤ) (j k : ℕ) → list_from (λ c. nearest_div (f c) m) j k ≡ nearest_each m (list_from f j k)
list_nearest m f j zero = refl
list_nearest m f j (suc k) = ap (λ s. nearest_div (f j) m ∷ s) (list_nearest m f (suc j) k)

pub form_rounded : (m : ℕ) (n : ℤ) (d e : ℕ → ℕ → ℤ) (j k : ℕ) →
    ((r : ℕ) → j ≤ r → r < j + k → e r r ≡ floor_div (d r r) m -ℤ n) →
    ((r c : ℕ) → j ≤ r → r < c → c < j + k → e r c ≡ nearest_div (d r c) m) →
    form_from e j k ≡ rounded m n (form_from d j k)
form_rounded m n d e j zero h g = refl
form_rounded m n d e j (suc k) h g = column _ _ _ _ _ _ (h j (omega arith) (omega arith))
    (list_same (e j) (λ c. nearest_div (d j c) m) (suc j) k (λ c a b. g j c (omega arith) (omega arith) (omega arith)) ∙ list_nearest m (d j) (suc j) k)
    (form_rounded m n d e (suc j) k (λ r a b. h r (omega arith) (omega arith)) (λ r c a b l. g r c (omega arith) (omega arith) (omega arith)))

-- ---- one step, at the pivot a, with the entries p of its column
pub list_factors : (a : ℕ) (p l : ℕ → ℤ) (j k : ℕ) → ((c : ℕ) → j ≤ c → c < j + k → l c ≡ nearest_div (p c *ℤ pos (2 ^ 30)) a) → list_from l j k ≡ factors a (list_from p j k)
list_factors a p l j zero h = refl
list_factors a p l j (suc k) h = ap₂ (λ x s. x ∷ s) (h j (omega arith) (omega arith)) (list_factors a p l (suc j) k (λ c i b. h c (omega arith) (omega arith)))

pub list_others : (a : ℕ) (x : ℤ) (p f : ℕ → ℤ) (j k : ℕ) → list_from (λ c. f c -ℤ nearest_div (x *ℤ p c) a) j k ≡ others_after a x (list_from p j k) (list_from f j k)
list_others a x p f j zero = refl
list_others a x p f j (suc k) = ap (λ s. (f j -ℤ nearest_div (x *ℤ p j) a) ∷ s) (list_others a x p f (suc j) k)

pub form_next : (a : ℕ) (n : ℤ) (p : ℕ → ℤ) (d e : ℕ → ℕ → ℤ) (j k : ℕ) →
    ((r : ℕ) → j ≤ r → r < j + k → e r r ≡ ((d r r -ℤ ceil_div (p r *ℤ p r) a) -ℤ n) -ℤ ceil_div (n *ℤ pos a) (2 ^ 42)) →
    ((r c : ℕ) → j ≤ r → r < c → c < j + k → e r c ≡ d r c -ℤ nearest_div (p r *ℤ p c) a) →
    form_from e j k ≡ next a n (list_from p j k) (form_from d j k)
form_next a n p d e j zero h g = refl
form_next a n p d e j (suc k) h g = column _ _ _ _ _ _ (h j (omega arith) (omega arith))
    (list_same (e j) (λ c. d j c -ℤ nearest_div (p j *ℤ p c) a) (suc j) k (λ c i b. g j c (omega arith) (omega arith) (omega arith)) ∙ list_others a (p j) p (d j) (suc j) k)
    (form_next a n p d e (suc j) k (λ r i b. h r (omega arith) (omega arith)) (λ r c i b l. g r c (omega arith) (omega arith) (omega arith)))

pub len_list : (f : ℕ → ℤ) (j k : ℕ) → len (list_from f j k) ≡ pos k
len_list f j zero = refl
len_list f j (suc k) = ap (λ z. pos 1 +ℤ z) (len_list f (suc j) k) ∙ ap pos more
  where
    more : 1 + k ≡ suc k
    more = omega arith
