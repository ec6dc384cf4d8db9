-- Sums over places: of sums, of multiples, and in either order.
use Rattle.std.proofs.Common.{ℕ, zero, suc, ◌≡◌, ◌+◌, ◌<◌, ◌≤◌, [], ◌∷◌, ℤ, pos, ◌+ℤ◌, ◌*ℤ◌, arith, sym, ap, ap₂, ◌∙◌, refl, add-one}
use Rattle.whole_math.proofs.Inequalities.{same_by, nat}
use Rattle.whole_math.proofs.Ring.{◌⊕◌, ◌⊗◌}
use Rattle.whole_math.specs.Vectors.{dot}
use Rattle.quadratic_form.specs.Places.{list_from}
use Rattle.int_search.specs.Sums.{total}

pub total_same : (f g : ℕ → ℤ) (a k : ℕ) → ((c : ℕ) → a ≤ c → c < a + k → f c ≡ g c) → total f a k ≡ total g a k
total_same f g a zero h = refl
total_same f g a (suc k) h = ap₂ (λ x y. x +ℤ y) (h a (omega arith) (omega arith)) (total_same f g (suc a) k (λ c i j. h c (omega arith) (omega arith)))

pub total_zero : (f : ℕ → ℤ) (a k : ℕ) → ((c : ℕ) → a ≤ c → c < a + k → f c ≡ pos 0) → total f a k ≡ pos 0
total_zero f a zero h = refl
total_zero f a (suc k) h = ap₂ (λ x y. x +ℤ y) (h a (omega arith) (omega arith)) (total_zero f (suc a) k (λ c i j. h c (omega arith) (omega arith))) ∙ same_by [] (nat 0 ⊕ nat 0, nat 0) refl

pub total_add : (f g : ℕ → ℤ) (a k : ℕ) → total (λ c. f c +ℤ g c) a k ≡ total f a k +ℤ total g a k
total_add f g a zero = same_by [] (nat 0, nat 0 ⊕ nat 0) refl
total_add f g a (suc k) = ap (λ z. (f a +ℤ g a) +ℤ z) (total_add f g (suc a) k)
    ∙ same_by (f a ∷ g a ∷ total f (suc a) k ∷ total g (suc a) k ∷ []) (λ x y s t. (x ⊕ y ⊕ (s ⊕ t), x ⊕ s ⊕ (y ⊕ t))) refl

pub total_times : (x : ℤ) (f : ℕ → ℤ) (a k : ℕ) → total (λ c. x *ℤ f c) a k ≡ x *ℤ total f a k
total_times x f a zero = same_by (x ∷ []) (λ x. (nat 0, x ⊗ nat 0)) refl
total_times x f a (suc k) = ap (λ z. (x *ℤ f a) +ℤ z) (total_times x f (suc a) k) ∙ same_by (x ∷ f a ∷ total f (suc a) k ∷ []) (λ x y s. (x ⊗ y ⊕ x ⊗ s, x ⊗ (y ⊕ s))) refl

pub total_last : (f : ℕ → ℤ) (a k : ℕ) → total f a (k + 1) ≡ total f a k +ℤ f (a + k)
total_last f a k = ap (total f a) (add-one k) ∙ more f a k
  where
    more : (f : ℕ → ℤ) (a k : ℕ) → total f a (suc k) ≡ total f a k +ℤ f (a + k)
    more f a zero = ap (λ c. f c +ℤ pos 0) (omega arith) ∙ same_by (f (a + 0) ∷ []) (λ x. (x ⊕ nat 0, nat 0 ⊕ x)) refl
    more f a (suc k) = ap (λ z. f a +ℤ z) (more f (suc a) k ∙ ap (λ c. total f (suc a) k +ℤ f c) (omega arith))
        ∙ same_by (f a ∷ total f (suc a) k ∷ f (a + suc k) ∷ []) (λ x s y. (x ⊕ (s ⊕ y), x ⊕ s ⊕ y)) refl

-- Σ w_i Σ N_ai v_a = Σ (Σ N_ai w_i) v_a
pub exchange : (w v : ℕ → ℤ) (m : ℕ → ℕ → ℤ) (c k b l : ℕ) → total (λ i. w i *ℤ total (λ a. m a i *ℤ v a) b l) c k ≡ total (λ a. total (λ i. m a i *ℤ w i) c k *ℤ v a) b l
exchange w v m c zero b l = sym (total_zero (λ a. pos 0 *ℤ v a) b l (λ a h g. same_by (v a ∷ []) (λ x. (nat 0 ⊗ x, nat 0)) refl))
exchange w v m c (suc k) b l = ap (λ z. (w c *ℤ total (λ a. m a c *ℤ v a) b l) +ℤ z) (exchange w v m (suc c) k b l)
    ∙ ap (λ z. z +ℤ total (λ a. total (λ i. m a i *ℤ w i) (suc c) k *ℤ v a) b l) (sym (total_times (w c) (λ a. m a c *ℤ v a) b l))
    ∙ sym (total_add (λ a. w c *ℤ (m a c *ℤ v a)) (λ a. total (λ i. m a i *ℤ w i) (suc c) k *ℤ v a) b l)
    ∙ total_same (λ a. (w c *ℤ (m a c *ℤ v a)) +ℤ (total (λ i. m a i *ℤ w i) (suc c) k *ℤ v a)) (λ a. total (λ i. m a i *ℤ w i) c (suc k) *ℤ v a) b l
    (λ a h g. same_by (w c ∷ m a c ∷ v a ∷ total (λ i. m a i *ℤ w i) (suc c) k ∷ []) (λ w m v t. (w ⊗ (m ⊗ v) ⊕ t ⊗ v, (m ⊗ w ⊕ t) ⊗ v)) refl)

pub dot_total : (f g : ℕ → ℤ) (a k : ℕ) → dot (list_from f a k) (list_from g a k) ≡ total (λ c. f c *ℤ g c) a k
dot_total f g a zero = refl
dot_total f g a (suc k) = ap (λ z. (f a *ℤ g a) +ℤ z) (dot_total f g (suc a) k)
