-- The value of a form by the entries of its matrix, both halves.
use Rattle.std.proofs.Common.{ℕ, zero, suc, ◌≡◌, [], ◌∷◌, ℤ, pos, ◌+ℤ◌, ◌*ℤ◌, sym, ap, ap₂, ◌∙◌, refl}
use Rattle.whole_math.proofs.Inequalities.{same_by, nat}
use Rattle.whole_math.proofs.Ring.{◌⊕◌, ◌⊗◌}
use Rattle.quadratic_form.specs.Forms.{quad}
use Rattle.quadratic_form.specs.Places.{list_from, form_from}
use Rattle.int_search.specs.Sums.{total}
use Rattle.int_search.proofs.TotalLaws.{total_same, total_add, total_times, dot_total}

-- Σ w_i Σ e_ij w_j
abbrev pub both_sums : (ℕ → ℕ → ℤ) → (ℕ → ℤ) → ℕ → ℕ → ℤ
both_sums e w a k = total (λ i. w i *ℤ total (λ j. e i j *ℤ w j) a k) a k

pub quad_sums : (e : ℕ → ℕ → ℤ) (w : ℕ → ℤ) (a k : ℕ) → ((i j : ℕ) → e i j ≡ e j i) → quad (form_from e a k) (list_from w a k) ≡ both_sums e w a k
quad_sums e w a zero s = refl
quad_sums e w a (suc k) s =
    let t : ℤ = total (λ j. e a j *ℤ w j) (suc a) k in
    let later : ℤ = total (λ i. w i *ℤ (e i a *ℤ w a)) (suc a) k in
    ap₂ (λ x y. ((e a a *ℤ (w a *ℤ w a)) +ℤ (pos 2 *ℤ (w a *ℤ x))) +ℤ y) (dot_total (e a) w (suc a) k) (quad_sums e w (suc a) k s)
    ∙ same_by (e a a ∷ w a ∷ t ∷ both_sums e w (suc a) k ∷ []) (λ e w t b. (e ⊗ (w ⊗ w) ⊕ nat 2 ⊗ (w ⊗ t) ⊕ b, w ⊗ (e ⊗ w ⊕ t) ⊕ (w ⊗ t ⊕ b))) refl
    ∙ ap (λ z. (w a *ℤ ((e a a *ℤ w a) +ℤ t)) +ℤ z)
    (ap (λ z. z +ℤ both_sums e w (suc a) k) (sym (total_times (w a) (λ j. e a j *ℤ w j) (suc a) k)
    ∙ total_same (λ j. w a *ℤ (e a j *ℤ w j)) (λ i. w i *ℤ (e i a *ℤ w a)) (suc a) k
    (λ i h g. ap (λ z. w a *ℤ (z *ℤ w i)) (s a i) ∙ same_by (w a ∷ e i a ∷ w i ∷ []) (λ x e y. (x ⊗ (e ⊗ y), y ⊗ (e ⊗ x))) refl))
    ∙ sym (total_add (λ i. w i *ℤ (e i a *ℤ w a)) (λ i. w i *ℤ total (λ j. e i j *ℤ w j) (suc a) k) (suc a) k)
    ∙ total_same (λ i. (w i *ℤ (e i a *ℤ w a)) +ℤ (w i *ℤ total (λ j. e i j *ℤ w j) (suc a) k)) (λ i. w i *ℤ total (λ j. e i j *ℤ w j) a (suc k)) (suc a) k
    (λ i h g. same_by (w i ∷ e i a ∷ w a ∷ total (λ j. e i j *ℤ w j) (suc a) k ∷ []) (λ x e y t. (x ⊗ (e ⊗ y) ⊕ x ⊗ t, x ⊗ (e ⊗ y ⊕ t))) refl))
