-- A form at two vectors that differ in their first three entries alone.
use Rattle.std.proofs.Common.{◌≡◌, ℕ, suc, List, [], ◌∷◌, ◌++◌, ℤ, pos, ◌+ℤ◌, ◌-ℤ◌, ◌*ℤ◌, ap, ◌∙◌, refl}
use Rattle.whole_math.specs.Vectors.{dot, scaled}
use Rattle.whole_math.proofs.Ring.{◌⊕◌, ◌⊖◌, ◌⊗◌}
use Rattle.whole_math.proofs.Inequalities.{same_by, nat}
use Rattle.whole_math.proofs.Vectors.{dot_at_scaled}
use Rattle.quadratic_form.specs.Forms.{Column, quad}
use Rattle.quadratic_form.specs.Places.{list_from, form_from}
use Rattle.quadratic_form.specs.Rows.{WholeBaseline, columns_at}
use Rattle.quadratic_form.proofs.Forms.{quad_scale}
use Rattle.vector_bound.proofs.Changes.{less}

-- the value of the first three columns of a form with these entries
abbrev pub corner : (ℕ → ℕ → ℤ) → WholeBaseline → ℤ
corner c t = c 0 0 *ℤ (t.b1 *ℤ t.b1) +ℤ pos 2 *ℤ (t.b1 *ℤ (c 0 1 *ℤ t.b2 +ℤ c 0 2 *ℤ t.b3))
    +ℤ (c 1 1 *ℤ (t.b2 *ℤ t.b2) +ℤ pos 2 *ℤ (t.b2 *ℤ (c 1 2 *ℤ t.b3)) +ℤ c 2 2 *ℤ (t.b3 *ℤ t.b3))

-- row j of the matrix at a vector of n entries more than three
abbrev pub slope_at : (ℕ → ℕ → ℤ) → ℕ → WholeBaseline → List ℤ → ℕ → ℤ
slope_at c n m v j = dot (list_from (c j) 0 (suc (suc (suc n)))) (m.b1 ∷ (m.b2 ∷ (m.b3 ∷ v)))

pub corner_change : (c : ℕ → ℕ → ℤ) (n : ℕ) (m b : WholeBaseline) (v : List ℤ) → c 1 0 ≡ c 0 1 → c 2 0 ≡ c 0 2 → c 2 1 ≡ c 1 2 →
    quad (form_from c 0 (suc (suc (suc n)))) (b.b1 ∷ (b.b2 ∷ (b.b3 ∷ v))) -ℤ quad (form_from c 0 (suc (suc (suc n)))) (m.b1 ∷ (m.b2 ∷ (m.b3 ∷ v)))
    ≡ corner c (less b m) +ℤ pos 2 *ℤ ((b.b1 -ℤ m.b1) *ℤ slope_at c n m v 0 +ℤ ((b.b2 -ℤ m.b2) *ℤ slope_at c n m v 1 +ℤ (b.b3 -ℤ m.b3) *ℤ slope_at c n m v 2))
corner_change c n m b v e f g = step (c 0 0) (c 0 1) (c 0 2) (c 1 0) (c 1 1) (c 1 2) (c 2 0) (c 2 1) (c 2 2) (dot (list_from (c 0) 3 n) v) (dot (list_from (c 1) 3 n) v) (dot (list_from (c 2) 3 n) v)
    (quad (form_from c 3 n) v) m.b1 m.b2 m.b3 b.b1 b.b2 b.b3 e f g
  where
    step : (a p q p' h o q' o' l s t u r i j k x y w : ℤ) → p' ≡ p → q' ≡ q → o' ≡ o →
        a *ℤ (x *ℤ x) +ℤ pos 2 *ℤ (x *ℤ (p *ℤ y +ℤ (q *ℤ w +ℤ s))) +ℤ (h *ℤ (y *ℤ y) +ℤ pos 2 *ℤ (y *ℤ (o *ℤ w +ℤ t)) +ℤ (l *ℤ (w *ℤ w) +ℤ pos 2 *ℤ (w *ℤ u) +ℤ r))
        -ℤ (a *ℤ (i *ℤ i) +ℤ pos 2 *ℤ (i *ℤ (p *ℤ j +ℤ (q *ℤ k +ℤ s))) +ℤ (h *ℤ (j *ℤ j) +ℤ pos 2 *ℤ (j *ℤ (o *ℤ k +ℤ t)) +ℤ (l *ℤ (k *ℤ k) +ℤ pos 2 *ℤ (k *ℤ u) +ℤ r)))
        ≡ a *ℤ ((x -ℤ i) *ℤ (x -ℤ i)) +ℤ pos 2 *ℤ ((x -ℤ i) *ℤ (p *ℤ (y -ℤ j) +ℤ q *ℤ (w -ℤ k)))
        +ℤ (h *ℤ ((y -ℤ j) *ℤ (y -ℤ j)) +ℤ pos 2 *ℤ ((y -ℤ j) *ℤ (o *ℤ (w -ℤ k))) +ℤ l *ℤ ((w -ℤ k) *ℤ (w -ℤ k)))
        +ℤ pos 2 *ℤ ((x -ℤ i) *ℤ (a *ℤ i +ℤ (p *ℤ j +ℤ (q *ℤ k +ℤ s))) +ℤ ((y -ℤ j) *ℤ (p' *ℤ i +ℤ (h *ℤ j +ℤ (o *ℤ k +ℤ t))) +ℤ (w -ℤ k) *ℤ (q' *ℤ i +ℤ (o' *ℤ j +ℤ (l *ℤ k +ℤ u)))))
    step a p q p' h o q' o' l s t u r i j k x y w e f g = rw (e, f, g) (same_by (a ∷ p ∷ q ∷ h ∷ o ∷ l ∷ s ∷ t ∷ u ∷ r ∷ i ∷ j ∷ k ∷ x ∷ y ∷ w ∷ []) (λ a p q h o l s t u r i j k x y w. (
      a ⊗ (x ⊗ x) ⊕ nat 2 ⊗ (x ⊗ (p ⊗ y ⊕ (q ⊗ w ⊕ s))) ⊕ (h ⊗ (y ⊗ y) ⊕ nat 2 ⊗ (y ⊗ (o ⊗ w ⊕ t)) ⊕ (l ⊗ (w ⊗ w) ⊕ nat 2 ⊗ (w ⊗ u) ⊕ r))
          ⊖ (a ⊗ (i ⊗ i) ⊕ nat 2 ⊗ (i ⊗ (p ⊗ j ⊕ (q ⊗ k ⊕ s))) ⊕ (h ⊗ (j ⊗ j) ⊕ nat 2 ⊗ (j ⊗ (o ⊗ k ⊕ t)) ⊕ (l ⊗ (k ⊗ k) ⊕ nat 2 ⊗ (k ⊗ u) ⊕ r))),
      a ⊗ ((x ⊖ i) ⊗ (x ⊖ i)) ⊕ nat 2 ⊗ ((x ⊖ i) ⊗ (p ⊗ (y ⊖ j) ⊕ q ⊗ (w ⊖ k)))
          ⊕ (h ⊗ ((y ⊖ j) ⊗ (y ⊖ j)) ⊕ nat 2 ⊗ ((y ⊖ j) ⊗ (o ⊗ (w ⊖ k))) ⊕ l ⊗ ((w ⊖ k) ⊗ (w ⊖ k)))
          ⊕ nat 2 ⊗ ((x ⊖ i) ⊗ (a ⊗ i ⊕ (p ⊗ j ⊕ (q ⊗ k ⊕ s))) ⊕ ((y ⊖ j) ⊗ (p ⊗ i ⊕ (h ⊗ j ⊕ (o ⊗ k ⊕ t))) ⊕ (w ⊖ k) ⊗ (q ⊗ i ⊕ (o ⊗ j ⊕ (l ⊗ k ⊕ u))))),
    )) refl)

-- ---- nothing after the first three entries
last_scaled : (e : ℤ) (z : List ℤ) → scaled e z ++ (e ∷ []) ≡ scaled e (z ++ (pos 1 ∷ []))
last_scaled e [] = ap (λ k. k ∷ []) (same_by (e ∷ []) (λ e. (e, e ⊗ nat 1)) refl)
last_scaled e (x ∷ z) = ap (λ s. (e *ℤ x) ∷ s) (last_scaled e z)

no_dot : (l z : List ℤ) → dot l (scaled (pos 0) z ++ (pos 0 ∷ [])) ≡ pos 0
no_dot l z = ap (λ s. dot l s) (last_scaled (pos 0) z) ∙ dot_at_scaled (pos 0) l (z ++ (pos 1 ∷ [])) ∙ same_by (dot l (z ++ (pos 1 ∷ [])) ∷ []) (λ x. (nat 0 ⊗ x, nat 0)) refl

no_quad : (a : List Column) (z : List ℤ) → quad a (scaled (pos 0) z ++ (pos 0 ∷ [])) ≡ pos 0
no_quad a z = ap (λ s. quad a s) (last_scaled (pos 0) z) ∙ quad_scale (pos 0) a (z ++ (pos 1 ∷ [])) ∙ same_by (quad a (z ++ (pos 1 ∷ [])) ∷ []) (λ x. (nat 0 ⊗ nat 0 ⊗ x, nat 0)) refl

pub corner_alone : (c : ℕ → ℕ → ℤ) (n : ℕ) (t : WholeBaseline) (z : List ℤ) → quad (form_from c 0 (suc (suc (suc n)))) (columns_at (pos 0) z t) ≡ corner c t
corner_alone c n t z = step (c 0 0) (c 0 1) (c 0 2) (c 1 1) (c 1 2) (c 2 2) (dot (list_from (c 0) 3 n) v) (dot (list_from (c 1) 3 n) v) (dot (list_from (c 2) 3 n) v) (quad (form_from c 3 n) v)
    t.b1 t.b2 t.b3 (no_dot (list_from (c 0) 3 n) z) (no_dot (list_from (c 1) 3 n) z) (no_dot (list_from (c 2) 3 n) z) (no_quad (form_from c 3 n) z)
  where
    v : List ℤ
    v = scaled (pos 0) z ++ (pos 0 ∷ [])

    step : (a p q h o l s t u r x y w : ℤ) → s ≡ pos 0 → t ≡ pos 0 → u ≡ pos 0 → r ≡ pos 0 →
        a *ℤ (x *ℤ x) +ℤ pos 2 *ℤ (x *ℤ (p *ℤ y +ℤ (q *ℤ w +ℤ s))) +ℤ (h *ℤ (y *ℤ y) +ℤ pos 2 *ℤ (y *ℤ (o *ℤ w +ℤ t)) +ℤ (l *ℤ (w *ℤ w) +ℤ pos 2 *ℤ (w *ℤ u) +ℤ r))
        ≡ a *ℤ (x *ℤ x) +ℤ pos 2 *ℤ (x *ℤ (p *ℤ y +ℤ q *ℤ w)) +ℤ (h *ℤ (y *ℤ y) +ℤ pos 2 *ℤ (y *ℤ (o *ℤ w)) +ℤ l *ℤ (w *ℤ w))
    step a p q h o l s t u r x y w e₀ e₁ e₂ e₃ = rw (e₀, e₁, e₂, e₃) (same_by (a ∷ p ∷ q ∷ h ∷ o ∷ l ∷ x ∷ y ∷ w ∷ []) (λ a p q h o l x y w. (
      a ⊗ (x ⊗ x) ⊕ nat 2 ⊗ (x ⊗ (p ⊗ y ⊕ (q ⊗ w ⊕ nat 0))) ⊕ (h ⊗ (y ⊗ y) ⊕ nat 2 ⊗ (y ⊗ (o ⊗ w ⊕ nat 0)) ⊕ (l ⊗ (w ⊗ w) ⊕ nat 2 ⊗ (w ⊗ nat 0) ⊕ nat 0)),
      a ⊗ (x ⊗ x) ⊕ nat 2 ⊗ (x ⊗ (p ⊗ y ⊕ q ⊗ w)) ⊕ (h ⊗ (y ⊗ y) ⊕ nat 2 ⊗ (y ⊗ (o ⊗ w)) ⊕ l ⊗ (w ⊗ w)),
    )) refl)
