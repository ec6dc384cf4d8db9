-- What the first rounding keeps of the three columns of the baseline.
use Rattle.std.proofs.Common.{◌≡◌, ℕ, ◌<◌, List, [], ◌∷◌, ℤ, pos, ◌+ℤ◌, ◌-ℤ◌, ◌*ℤ◌, ◌≤ℤ◌, arith, refl, subst}
use Rattle.whole_math.specs.Rounding.{floor_div, nearest_div}
use Rattle.whole_math.proofs.Ring.{◌⊕◌, ◌⊖◌, ◌⊗◌}
use Rattle.whole_math.proofs.Order.{lins}
use Rattle.whole_math.proofs.Inequalities.{same_by, nat}
use Rattle.quadratic_form.specs.Forms.{Column, quad}
use Rattle.quadratic_form.specs.Rows.{WholeBaseline, Radii}
use Rattle.quadratic_form.proofs.EliminationStep.{rounded_below}
use Rattle.vector_bound.specs.Curvatures.{three_columns}
use Rattle.vector_bound.proofs.Corners.{corner}
use Rattle.quadratic_form.proofs.NormalForm.{radii_at}

-- a form of three columns
abbrev three : ℤ → ℤ → ℤ → ℤ → ℤ → ℤ → List Column
three a b c f g h = record { own = a; others = f ∷ (g ∷ []) } ∷ (record { own = b; others = h ∷ [] } ∷ (record { own = c; others = [] } ∷ []))

three_at : (a b c f g h x y z : ℤ) → quad (three a b c f g h) (x ∷ (y ∷ (z ∷ []))) ≡ three_columns a b c f g h x y z
three_at a b c f g h x y z = same_by (a ∷ b ∷ c ∷ f ∷ g ∷ h ∷ x ∷ y ∷ z ∷ []) (λ a b c f g h x y z. (
  a ⊗ (x ⊗ x) ⊕ nat 2 ⊗ (x ⊗ (f ⊗ y ⊕ (g ⊗ z ⊕ nat 0))) ⊕ (b ⊗ (y ⊗ y) ⊕ nat 2 ⊗ (y ⊗ (h ⊗ z ⊕ nat 0)) ⊕ (c ⊗ (z ⊗ z) ⊕ nat 2 ⊗ (z ⊗ nat 0) ⊕ nat 0)),
  a ⊗ (x ⊗ x) ⊕ nat 2 ⊗ (x ⊗ (f ⊗ y ⊕ g ⊗ z)) ⊕ (b ⊗ (y ⊗ y) ⊕ nat 2 ⊗ (y ⊗ (h ⊗ z)) ⊕ c ⊗ (z ⊗ z)),
)) refl

-- over m: own entries down and less 3, others to the nearest
three_below : (m : ℕ) (a b c f g h x y z : ℤ) → 0 < m →
    (pos m *ℤ three_columns (floor_div a m -ℤ pos 3) (floor_div b m -ℤ pos 3) (floor_div c m -ℤ pos 3) (nearest_div f m) (nearest_div g m) (nearest_div h m) x y z) ≤ℤ three_columns a b c f g h x y z
three_below m a b c f g h x y z p =
    rw (← three_at (floor_div a m -ℤ pos 3) (floor_div b m -ℤ pos 3) (floor_div c m -ℤ pos 3) (nearest_div f m) (nearest_div g m) (nearest_div h m) x y z, ← three_at a b c f g h x y z)
    (rounded_below m (pos 3) (three a b c f g h) (x ∷ (y ∷ (z ∷ []))) p refl at_most)
  where
    at_most : (pos 1 +ℤ (pos 1 +ℤ (pos 1 +ℤ pos 0))) ≤ℤ pos 3
    at_most = omega (arith, lins)

-- of 59 times a matrix, less w times the radii
pub block_below : (m : ℕ) (w : ℤ) (c : ℕ → ℕ → ℤ) (r : Radii) (t : WholeBaseline) → 0 < m →
    (pos m *ℤ three_columns (floor_div (pos 59 *ℤ c 0 0 -ℤ w *ℤ r.r1) m -ℤ pos 3) (floor_div (pos 59 *ℤ c 1 1 -ℤ w *ℤ r.r2) m -ℤ pos 3) (floor_div (pos 59 *ℤ c 2 2 -ℤ w *ℤ r.r3) m -ℤ pos 3)
    (nearest_div (pos 59 *ℤ c 0 1) m) (nearest_div (pos 59 *ℤ c 0 2) m) (nearest_div (pos 59 *ℤ c 1 2) m) t.b1 t.b2 t.b3)
    ≤ℤ (pos 59 *ℤ corner c t -ℤ w *ℤ radii_at (pos 0) t r)
block_below m w c r t p = subst (λ (q : ℤ). (pos m *ℤ three_columns (floor_div (pos 59 *ℤ c 0 0 -ℤ w *ℤ r.r1) m -ℤ pos 3) (floor_div (pos 59 *ℤ c 1 1 -ℤ w *ℤ r.r2) m -ℤ pos 3)
    (floor_div (pos 59 *ℤ c 2 2 -ℤ w *ℤ r.r3) m -ℤ pos 3) (nearest_div (pos 59 *ℤ c 0 1) m) (nearest_div (pos 59 *ℤ c 0 2) m) (nearest_div (pos 59 *ℤ c 1 2) m) t.b1 t.b2 t.b3) ≤ℤ q)
    (step w (c 0 0) (c 1 1) (c 2 2) (c 0 1) (c 0 2) (c 1 2) r.r1 r.r2 r.r3 r.ry t.b1 t.b2 t.b3)
    (three_below m (pos 59 *ℤ c 0 0 -ℤ w *ℤ r.r1) (pos 59 *ℤ c 1 1 -ℤ w *ℤ r.r2) (pos 59 *ℤ c 2 2 -ℤ w *ℤ r.r3) (pos 59 *ℤ c 0 1) (pos 59 *ℤ c 0 2) (pos 59 *ℤ c 1 2) t.b1 t.b2 t.b3 p)
  where
    step : (w a b c f g h p q r s x y z : ℤ) → three_columns (pos 59 *ℤ a -ℤ w *ℤ p) (pos 59 *ℤ b -ℤ w *ℤ q) (pos 59 *ℤ c -ℤ w *ℤ r) (pos 59 *ℤ f) (pos 59 *ℤ g) (pos 59 *ℤ h) x y z
        ≡ pos 59 *ℤ three_columns a b c f g h x y z -ℤ w *ℤ (p *ℤ (x *ℤ x) +ℤ (q *ℤ (y *ℤ y) +ℤ (r *ℤ (z *ℤ z) +ℤ s *ℤ (pos 0 *ℤ pos 0))))
    step w a b c f g h p q r s x y z = same_by (w ∷ a ∷ b ∷ c ∷ f ∷ g ∷ h ∷ p ∷ q ∷ r ∷ s ∷ x ∷ y ∷ z ∷ []) (λ w a b c f g h p q r s x y z. (
      (nat 59 ⊗ a ⊖ w ⊗ p) ⊗ (x ⊗ x) ⊕ nat 2 ⊗ (x ⊗ (nat 59 ⊗ f ⊗ y ⊕ nat 59 ⊗ g ⊗ z)) ⊕ ((nat 59 ⊗ b ⊖ w ⊗ q) ⊗ (y ⊗ y) ⊕ nat 2 ⊗ (y ⊗ (nat 59 ⊗ h ⊗ z)) ⊕ (nat 59 ⊗ c ⊖ w ⊗ r) ⊗ (z ⊗ z)),
      nat 59 ⊗ (a ⊗ (x ⊗ x) ⊕ nat 2 ⊗ (x ⊗ (f ⊗ y ⊕ g ⊗ z)) ⊕ (b ⊗ (y ⊗ y) ⊕ nat 2 ⊗ (y ⊗ (h ⊗ z)) ⊕ c ⊗ (z ⊗ z)))
          ⊖ w ⊗ (p ⊗ (x ⊗ x) ⊕ (q ⊗ (y ⊗ y) ⊕ (r ⊗ (z ⊗ z) ⊕ s ⊗ (nat 0 ⊗ nat 0)))),
    )) refl
