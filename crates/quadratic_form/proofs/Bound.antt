-- The bound over all data.
use Rattle.std.proofs.Common.{◌≡◌, ℕ, ◌^◌, List, [], ◌∷◌, ◌++◌, length, ℤ, pos, ◌*ℤ◌, ◌≤ℤ◌, Ok, arith, sym, ap, ◌∙◌, refl, subst, pow_pos}
use Rattle.whole_math.proofs.Ring.{◌⊕◌, ◌⊖◌, ◌⊗◌}
use Rattle.whole_math.proofs.Order.{lins, square_nn}
use Rattle.whole_math.proofs.Inequalities.{le_by, both_nn, prod_nn, less_nn, pos_nn, le_eq, same_by, nat}
use Rattle.quadratic_form.proofs.Forms.{quad_scale}
use Rattle.quadratic_form.proofs.EliminationStep.{rounded_below, rounded_sized}
use Rattle.quadratic_form.proofs.StepsBelow.{front_below}
use Rattle.quadratic_form.proofs.NormalForm.{bounding_form_below}
use Rattle.quadratic_form.proofs.Shapes.{cols, len_columns, sized_bounding_form}
use Rattle.quadratic_form.specs.Forms.{Column, Shaped, quad}
use Rattle.quadratic_form.specs.Elimination.{Factor, steps}
use Rattle.quadratic_form.specs.Rows.{WholeData, WholeBaseline, SignalGroup, WholeFitsAll, whole_sum_of_squares, matrix, radii, columns, bounding_form, columns_at, GroupsOf, first_rounding, value}
use Rattle.whole_math.proofs.Vectors.{len_is}
use Rattle.whole_math.specs.Vectors.{len, scaled}

scaled_last : (e : ℤ) (z : List ℤ) → scaled e z ++ (e ∷ []) ≡ scaled e (z ++ (pos 1 ∷ []))
scaled_last e [] = ap (λ k. k ∷ []) (same_by (e ∷ []) (λ e. (e, e ⊗ nat 1)) refl)
scaled_last e (x ∷ z) = ap (λ s. (e *ℤ x) ∷ s) (scaled_last e z)

-- for all data in the boxes, over d, all integers z and all baselines, over e:
-- 64 times the sum of squares is at least 2^h times the value of the form that three steps leave
pub bound : (d e : ℤ) (h : ℕ) (z : List ℤ) (b : WholeBaseline) (gs : List SignalGroup) (ts : List (List WholeData)) (p : List Factor × List Column) →
    GroupsOf (len z) gs → WholeFitsAll d gs ts → steps 0 3 (first_rounding h (length z) gs) ≡ Ok p →
    (d *ℤ e *ℤ (d *ℤ e) *ℤ (pos (2 ^ h) *ℤ value p.1 z)) ≤ℤ (pos 64 *ℤ whole_sum_of_squares d e z b gs ts)
bound d e h z b gs ts p g f s =
    step d e (pos (2 ^ h)) (value p.1 z) (quad a x) (quad l x) (whole_sum_of_squares d e z b gs ts) (pos_nn (2 ^ h))
    (bounding_form_below d e z b gs ts g f)
    (rounded_below (2 ^ h) (pos (columns (length z))) l x (pow_pos h) (sized.0 ∙ sym (len_columns e z b)) (le_eq count))
    (subst (λ (t : ℤ). t ≤ℤ quad a x) (ap (λ t. quad p.1 t) (scaled_last e z) ∙ quad_scale e p.1 (z ++ (pos 1 ∷ []))) (front_below 0 3 a x p s shaped.1 (shaped.0 ∙ sized.0 ∙ sym (len_columns e z b))))
  where
    x : List ℤ
    x = columns_at e z b

    l : List Column
    l = bounding_form (length z) (matrix (length z) gs) (radii gs)

    a : List Column
    a = first_rounding h (length z) gs

    sized : (len l ≡ cols (len z)) × Shaped l
    sized = sized_bounding_form z gs (radii gs) g

    shaped : (len a ≡ len l) × Shaped a
    shaped = rounded_sized (2 ^ h) (pos (columns (length z))) l sized.1

    four : (k : ℕ) → cols (pos k) ≡ pos (columns k)
    four k = omega (arith, lins)

    count : len x ≡ pos (columns (length z))
    count = len_columns e z b ∙ ap (λ k. cols k) (len_is z) ∙ four (length z)

    step : (d e m v q r f : ℤ) → pos 0 ≤ℤ m → (d *ℤ d *ℤ r) ≤ℤ (pos 64 *ℤ f) → (m *ℤ q) ≤ℤ r → (e *ℤ e *ℤ v) ≤ℤ q → (d *ℤ e *ℤ (d *ℤ e) *ℤ (m *ℤ v)) ≤ℤ (pos 64 *ℤ f)
    step d e m v q r f h h₁ h₂ h₃ = le_by (d ∷ e ∷ m ∷ v ∷ f ∷ r ∷ q ∷ [])
        (λ d e m v f r q. (d ⊗ e ⊗ (d ⊗ e) ⊗ (m ⊗ v), nat 64 ⊗ f, nat 64 ⊗ f ⊖ d ⊗ d ⊗ r ⊕ d ⊗ d ⊗ (r ⊖ m ⊗ q) ⊕ d ⊗ d ⊗ m ⊗ (q ⊖ e ⊗ e ⊗ v))) refl
        (both_nn (both_nn (less_nn h₁) (prod_nn (square_nn d) (less_nn h₂))) (prod_nn (prod_nn (square_nn d) h) (less_nn h₃)))
