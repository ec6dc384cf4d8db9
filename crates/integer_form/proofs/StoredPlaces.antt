-- Stored factors by places.
use Rattle.std.proofs.Common.{◌≡◌, ℕ, zero, suc, ◌+◌, ◌-◌, ◌<◌, ◌≤◌, List, ◌∷◌, ℤ, pos, slice_index_or, arith, ap₂, refl}
use Rattle.quadratic_form.specs.Elimination.{Factor}
use Rattle.quadratic_form.proofs.Places.{list_same}
use Rattle.quadratic_form.specs.Tables.{entry}
use Rattle.integer_form.specs.Factors.{factor_at, stored}

-- from lists and tables that agree in these columns
pub stored_same : (d e : List ℤ) (f g : List (List ℤ)) (columns j count : ℕ) → ((i : ℕ) → j ≤ i → i < j + count → slice_index_or d i (pos 0) ≡ slice_index_or e i (pos 0)) →
    ((r i : ℕ) → j ≤ i → i < j + count → entry f r i ≡ entry g r i) → stored d f columns j count ≡ stored e g columns j count
stored_same d e f g columns j zero h k = refl
stored_same d e f g columns j (suc count) h k = ap₂ (λ (x : Factor) (s : List Factor). x ∷ s) one
    (stored_same d e f g columns (suc j) count (λ i a b. h i (omega arith) (omega arith)) (λ r i a b. k r i (omega arith) (omega arith)))
  where
    one : factor_at (slice_index_or d j (pos 0)) f j (columns - j - 1) ≡ factor_at (slice_index_or e j (pos 0)) g j (columns - j - 1)
    one = ap₂ (λ (x : ℤ) (s : List ℤ). let factor : Factor = record { d = x; l = s } in factor) (h j (omega arith) (omega arith))
        (list_same (λ i. entry f i j) (λ i. entry g i j) (suc j) (columns - j - 1) (λ r a b. k r j (omega arith) (omega arith)))
