-- A symmetric table is a form, and a form at a mapped vector is the form of the transformed table.
use Rattle.std.proofs.Common.{ℕ, zero, suc, ◌≡◌, ◌∷◌, ℤ, ap, refl}
use Rattle.quadratic_form.specs.Places.{list_from}

-- ---- the form of a symmetric table
-- ---- a table under a map
-- ---- a table by its entries
pub list_shift : (f : ℕ → ℤ) (j k : ℕ) → list_from (λ c. f (suc c)) j k ≡ list_from f (suc j) k
list_shift f j zero = refl
list_shift f j (suc k) = ap (λ s. f (suc j) ∷ s) (list_shift f (suc j) k)
