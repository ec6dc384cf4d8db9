-- The factors of the columns of a form, as tables keep them: those of column j stand below its place.
use Rattle.std.specs.Prelude.{ℕ, zero, suc, ◌-◌, List, [], ◌∷◌, ℤ, pos, slice_index_or}
use Rattle.quadratic_form.specs.Elimination.{Factor}
use Rattle.quadratic_form.specs.Places.{list_from}
use Rattle.quadratic_form.specs.Tables.{entry}

-- of column j, with n columns after it, where d is kept of its pivot
abbrev pub factor_at : ℤ → List (List ℤ) → ℕ → ℕ → Factor
factor_at d f j n = record { d = d; l = list_from (λ i. entry f i j) (suc j) n }

-- of count columns from j on, where d holds what is kept of the pivots
abbrev pub stored : List ℤ → List (List ℤ) → ℕ → ℕ → ℕ → List Factor
stored d f columns j zero = []
stored d f columns j (suc count) = factor_at (slice_index_or d j (pos 0)) f j (columns - j - 1) ∷ stored d f columns (suc j) count
