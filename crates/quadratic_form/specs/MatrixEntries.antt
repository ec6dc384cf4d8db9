-- The normal matrix by its entries.
use Rattle.std.specs.Prelude.{ℕ, List, [], ◌∷◌, ℤ, pos, ◌+ℤ◌, ◌-ℤ◌, ◌*ℤ◌, slice_index_or}
use Rattle.whole_math.specs.Vectors.{len}
use Rattle.quadratic_form.specs.Rows.{SignalRow, SignalGroup, coefficients, share}

-- the coefficient of a row in column j; 0 after the last column
abbrev pub coefficient : SignalRow → ℕ → ℤ
coefficient r j = slice_index_or (coefficients r) j (pos 0)

-- Σ c_j over the rows
abbrev pub coefficient_sum : List SignalRow → ℕ → ℤ
coefficient_sum [] j = pos 0
coefficient_sum (r ∷ rs) j = coefficient r j +ℤ coefficient_sum rs j

-- Σ c_i c_j over the rows
abbrev pub product_sum : List SignalRow → ℕ → ℕ → ℤ
product_sum [] i j = pos 0
product_sum (r ∷ rs) i j = (coefficient r i *ℤ coefficient r j) +ℤ product_sum rs i j

-- (360360 / n) w (n Σ c_i c_j - Σ c_i Σ c_j) over the n rows of the group
abbrev pub group_entry : SignalGroup → ℕ → ℕ → ℤ
group_entry g i j = share g *ℤ ((len g.rows *ℤ product_sum g.rows i j) -ℤ (coefficient_sum g.rows i *ℤ coefficient_sum g.rows j))

abbrev pub matrix_entry : List SignalGroup → ℕ → ℕ → ℤ
matrix_entry [] i j = pos 0
matrix_entry (g ∷ gs) i j = group_entry g i j +ℤ matrix_entry gs i j
