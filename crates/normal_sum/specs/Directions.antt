-- The directions of the rows of a pair, summed. They are the same for each signal.
use Rattle.std.specs.Prelude.{ℕ, List, [], ◌∷◌, ℤ, pos, ◌+ℤ◌, ◌-ℤ◌, ◌*ℤ◌, length}
use Rattle.obs_rows.specs.declared.rows.Row.{Row}
use Rattle.obs_rows.specs.Data.{number_at}

-- Σ u_i over the rows
abbrev pub direction_sum : List Row → ℕ → ℤ
direction_sum [] i = pos 0
direction_sum (r ∷ rs) i = number_at r.u i +ℤ direction_sum rs i

-- Σ u_i u_j over the rows
abbrev pub direction_products : List Row → ℕ → ℕ → ℤ
direction_products [] i j = pos 0
direction_products (r ∷ rs) i j = (number_at r.u i *ℤ number_at r.u j) +ℤ direction_products rs i j

-- n Σ u_i u_j - Σ u_i Σ u_j over the n rows
abbrev pub direction_spread : List Row → ℕ → ℕ → ℤ
direction_spread rows i j = (pos (length rows) *ℤ direction_products rows i j) -ℤ (direction_sum rows i *ℤ direction_sum rows j)
