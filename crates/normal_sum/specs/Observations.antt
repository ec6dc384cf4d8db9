-- The observations of the rows of a pair as one signal sees them, summed.
use Rattle.std.specs.Prelude.{ℕ, List, [], ◌∷◌, ℤ, pos, ◌+ℤ◌, ◌-ℤ◌, ◌*ℤ◌, length}
use Rattle.obs_rows.specs.declared.rows.Row.{Row}
use Rattle.obs_rows.specs.Data.{number_at}
use Rattle.normal_sum.specs.Directions.{direction_sum}

-- Σ y over the rows
abbrev pub observation_sum : List Row → ℕ → ℤ
observation_sum [] s = pos 0
observation_sum (r ∷ rs) s = number_at r.y s +ℤ observation_sum rs s

-- Σ u_i y over the rows
abbrev pub observation_products : List Row → ℕ → ℕ → ℤ
observation_products [] i s = pos 0
observation_products (r ∷ rs) i s = (number_at r.u i *ℤ number_at r.y s) +ℤ observation_products rs i s

-- Σ y² over the rows
abbrev pub observation_squares : List Row → ℕ → ℤ
observation_squares [] s = pos 0
observation_squares (r ∷ rs) s = (number_at r.y s *ℤ number_at r.y s) +ℤ observation_squares rs s

-- n Σ u_i y - Σ u_i Σ y over the n rows
abbrev pub axis_spread : List Row → ℕ → ℕ → ℤ
axis_spread rows i s = (pos (length rows) *ℤ observation_products rows i s) -ℤ (direction_sum rows i *ℤ observation_sum rows s)

-- n Σ y² - (Σ y)² over the n rows
abbrev pub observation_spread : List Row → ℕ → ℤ
observation_spread rows s = (pos (length rows) *ℤ observation_squares rows s) -ℤ (observation_sum rows s *ℤ observation_sum rows s)
