-- What the type of a normal matrix keeps.
use Rattle.std.specs.Prelude.{◌≡◌, ℕ, ◌^◌, ◌<◌, ◌≤◌, List, [], ◌∷◌, ℤ, pos, ◌≤ℤ◌, ◌<ℤ◌}
use Rattle.quadratic_form.specs.Rows.{Radii}
use Rattle.quadratic_form.specs.Tables.{entry}
use Rattle.quadratic_form.specs.declared.sizes.TheConstants.{MOST_COLUMNS}

-- from 0 to below 2^100
abbrev pub IsRadiusSum : ℤ → Type 0
IsRadiusSum x = (pos 0 ≤ℤ x) × (x <ℤ pos (2 ^ 100))

-- of the three columns of the baseline and of the constant
abbrev pub radius_list : Radii → List ℤ
radius_list r = r.r1 ∷ (r.r2 ∷ (r.r3 ∷ (r.ry ∷ [])))

-- u has the entries of t on and above the diagonal, and below it those of their mirror places
pub record IsMirrored (t u : List (List ℤ)) : Type 0 where
  pub above : (i j : ℕ) → i ≤ j → entry u i j ≡ entry t i j
  pub below : (i j : ℕ) → i < j → j < MOST_COLUMNS → entry u j i ≡ entry t i j
