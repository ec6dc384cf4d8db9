-- Matrices of whole numbers, as tables.
use Rattle.std.specs.Prelude.{◌≡◌, ℕ, ◌<◌, List, ℤ, unsigned_abs}
use Rattle.quadratic_form.specs.Tables.{entry}

abbrev pub IsSymmetric : List (List ℤ) → Type 0
IsSymmetric t = (i j : ℕ) → entry t i j ≡ entry t j i

-- each entry is below m in size
abbrev pub EntriesBelow : ℕ → List (List ℤ) → Type 0
EntriesBelow m t = (i j : ℕ) → unsigned_abs (entry t i j) < m
