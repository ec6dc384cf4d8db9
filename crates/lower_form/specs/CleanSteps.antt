-- What the tables of the baseline's steps keep from one front to the next.
use Rattle.std.specs.Prelude.{◌≡◌, ◌⊎◌, ℕ, ◌≤◌, pos}
use Rattle.quadratic_form.specs.Tables.{entry}
use Rattle.lower_form.specs.declared.baseline_steps.BaselineSteps.{BaselineSteps}

-- of its factors only those of the baseline's columns with later ones of these columns may be other than 0
abbrev pub IsClean : ℕ → BaselineSteps → Type 0
IsClean columns steps = (r i : ℕ) → (3 ≤ i) ⊎ ((r ≤ i) ⊎ (columns ≤ r)) → entry steps.factors r i ≡ pos 0
