-- Why a step stops, and the columns of a table from one on.
use Rattle.std.specs.Prelude.{ℕ, suc, List, ℤ}
use Rattle.quadratic_form.specs.Forms.{Column}
use Rattle.quadratic_form.specs.Elimination.{Refusal, weak, wide_factor, wide_entry}
use Rattle.quadratic_form.specs.Places.{list_from, form_from}
use Rattle.quadratic_form.specs.Tables.{entry}
use Rattle.elimination.specs.declared.step.StepFault.{StepFault}
use Rattle.elimination.specs.declared.step.StepFault.TheVariants.{Weak, WideFactor, WideEntry}

-- the refusal by which a step stops in column j, whose own entry is a
abbrev pub refusal_of : ℕ → ℤ → StepFault → Refusal
refusal_of j a Weak = weak j a
refusal_of j a WideFactor = wide_factor
refusal_of j a WideEntry = wide_entry

-- column j of a table, with n columns after it
abbrev pub column_at : List (List ℤ) → ℕ → ℕ → Column
column_at t j n = record { own = entry t j j; others = list_from (entry t j) (suc j) n }

-- the form of the n columns after j
abbrev pub form_after : List (List ℤ) → ℕ → ℕ → List Column
form_after t j n = form_from (entry t) (suc j) n
