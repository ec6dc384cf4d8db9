-- A flaw in a line, and the place at which a text is refused.
use Rattle.std.specs.Prelude.{ℕ, Result, Ok, Err}
use Rattle.rinex_head.specs.declared.place.What.{What}
use Rattle.rinex_head.specs.declared.place.Flaw.{Flaw}
use Rattle.rinex_head.specs.declared.place.At.{At}

-- the line is refused from this column on
abbrev pub flawed : {A : Type 0} → ℕ → What → Result A Flaw
flawed column what = Err (record { column = column; what = what })

-- the first answer's value goes into the second, and its flaw stays
abbrev pub and_then : {A B E : Type 0} → Result A E → (A → Result B E) → Result B E
and_then (Ok x) f = f x
and_then (Err e) f = Err e

abbrev pub place : ℕ → ℕ → What → At
place line column what = record { line = line; column = column; what = what }

-- the flaw, at the line of that number
abbrev pub at_line : {A : Type 0} → ℕ → Result A Flaw → Result A At
at_line n (Ok x) = Ok x
at_line n (Err flaw) = Err (place n flaw.column flaw.what)
