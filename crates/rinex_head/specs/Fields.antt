-- Numbers in the fields of a line.
use Rattle.std.specs.Prelude.{ℕ, ℤ, if◌then◌else◌, List, [], ◌∷◌, Result, Ok, Err, None, Some}
use Rattle.std.specs.declared.option.Option.{Option}
use Rattle.decimal_text.specs.Whole.{are_digits, number_from}
use Rattle.decimal_text.specs.Fixed.{without_blanks, fixed_of}
use Rattle.decimal_text.specs.Exp.{dec_of}
use Rattle.decimal_text.specs.declared.exponent.Dec.{Dec}
use Rattle.decimal_text.specs.declared.fixed.NumberFault.{NumberFault}
use Rattle.rinex_head.specs.declared.place.Flaw.{Flaw}
use Rattle.rinex_head.specs.declared.place.What.TheVariants.{BadField}
use Rattle.rinex_head.specs.Columns.{columns}
use Rattle.rinex_head.specs.Places.{and_then, flawed}

-- A whole number in a field that begins at a column: digits after blanks in place of zeros, or blanks alone.
abbrev pub digits_of : ℕ → List ℕ → Result (Option ℕ) Flaw
digits_of first [] = Ok None
digits_of first (b ∷ bs) = if are_digits (b ∷ bs) then Ok (Some (number_from 0 (b ∷ bs))) else flawed first BadField

abbrev pub whole_of : ℕ → List ℕ → Result (Option ℕ) Flaw
whole_of first field = digits_of first (without_blanks field)

-- a whole number that must be there
abbrev pub required : ℕ → Option ℕ → Result ℕ Flaw
required first None = flawed first BadField
required first (Some n) = Ok n

abbrev pub filled_of : ℕ → List ℕ → Result ℕ Flaw
filled_of first field = and_then (whole_of first field) (λ n. required first n)

-- a number that must be there and can be read
abbrev pub readable : {A : Type 0} → ℕ → Result A NumberFault → Result A Flaw
readable first (Ok number) = Ok number
readable first (Err fault) = flawed first BadField

-- the number with a point in a number of columns from one on, times 10^places
unfoldable pub fixed_in : List ℕ → ℕ → ℕ → ℕ → Result ℤ Flaw
fixed_in line first count places = readable first (fixed_of (columns line first count) places)

-- the number with an exponent in a number of columns from one on
unfoldable pub exponent_in : List ℕ → ℕ → ℕ → Result Dec Flaw
exponent_in line first count = readable first (dec_of (columns line first count))
