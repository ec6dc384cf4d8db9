-- Fields of the lines of satellites.
use Rattle.std.specs.Prelude.{ℕ, ℤ, zero, suc, pos, negsuc, ◌+◌, ◌-◌, ◌*◌, ◌&&◌, ◌||◌, not, ◌==◌, nat_le, Bool, List, [], ◌∷◌, slice_set, Result, Ok, Err, None, Some, if◌then◌else◌}
use Rattle.std.specs.declared.option.Option.{Option}
use Rattle.std.specs.List.{list_all}
use Rattle.decimal_text.specs.Whole.{is_digit}
use Rattle.decimal_text.specs.Fixed.{fixed_of}
use Rattle.decimal_text.specs.declared.fixed.NumberFault.{NumberFault}
use Rattle.decimal_text.specs.declared.fixed.NumberFault.TheVariants.{Blank, BadChar, TooManyPlaces, TooLong}
use Rattle.obs_store.specs.declared.values.Value.{Value}
use Rattle.obs_store.specs.declared.kinds.ObsType.{ObsType}
use Rattle.obs_store.specs.Kinds.{slot_of}
use Rattle.rinex_head.specs.declared.system.System.{System}
use Rattle.rinex_head.specs.Systems.{letter_of, last_number_of}
use Rattle.rinex_head.specs.declared.place.Flaw.{Flaw}
use Rattle.rinex_head.specs.declared.place.What.TheVariants.{BadField, BadSat}
use Rattle.rinex_head.specs.Places.{and_then, flawed}
use Rattle.rinex_head.specs.Columns.{column, columns}
use Rattle.obs_fields.specs.declared.layout.Layout.{Layout}
use Rattle.obs_fields.specs.Layouts.{value_column}
use Rattle.obs_fields.specs.declared.types.KeptType.{KeptType}

abbrev pub is_letter : ℕ → Bool
is_letter b = (nat_le 65 b && nat_le b 90) || (nat_le 97 b && nat_le b 122)

-- a digit of a satellite's number; a blank counts as 0
abbrev pub digit_of : ℕ → Option ℕ
digit_of b = if b == 32 then Some 0 else (if is_digit b then Some (b - 48) else None)

abbrev pub two_digits : Option ℕ → Option ℕ → ℕ
two_digits (Some tens) (Some ones) = 10 * tens + ones
two_digits (Some tens) None = 0
two_digits None ones = 0

-- the number in the two columns after the letter's, or 0 where there is none
abbrev pub number_at : List ℕ → ℕ → ℕ
number_at line first = two_digits (digit_of (column line (first + 1))) (digit_of (column line (first + 2)))

-- the letter, which may be blank or not where it is that of the system
abbrev pub letter_at : System → Bool → List ℕ → ℕ → ℕ
letter_at system blank line first = if blank && (column line first == 32) then letter_of system else column line first

abbrev pub of_system : System → ℕ → ℕ → ℕ → Result (Option ℕ) Flaw
of_system system first letter number =
    if letter == letter_of system then (if nat_le number (last_number_of system) then Ok (Some number) else flawed first BadSat) else Ok None

-- the number of a satellite of the system, or nothing at one of another system
unfoldable pub satellite_at : System → Bool → List ℕ → ℕ → Result (Option ℕ) Flaw
satellite_at system blank line first =
    if is_letter (letter_at system blank line first) && nat_le 1 (number_at line first) then of_system system first (letter_at system blank line first) (number_at line first)
    else flawed first BadSat

-- a number of that many places or more whose digits are all 0
abbrev pub has_no_digit_above_0 : List ℕ → Bool
has_no_digit_above_0 text = list_all (λ b. not (nat_le 49 b && nat_le b 57)) text

abbrev pub unless_zero : ℤ → Option ℤ
unless_zero (pos zero) = None
unless_zero (pos (suc n)) = Some (pos (suc n))
unless_zero (negsuc n) = Some (negsuc n)

-- a value in thousandths; one that is blank or 0 is missing
abbrev pub amount_of : ℕ → List ℕ → Result ℤ NumberFault → Result (Option ℤ) Flaw
amount_of first text (Ok z) = Ok (unless_zero z)
amount_of first text (Err Blank) = Ok None
amount_of first text (Err TooManyPlaces) = if has_no_digit_above_0 text then Ok None else flawed first BadField
amount_of first text (Err (BadChar at)) = flawed first BadField
amount_of first text (Err TooLong) = flawed first BadField

unfoldable pub amount_in : List ℕ → ℕ → Result (Option ℤ) Flaw
amount_in line first = amount_of first (columns line first 14) (fixed_of (columns line first 14) 3)

-- the loss-of-lock digit: blank or 0 to 7
abbrev pub lock_of : ℕ → ℕ → Result ℕ Flaw
lock_of at b = if b == 32 then Ok 0 else (if nat_le 48 b && nat_le b 55 then Ok (b - 48) else flawed at BadField)

abbrev pub with_lock : List ℕ → ℕ → Option ℤ → Result (Option Value) Flaw
with_lock line at None = Ok None
with_lock line at (Some amount) = and_then (lock_of at (column line at)) (λ lock. Ok (Some (record { amount = amount; lock = lock })))

-- the value in 14 columns and the digit after it, which isn't looked at where the value is missing
unfoldable pub value_in : List ℕ → ℕ → Result (Option Value) Flaw
value_in line first = and_then (amount_in line first) (λ amount. with_lock line (first + 14) amount)

-- what such a value makes of the values, in the slot of its type
abbrev pub with_amount : List ℕ → ℕ → ObsType → List (Option Value) → Option ℤ → Result (List (Option Value)) Flaw
with_amount line first kind values amount = and_then (with_lock line (first + 14) amount) (λ value. Ok (slice_set values (slot_of kind) value))

-- the value in that column, if there is such a column, in the slot of its type
abbrev pub set_in : List ℕ → ObsType → List (Option Value) → Option ℕ → Result (List (Option Value)) Flaw
set_in line kind values None = Ok values
set_in line kind values (Some column) = and_then (value_in line column) (λ value. Ok (slice_set values (slot_of kind) value))

-- the values of the kept types that stand in this line of a satellite, each in its slot
unfoldable pub values_in : Layout → ℕ → List KeptType → List ℕ → List (Option Value) → Result (List (Option Value)) Flaw
values_in layout at [] line values = Ok values
values_in layout at (k ∷ kept) line values =
    and_then (set_in line k.kind values (value_column layout at k.number)) (λ set. values_in layout at kept line set)
