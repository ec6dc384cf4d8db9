-- Numbers with an exponent, worked out.
use Rattle.std.specs.Prelude.{◌≡◌, ◌<◌, take, drop, ℕ, ℤ, pos, ◌+◌, ◌-◌, ◌*◌, ◌-ℤ◌, Bool, true, false, ◌||◌, nat_le, ◌==◌, if◌then◌else◌, List, [], ◌∷◌, length, slice_index, None, Some, Ok, Err}
use Rattle.std.specs.declared.option.Option.{Option}
use Rattle.std.specs.declared.result.Result.{Result}
use Rattle.decimal_text.specs.declared.exponent.Dec.{Dec}
use Rattle.decimal_text.specs.declared.fixed.NumberFault.{NumberFault}
use Rattle.decimal_text.specs.declared.fixed.NumberFault.TheVariants.{Blank, BadChar, TooLong}
use Rattle.decimal_text.specs.declared.fixed.Stage.TheVariants.{Start}
use Rattle.decimal_text.specs.Whole.{is_digit}
use Rattle.decimal_text.specs.Fixed.{is_blank, are_blank, walk, Outcome, Fails, Ends, signed}

-- D, d, E or e
abbrev pub is_mark : ℕ → Bool
is_mark b = (b == 68) || (b == 100) || (b == 69) || (b == 101)

-- what stands before the first mark
abbrev pub before_mark : List ℕ → List ℕ
before_mark [] = []
before_mark (b ∷ bs) = if is_mark b then [] else b ∷ before_mark bs

-- what stands after it, if there is one
abbrev pub behind_mark : List ℕ → Option (List ℕ)
behind_mark [] = None
behind_mark (b ∷ bs) = if is_mark b then Some bs else behind_mark bs

-- the last byte is blank
abbrev pub ends_blank : List ℕ → Bool
ends_blank text = is_blank (slice_index text (length text - 1))

-- blanks to the end after the number n, or the place of another byte
abbrev pub only_blanks : List ℕ → ℕ → ℕ → Result ℕ ℕ
only_blanks [] at n = Ok n
only_blanks (b ∷ bs) at n = if is_blank b then only_blanks bs (at + 1) n else Err at

-- digits after k others that stand for n, at most three in all, and blanks; or the place where that fails
abbrev pub power_digits : List ℕ → ℕ → ℕ → ℕ → Result ℕ ℕ
power_digits [] at n k = if k == 0 then Err at else Ok n
power_digits (b ∷ bs) at n k =
    if is_digit b then (if k == 3 then Err at else power_digits bs (at + 1) (10 * n + (b - 48)) (k + 1)) else (if k == 0 then Err at else only_blanks (b ∷ bs) at n)

abbrev pub signed_power : Bool → Result ℕ ℕ → Result ℤ ℕ
signed_power negative (Ok n) = Ok (signed negative n)
signed_power negative (Err at) = Err at

-- what stands after the mark: a sign or none, and such digits
abbrev pub power_of : List ℕ → Result ℤ ℕ
power_of [] = Err 0
power_of (b ∷ bs) =
    if b == 43 then signed_power false (power_digits bs 1 0 0) else (if b == 45 then signed_power true (power_digits bs 1 0 0) else signed_power false (power_digits (b ∷ bs) 0 0 0))

-- the digits, with the exponent lessened by the number of those after the point
abbrev pub dec_from : Outcome → ℤ → Result Dec NumberFault
dec_from (Fails at) power = Err (BadChar at)
dec_from (Ends negative n k) power =
    if nat_le 1_000_000_000_000_000_000 n then Err TooLong else Ok (record { mant = signed negative n; exp = power -ℤ pos k })

abbrev pub behind_number : ℕ → Outcome → Result ℤ ℕ → Result Dec NumberFault
behind_number start outcome (Ok power) = dec_from outcome power
behind_number start outcome (Err at) = Err (BadChar (start + at))

abbrev pub with_power : List ℕ → List ℕ → Outcome → Result Dec NumberFault
with_power front tail (Fails at) = Err (BadChar at)
with_power front tail (Ends negative n k) =
    if ends_blank front then Err (BadChar (length front)) else behind_number (length front + 1) (Ends negative n k) (power_of tail)

abbrev pub at_mark : List ℕ → Option (List ℕ) → Result Dec NumberFault
at_mark text None = dec_from (walk text 0 Start false 0 0) (pos 0)
at_mark text (Some tail) = with_power (before_mark text) tail (walk (before_mark text) 0 Start false 0 0)

-- what the text stands for, or the first fault
abbrev pub dec_of : List ℕ → Result Dec NumberFault
dec_of text = if are_blank text then Err Blank else at_mark text (behind_mark text)

-- the first mark stands at that place
pub record IsMarkAt (text : List ℕ) (at : ℕ) : Type 0 where
  pub inside : at < length text
  pub before : before_mark text ≡ take at text
  pub behind : behind_mark text ≡ Some (drop (at + 1) text)
