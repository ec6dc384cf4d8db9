-- How numbers with an exponent are spelled: a number with a point, and next to it, before the blanks at the end, at most
-- one exponent: one of D, d, E and e, a sign or none, one to three digits.
use Rattle.std.specs.Prelude.{◌≡◌, ℕ, ℤ, pos, ◌-ℤ◌, ◌<◌, ◌≤◌, Bool, true, false, ◌⊎◌, List, ◌∷◌, ◌++◌, length, Ok, Err}
use Rattle.std.specs.declared.result.Result.{Result}
use Rattle.decimal_text.specs.declared.exponent.Dec.{Dec}
use Rattle.decimal_text.specs.declared.fixed.NumberFault.{NumberFault}
use Rattle.decimal_text.specs.declared.fixed.NumberFault.TheVariants.{Blank, BadChar, TooManyPlaces, TooLong}
use Rattle.decimal_text.specs.Whole.{are_digits, digit_sum}
use Rattle.decimal_text.specs.Fixed.{are_blank, signed}
use Rattle.decimal_text.specs.FixedForm.{IsFixed}
use Rattle.decimal_text.specs.Shapes.{FailsFirst}
use Rattle.decimal_text.specs.Exp.{is_mark, ends_blank}

-- one to three digits, then blanks
pub record IsPower (text : List ℕ) (power : List ℕ) : Type 0 where
  pub after : List ℕ
  pub text_is : text ≡ power ++ after
  pub digits : are_digits power ≡ true
  pub some : 1 ≤ length power
  pub few : length power ≤ 3
  pub blank : are_blank after ≡ true

-- with `-`, with `+` or with no sign
abbrev pub IsSignedPower : List ℕ → Bool → List ℕ → Type 0
IsSignedPower text true power = (rest : List ℕ) × (text ≡ 45 ∷ rest) × IsPower rest power
IsSignedPower text false power = ((rest : List ℕ) × (text ≡ 43 ∷ rest) × IsPower rest power) ⊎ IsPower text power

-- a number with a point that ends in no blank, a mark and an exponent
pub record IsMarked (text : List ℕ) (negative : Bool) (whole : List ℕ) (part : List ℕ) (below : Bool) (power : List ℕ) : Type 0 where
  pub front : List ℕ
  pub mark : ℕ
  pub tail : List ℕ
  pub text_is : text ≡ front ++ mark ∷ tail
  pub number : IsFixed front negative whole part
  pub next_to : ends_blank front ≡ false
  pub marks : is_mark mark ≡ true
  pub exponent : IsSignedPower tail below power

-- with no exponent, or with one
abbrev pub HasPower : List ℕ → Bool → List ℕ → List ℕ → ℤ → Type 0
HasPower text negative whole part power =
    (IsFixed text negative whole part × (power ≡ pos 0)) ⊎ ((below : Bool) × (digits : List ℕ) × IsMarked text negative whole part below digits × (power ≡ signed below (digit_sum digits)))

-- the text is a number with that sign, those digits before the point and after it, and that exponent
pub record IsExp (text : List ℕ) : Type 0 where
  pub negative : Bool
  pub whole : List ℕ
  pub part : List ℕ
  pub power : ℤ
  pub spelled : HasPower text negative whole part power

pub record IsDec (text : List ℕ) (d : Dec) : Type 0 where
  pub number : IsExp text
  pub short : digit_sum (number.whole ++ number.part) < 1_000_000_000_000_000_000
  pub mant : d.mant ≡ signed number.negative (digit_sum (number.whole ++ number.part))
  pub exp : d.exp ≡ number.power -ℤ pos (length number.part)

pub record IsLongExp (text : List ℕ) : Type 0 where
  pub number : IsExp text
  pub long : 1_000_000_000_000_000_000 ≤ digit_sum (number.whole ++ number.part)

-- what the text is read as: one of these and no other
abbrev pub IsReadAsDec : List ℕ → Result Dec NumberFault → Type 0
IsReadAsDec text (Ok d) = IsDec text d
IsReadAsDec text (Err Blank) = are_blank text ≡ true
IsReadAsDec text (Err (BadChar at)) = (are_blank text ≡ false) × FailsFirst IsExp text at
IsReadAsDec text (Err TooManyPlaces) = ⊥
IsReadAsDec text (Err TooLong) = IsLongExp text
