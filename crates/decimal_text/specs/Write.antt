-- Numbers with a point as they are written.
use Rattle.std.specs.Prelude.{ℕ, ℤ, zero, suc, pos, negsuc, ◌+◌, ◌/◌, ◌%◌, ◌^◌, List, [], ◌∷◌, ◌++◌, decimal}
use Rattle.decimal_text.specs.Whole.{size_of}

-- the last k digits of a number
abbrev pub last_digits : ℕ → ℕ → List ℕ
last_digits zero n = []
last_digits (suc k) n = (48 + n / 10 ^ k % 10) ∷ last_digits k n

-- `-` before a number below 0
abbrev pub sign_text : ℤ → List ℕ
sign_text (pos n) = []
sign_text (negsuc n) = 45 ∷ []

-- a point and one digit for each place, or nothing where there are no places
abbrev pub part_text : ℕ → ℕ → List ℕ
part_text zero n = []
part_text (suc k) n = 46 ∷ last_digits (suc k) n

-- value/10^places, with exactly `places` digits after the point
abbrev pub fixed_text : ℤ → ℕ → List ℕ
fixed_text value places = sign_text value ++ (decimal (size_of value / 10 ^ places) ++ part_text places (size_of value))
