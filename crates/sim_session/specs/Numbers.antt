-- Numbers of a navigation file, in 19 columns.
use Rattle.std.specs.Prelude.{◌≡◌, ℕ, ◌/◌, ◌^◌, ◌<◌, ◌≤◌, List, ◌∷◌, ◌++◌, ℤ, pos, negsuc, ◌+ℤ◌, ◌⊎◌}
use Rattle.decimal_text.specs.Whole.{size_of}
use Rattle.decimal_text.specs.Write.{last_digits}
use Rattle.decimal_text.specs.declared.exponent.Dec.{Dec}

-- 13 digits of which the first isn't 0, or 0 itself with the exponent 0 after its first digit
abbrev pub IsNormal : Dec → Type 0
IsNormal d = ((10 ^ 12 ≤ size_of d.mant) × (size_of d.mant < 10 ^ 13)) ⊎ ((d.mant ≡ pos 0) × (d.exp ≡ negsuc 11))

-- `-` before what is below 0, else another byte
abbrev pub sign_or : ℕ → ℤ → ℕ
sign_or other (pos n) = other
sign_or other (negsuc n) = 45

-- a blank or `-`, a digit, a point, twelve digits, `E`, a sign and two digits, of a normal number
unfoldable pub number_text : Dec → List ℕ
number_text d =
    sign_or 32 d.mant ∷ (last_digits 1 (size_of d.mant / 10 ^ 12) ++ (46 ∷ (last_digits 12 (size_of d.mant)
    ++ (69 ∷ sign_or 43 (d.exp +ℤ pos 12) ∷ last_digits 2 (size_of (d.exp +ℤ pos 12))))))
