-- Numbers with an exponent as rationals, and their ranges.
use Rattle.std.specs.Prelude.{ℕ, suc, ◌<◌, ◌^◌, ℤ, pos, negsuc, ◌*ℤ◌, neg_ℤ, unsigned_abs}
use Rattle.std.proofs.Math.Nat.{one-le-pow}
use Rattle.std.proofs.Common.{lit<}
use Rattle.decimal_text.specs.declared.exponent.Dec.{Dec}
use Rattle.whole_math.specs.Rational.{Rational, of_whole, ◌≈◌, ◌≤ʳ◌}

pub ten_to_pos : (n : ℕ) → 0 < 10 ^ n
ten_to_pos n = one-le-pow n 10 (lit< tt)

-- n / 10^places
abbrev pub decimal : ℤ → ℕ → Rational
decimal n places = record { num = n; den = 10 ^ places; positive = ten_to_pos places }

-- mant · 10^exp; negsuc n is -(n + 1)
abbrev pub with_exponent : ℤ → ℤ → Rational
with_exponent mant (pos n) = of_whole (mant *ℤ pos (10 ^ n))
with_exponent mant (negsuc n) = decimal mant (suc n)

-- the number that a decimal stands for, and its size
abbrev pub value_of : Dec → Rational
value_of d = with_exponent d.mant d.exp

abbrev pub size_of : Dec → Rational
size_of d = with_exponent (pos (unsigned_abs d.mant)) d.exp

-- least / 10^places ≤ d ≤ most / 10^places
pub record IsFromTo (least : ℤ) (most : ℤ) (places : ℕ) (d : Dec) : Type 0 where
  pub low : decimal least places ≤ʳ value_of d
  pub high : value_of d ≤ʳ decimal most places

-- |d| ≤ bound / 10^places
abbrev pub IsWithin : ℕ → ℕ → Dec → Type 0
IsWithin bound places d = IsFromTo (neg_ℤ (pos bound)) (pos bound) places d

-- d is the whole number n
abbrev pub IsWhole : Dec → ℕ → Type 0
IsWhole d n = value_of d ≈ of_whole (pos n)
