-- Rationals near boxes, and those given by numerator and denominator.
use Rattle.std.specs.Prelude.{◌≡◌, ℕ, ◌^◌, ℤ, pos, ◌*ℤ◌}
use Rattle.std.proofs.Common.{pow_pos}
use Rattle.whole_math.specs.Rational.{Rational, InBox, AreWithin}

-- k / 2^scale
abbrev pub of_scale : ℕ → ℤ → Rational
of_scale scale k = record { num = k; den = 2 ^ scale; positive = pow_pos scale }

-- q is within d of a rational in the box
pub record IsNearBox (k : ℕ) (lo hi : ℤ) (d q : Rational) : Type 0 where
  pub inside : Rational
  pub held : InBox k lo hi inside
  pub near : AreWithin d q inside

-- q is num / den
abbrev pub IsRatio : Rational → ℤ → ℤ → Type 0
IsRatio q num den = q.num *ℤ den ≡ num *ℤ pos q.den
