-- The box of one number.
use Rattle.std.specs.Prelude.{ℕ, ℤ, ◌≤ℤ◌}
use Rattle.whole_math.specs.Rational.{Rational, ◌≈◌, InBox}
use Rattle.iv_core.specs.declared.Iv.{Iv}
use Rattle.iv_core.specs.Intervals.{Holds}

-- the box holds the number, whichever way it is written, and each box at its scale that does is as wide or wider
pub record IsLeastBox {k : ℕ} (b : Iv k) (value : Rational) : Type 0 where
  pub holds : (x : Rational) → x ≈ value → Holds b x
  pub least : (l h : ℤ) → InBox k l h value → (l ≤ℤ b.lo) × (b.hi ≤ℤ h)
