-- Pairs near the circle of radius 1, and boxes that hold one.
use Rattle.std.specs.Prelude.{ℕ, pos}
use Rattle.whole_math.specs.Rational.{Rational, ◌+ʳ◌, ◌*ʳ◌, AreWithin}
use Rattle.whole_math.specs.Boxes.{of_scale}
use Rattle.iv_core.specs.declared.Iv.{Iv}
use Rattle.iv_core.specs.Intervals.{Holds}
use Rattle.trig_box.specs.AnglePairs.{Pair}
use Rattle.orbit_model.specs.Solution.{one}

-- c² + s²
abbrev pub norm_of : Pair → Rational
norm_of p = p.cos *ʳ p.cos +ʳ p.sin *ʳ p.sin

-- |c² + s² - 1| ≤ off / 2^16
abbrev pub IsNearCircle : ℕ → Pair → Type 0
IsNearCircle off p = AreWithin (of_scale 16 (pos off)) (norm_of p) one

-- c lies in the box of the cosine, and s in that of the sine
abbrev pub HoldsBoth : Iv 60 → Iv 60 → Pair → Type 0
HoldsBoth cos sin p = Holds cos p.cos × Holds sin p.sin

-- some pair in the boxes is that near the circle
pub record HasPairNearCircle (off : ℕ) (cos sin : Iv 60) : Type 0 where
  pub pair : Pair
  pub held : HoldsBoth cos sin pair
  pub near : IsNearCircle off pair
