-- What is promised of the quotient of two boxes, and of the root of one.
use Rattle.std.specs.Prelude.{◌≡◌, ℕ, ◌+◌, ◌-◌, ◌^◌, ◌<◌, ℤ, pos, ◌+ℤ◌, ◌-ℤ◌, ◌*ℤ◌, ◌≤ℤ◌, ◌<ℤ◌, Result, Err, IfOk, ◌↔◌}
use Rattle.whole_math.specs.Rational.{Rational, InBox, ◌*ʳ◌, ◌≈◌, IsNearRoot}
use Rattle.iv_core.specs.Boxes.{Past}
use Rattle.iv_core.specs.Intervals.{Holds, width_of, HasZero, IsClearOfZero, low_quotient, high_quotient, IsRatioWithin, under_root, IsCloseBelowRoot, IsCloseAboveRoot}
use Rattle.iv_core.specs.declared.Iv.{Iv}
use Rattle.iv_core.specs.declared.DivFault.{DivFault}
use Rattle.iv_core.specs.declared.DivFault.TheVariants.{ZeroInside, Overwidth}

-- r is the least box of all quotients of a value in x by a value in y, or why there is none
pub record IsBoxOfQuotients {k m n : ℕ} (x : Iv k) (y : Iv m) (r : Result (Iv n) DivFault) : Type 0 where
  pub ends : IfOk r (λ c. (c.lo ≡ low_quotient n x y) × (c.hi ≡ high_quotient n x y))
  pub zero_inside : (r ≡ Err ZeroInside) ↔ HasZero y
  pub overwidth : (r ≡ Err Overwidth) ↔ (IsClearOfZero y × Past (low_quotient n x y) (high_quotient n x y))
  pub holds : IfOk r (λ c. (p q z : Rational) → Holds x p → Holds y q → z *ʳ q ≈ p → Holds c z)
  pub least : IfOk r (λ c. (l h : ℤ) →
      ((p q z : Rational) → Holds x p → Holds y q → z *ʳ q ≈ p → InBox n l h z) →
      (l ≤ℤ c.lo) × (c.hi ≤ℤ h))
  pub width : IfOk r (λ c. (d g : ℕ) → 0 < d → pos d ≤ℤ y.lo → IsRatioWithin (2 ^ (n + m - k)) g x y →
      (pos d *ℤ width_of c) <ℤ
      (((pos (2 ^ (n + m - k)) *ℤ width_of x) +ℤ (pos g *ℤ width_of y)) +ℤ (pos 2 *ℤ pos d)))

-- r holds each root that is within 2^-60 of its size of a root of a value in x, and is near those
pub record IsBoxOfRoots {k n : ℕ} (x : Iv k) (r : Iv n) : Type 0 where
  pub holds : (p q : Rational) → Holds x p → IsNearRoot q p → Holds r q
  pub not_negative : pos 0 ≤ℤ r.lo
  pub near_low : (under_root k n x.lo *ℤ (pos (2 ^ 60) -ℤ pos 1)) <ℤ
      (((r.lo +ℤ pos 1) *ℤ (r.lo +ℤ pos 1)) *ℤ pos (2 ^ 60))
  pub near_high : pos 0 <ℤ r.hi →
      (((r.hi -ℤ pos 1) *ℤ (r.hi -ℤ pos 1)) *ℤ pos (2 ^ 60)) <ℤ
      (under_root k n x.hi *ℤ (pos (2 ^ 60) +ℤ pos 1))
  pub low_distance : IsCloseBelowRoot (under_root k n x.lo) r.lo
  pub high_distance : IsCloseAboveRoot (under_root k n x.hi) r.hi
