-- The steps of the code toward the angle, in units of 2^-56, and the sizes that they meet.
use Rattle.std.specs.Prelude.{◌≡◌, ℕ, ◌+◌, ◌*◌, ◌^◌, ◌≤◌, ℤ, pos, ◌+ℤ◌, ◌-ℤ◌, ◌*ℤ◌, ◌≤ℤ◌, unsigned_abs}
use Rattle.whole_math.specs.Rounding.{floor_div}
use Rattle.whole_math.specs.Bounds.{Within}
use Rattle.whole_math.specs.Rational.{Rational, InBox}
use Rattle.whole_math.specs.Boxes.{of_scale}
use Rattle.trig_box.specs.CanonicalPairs.{IsCanonicalPair}

-- ---- sizes
-- a mean anomaly is at most 12, and an angle that the steps come to at most 13
abbrev pub IsMeanAnomaly : ℤ → Type 0
IsMeanAnomaly m = Within (pos (12 * 2 ^ 56)) m

abbrev pub IsAngle : ℤ → Type 0
IsAngle x = Within (pos (13 * 2 ^ 56)) x

-- an eccentricity, in units of 2^-60, lies from 0 to 1/32
abbrev pub IsEccentricity : ℤ → Type 0
IsEccentricity e = (pos 0 ≤ℤ e) × (e ≤ℤ pos (2 ^ 55))

-- how far a further step leads at most
abbrev pub last_step : ℤ
last_step = pos 3

-- how far the right side of the equation lies from the angle at most, and a little over 16/15 of it
abbrev pub residual_limit : ℤ
residual_limit = pos 14

abbrev pub radius_limit : ℤ
radius_limit = pos 17

-- so the widths of the angle's box and of the pair's boxes, which are 512 and 32 for each unit of the angle's
abbrev pub angle_width_limit : ℤ
angle_width_limit = pos (2 * 17)

abbrev pub pair_width_limit : ℤ
pair_width_limit = pos (512 + 32 * (2 * 17))

-- ---- steps
-- |x - y| ≤ d
abbrev pub AreNear : ℤ → ℤ → ℤ → Type 0
AreNear d x y = ((x -ℤ y) ≤ℤ d) × ((y -ℤ x) ≤ℤ d)

-- next is m + e·sine, rounded down, where sine is within 2^-52 of the canonical sine of the angle
pub record IsStep (m e angle next : ℤ) : Type 0 where
  pub sine : ℤ
  pub size : unsigned_abs sine ≤ 2 ^ 61
  pub near : (c s : Rational) → IsCanonicalPair 5 (of_scale 56 angle) c s → InBox 60 (sine -ℤ pos 256) (sine +ℤ pos 256) s
  pub next_is : next ≡ m +ℤ floor_div (e *ℤ sine) (2 ^ 64)

-- after j rounds a step changes the angle by at most 2^53 / 16^j + 3
abbrev pub Settled : ℕ → ℤ → ℤ → ℤ → Type 0
Settled j m e angle = (next : ℤ) → IsStep m e angle next →
    (((next -ℤ angle) *ℤ pos (16 ^ j)) ≤ℤ (pos (2 ^ 53) +ℤ (last_step *ℤ pos (16 ^ j)))) × (((angle -ℤ next) *ℤ pos (16 ^ j)) ≤ℤ (pos (2 ^ 53) +ℤ (last_step *ℤ pos (16 ^ j))))
