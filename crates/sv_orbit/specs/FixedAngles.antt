-- An angle that is a start and a slope times its own sine: Kepler's equation with a mean anomaly that follows the sine.
use Rattle.std.specs.Prelude.{pos}
use Rattle.whole_math.specs.Rational.{Rational, ◌≈◌, ◌≤ʳ◌, of_whole, ◌+ʳ◌, neg_r, ◌*ʳ◌}
use Rattle.trig_box.specs.AnglePairs.{IsAnglePair}

-- |16 slope| ≤ 1
abbrev pub IsSmallSlope : Rational → Type 0
IsSmallSlope slope = (of_whole (pos 16) *ʳ slope ≤ʳ of_whole (pos 1)) × (of_whole (pos 16) *ʳ neg_r slope ≤ʳ of_whole (pos 1))

-- |start| ≤ 12
abbrev pub IsStart : Rational → Type 0
IsStart start = (start ≤ʳ of_whole (pos 12)) × (neg_r start ≤ʳ of_whole (pos 12))

-- E = start + slope sin E, with some 5-pair of E
pub record HasFixedAngle (start slope : Rational) : Type 0 where
  pub angle : Rational
  pub cos : Rational
  pub sin : Rational
  pub is_pair : IsAnglePair 5 angle cos sin
  pub is_sum : angle ≈ start +ʳ slope *ʳ sin
