-- What a box of the solutions of Kepler's equation holds.
use Rattle.std.specs.Prelude.{◌*◌, ◌^◌, ℤ, ◌≤ℤ◌}
use Rattle.whole_math.specs.Rational.{Rational, ◌+ʳ◌, times, two_to_minus}
use Rattle.whole_math.specs.Boxes.{IsNearBox}
use Rattle.iv_core.specs.Intervals.{Holds, width_of, IsWithin}
use Rattle.trig_box.specs.AnglePairs.{IsAnglePair, SolvesKepler}
use Rattle.iv_core.specs.declared.Iv.{Iv}
use Rattle.kepler_box.specs.declared.Anomaly.{Anomaly}
use Rattle.kepler_box.specs.Steps.{angle_width_limit, pair_width_limit}

-- each of the three lies in its box
abbrev pub HoldsAnomaly : Anomaly → Rational → Rational → Rational → Type 0
HoldsAnomaly b angle c s = Holds b.angle angle × Holds b.cos c × Holds b.sin s

-- the angle is within 2d of its box, and each part of the pair within 4d + 2^-60 of its own
abbrev pub IsNearAnomaly : Rational → Anomaly → Rational → Rational → Rational → Type 0
IsNearAnomaly d b angle c s =
    IsNearBox 56 b.angle.lo b.angle.hi (times 2 d) angle
    × IsNearBox 60 b.cos.lo b.cos.hi (times 4 d +ʳ two_to_minus 60) c
    × IsNearBox 60 b.sin.lo b.sin.hi (times 4 d +ʳ two_to_minus 60) s

-- neither box of the pair is wider than w, in units of 2^-60
abbrev pub IsPairAtMostWide : ℤ → Anomaly → Type 0
IsPairAtMostWide w b = (width_of b.cos ≤ℤ w) × (width_of b.sin ≤ℤ w)

-- b holds every solution for a mean anomaly in m and an eccentricity in e, and every pair of its angles; near it lie the solutions for
-- mean anomalies nearby; and how wide and how far out it is
pub record IsAnomalyBox (m : Iv 56) (e : Iv 60) (b : Anomaly) : Type 0 where
  pub holds : (mean eccentricity angle c s : Rational) → Holds m mean → Holds e eccentricity → SolvesKepler mean eccentricity angle c s → HoldsAnomaly b angle c s
  pub pairs : (angle c s : Rational) → Holds b.angle angle → IsAnglePair 5 angle c s → Holds b.cos c × Holds b.sin s
  pub near : (d mean eccentricity angle c s : Rational) → IsNearBox 56 m.lo m.hi d mean → Holds e eccentricity → SolvesKepler mean eccentricity angle c s → IsNearAnomaly d b angle c s
  pub range : IsWithin (2 ^ 60) b.angle
  pub angle_width : width_of b.angle ≤ℤ angle_width_limit
  pub pair_width : IsPairAtMostWide pair_width_limit b
  pub ends : IsWithin (9 * 2 ^ 57) b.cos × IsWithin (9 * 2 ^ 57) b.sin
