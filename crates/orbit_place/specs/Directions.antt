-- Directions from the Earth's centre, and boxes that hold one near the sphere of radius 1.
use Rattle.std.specs.Prelude.{ℕ, pos}
use Rattle.whole_math.specs.Rational.{Rational, ◌+ʳ◌, ◌-ʳ◌, ◌*ʳ◌, AreWithin}
use Rattle.whole_math.specs.Boxes.{of_scale}
use Rattle.iv_core.specs.declared.Iv.{Iv}
use Rattle.iv_core.specs.Intervals.{Holds}
use Rattle.trig_box.specs.AnglePairs.{Pair}
use Rattle.orbit_model.specs.Solution.{one}
use Rattle.orbit_model.specs.Places.{squared_distance}

pub record Point : Type 0 where
  pub x : Rational
  pub y : Rational
  pub z : Rational

-- the direction of a satellite with the pairs u of its argument of latitude, i of its inclination and n of its node:
-- (cos u cos Ω - sin u cos i sin Ω, cos u sin Ω + sin u cos i cos Ω, sin u sin i)
abbrev pub direction : Pair → Pair → Pair → Point
direction u i n = record {
  x = u.cos *ʳ n.cos -ʳ u.sin *ʳ i.cos *ʳ n.sin;
  y = u.cos *ʳ n.sin +ʳ u.sin *ʳ i.cos *ʳ n.cos;
  z = u.sin *ʳ i.sin;
}

abbrev pub HoldsPoint : {k : ℕ} → Iv k → Iv k → Iv k → Point → Type 0
HoldsPoint a b c p = Holds a p.x × Holds b p.y × Holds c p.z

-- |x² + y² + z² - 1| ≤ off / 2^16
abbrev pub IsNearSphere : ℕ → Point → Type 0
IsNearSphere off p = AreWithin (of_scale 16 (pos off)) (squared_distance p.x p.y p.z) one

-- some point in the boxes is that near the sphere
pub record HasPointNearSphere (off : ℕ) (a b c : Iv 60) : Type 0 where
  pub point : Point
  pub held : HoldsPoint a b c point
  pub near : IsNearSphere off point
