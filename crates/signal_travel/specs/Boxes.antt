-- What the boxes of a seen place say.
use Rattle.std.specs.Prelude.{List}
use Rattle.whole_math.specs.Rational.{AreWithin, two_to_minus}
use Rattle.iv_core.specs.declared.Iv.{Iv}
use Rattle.orbit_model.specs.SeenPlaces.{Position}
use Rattle.orbit_model.specs.Places.{HoldsPlace}

-- each coordinate is within 2^-17 m of that coordinate of every place in the boxes
abbrev pub IsNearPlaces : List (Iv 36) → Position → Type 0
IsNearPlaces boxes p = (q : Position) → HoldsPlace boxes q → AreWithin (two_to_minus 17) p.x q.x × AreWithin (two_to_minus 17) p.y q.y × AreWithin (two_to_minus 17) p.z q.z

-- some such place has the property P
pub record HasNearPlace (boxes : List (Iv 36)) (P : Position → Type 0) : Type 0 where
  pub place : Position
  pub near : IsNearPlaces boxes place
  pub has : P place
