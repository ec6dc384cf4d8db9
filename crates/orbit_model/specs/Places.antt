-- Where places lie: in boxes, and how far from the Earth's centre; and that a place is seen.
use Rattle.std.specs.Prelude.{ℕ, pos, ◌*ℤ◌, ◌*◌, List, [], ◌∷◌}
use Rattle.whole_math.specs.Rational.{Rational, ◌≤ʳ◌, of_whole, ◌+ʳ◌, ◌*ʳ◌}
use Rattle.iv_core.specs.declared.Iv.{Iv}
use Rattle.iv_core.specs.Intervals.{Holds}
use Rattle.std.specs.List.{AllZip}
use Rattle.orbit_model.specs.SeenPlaces.{Position, square, IsSeenPlace}

-- x² + y² + z²
abbrev pub squared_distance : Rational → Rational → Rational → Rational
squared_distance x y z = x *ʳ x +ʳ y *ʳ y +ʳ z *ʳ z

-- every place in the boxes is from `nearest` to `farthest` metres from the Earth's centre
abbrev pub IsBetweenDistances : ℕ → ℕ → {k : ℕ} → Iv k → Iv k → Iv k → Type 0
IsBetweenDistances nearest farthest {k} a b c = (x y z : Rational) → Holds a x → Holds b y → Holds c z →
    (of_whole (pos nearest *ℤ pos nearest) ≤ʳ squared_distance x y z) × (squared_distance x y z ≤ʳ of_whole (pos farthest *ℤ pos farthest))

-- each coordinate lies in its box
abbrev pub HoldsPlace : List (Iv 36) → Position → Type 0
HoldsPlace boxes p = AllZip (λ b q. Holds b q) boxes (p.x ∷ p.y ∷ p.z ∷ [])

-- least ≤ |p| ≤ most
abbrev pub HasLengthBetween : ℕ → ℕ → Position → Type 0
HasLengthBetween least most p = (of_whole (pos (least * least)) ≤ʳ square p) × (square p ≤ʳ of_whole (pos (most * most)))

-- a satellite's place, from 19,000 km to 38,000 km from the Earth's centre
abbrev pub IsSentPlace : Position → Type 0
IsSentPlace p = HasLengthBetween 19000000 38000000 p

-- a receiver's place, from 6,000 km to 7,000 km from it
abbrev pub IsReceiverPlace : Position → Type 0
IsReceiverPlace p = HasLengthBetween 6000000 7000000 p

-- some travel time and some place
pub record HasSeenPlace (sent point : Position) : Type 0 where
  pub travel : Rational
  pub seen : Position
  pub is_seen : IsSeenPlace sent point travel seen
