-- Where a receiver sees a satellite, over rationals: metres and seconds, in the Earth-fixed frame of the moment of reception.
use Rattle.std.specs.Prelude.{ℕ, ◌*◌, ◌^◌, ℤ, pos, ◌⊎◌, List, slice_index_or}
use Rattle.std.proofs.Common.{lit<}
use Rattle.whole_math.specs.Rational.{Rational, ◌≈◌, ◌≤ʳ◌, ◌<ʳ◌, of_whole, ◌+ʳ◌, ◌-ʳ◌, ◌*ʳ◌, divided, IsNearRoot}
use Rattle.trig_box.specs.AnglePairs.{Pair, IsAnglePair}
use Rattle.orbit_model.specs.Elements.{earth_rate}
use Rattle.orbit_model.specs.Solution.{Quantities}

pub record Position : Type 0 where
  pub x : Rational
  pub y : Rational
  pub z : Rational

-- the place from which a solution's satellite sent
abbrev pub sent_place : Quantities → Position
sent_place q = record { x = q.x; y = q.y; z = q.z }

abbrev pub difference : Position → Position → Position
difference p q = record { x = p.x -ʳ q.x; y = p.y -ʳ q.y; z = p.z -ʳ q.z }

abbrev pub dot : Position → Position → Rational
dot p q = p.x *ʳ q.x +ʳ p.y *ʳ q.y +ʳ p.z *ʳ q.z

-- |p|²
abbrev pub square : Position → Rational
square p = dot p p

-- a point whose coordinates are given in units of 0.1 mm
abbrev pub point_of : ℤ → ℤ → ℤ → Position
point_of a b c = record { x = divided (of_whole a) 10000 (lit< tt); y = divided (of_whole b) 10000 (lit< tt); z = divided (of_whole c) 10000 (lit< tt) }

-- the same of a list of the three
abbrev pub place_at : List ℤ → Position
place_at p = point_of (slice_index_or p 0 (pos 0)) (slice_index_or p 1 (pos 0)) (slice_index_or p 2 (pos 0))

-- ---- the seen place
-- q / c², c the speed of light in m/s
abbrev pub over_light_speed_squared : Rational → Rational
over_light_speed_squared q = divided q (299792458 * 299792458) (lit< tt)

-- a place that the Earth turns away from by the angle of the pair: (C X + S Y, -S X + C Y, Z)
abbrev pub turned_back : Pair → Position → Position
turned_back turn p = record {
  x = turn.cos *ʳ p.x +ʳ turn.sin *ʳ p.y;
  y = turn.cos *ʳ p.y -ʳ turn.sin *ʳ p.x;
  z = p.z;
}

abbrev pub AreSamePlace : Position → Position → Type 0
AreSamePlace p q = (p.x ≈ q.x) × (p.y ≈ q.y) × (p.z ≈ q.z)

-- `seen` is where a receiver at `point` sees the satellite that sent from `sent`, after the travel time: a near-root of
-- |seen - point|² / c², in which the Earth turned by its rate times this time
pub record IsSeenPlace (sent point : Position) (travel : Rational) (seen : Position) : Type 0 where
  pub turn : Pair
  pub turn_is : IsAnglePair 5 (earth_rate *ʳ travel) turn.cos turn.sin
  pub seen_is : AreSamePlace seen (turned_back turn sent)
  pub travel_is : IsNearRoot travel (over_light_speed_squared (square (difference seen point)))

-- c times the travel time
abbrev pub range_of : Rational → Rational
range_of travel = of_whole (pos 299792458) *ʳ travel

-- ---- the mean direction
-- a displacement is at most 16 m
abbrev pub IsDisplacement : Position → Type 0
IsDisplacement move = square move ≤ʳ of_whole (pos 256)

-- the exact change of the range over a displacement, as a direction: -(2 (seen - point) - move) over the sum of near-roots
-- of |seen - point|² and |seen - point - move|². Its product with the displacement is the change of the range, but for the slack of the roots
pub record IsMeanDirection (seen point move direction : Position) : Type 0 where
  pub before : Rational
  pub after : Rational
  pub before_is : IsNearRoot before (square (difference seen point))
  pub after_is : IsNearRoot after (square (difference (difference seen point) move))
  pub x_is : direction.x *ʳ (before +ʳ after) ≈ move.x -ʳ of_whole (pos 2) *ʳ (seen.x -ʳ point.x)
  pub y_is : direction.y *ʳ (before +ʳ after) ≈ move.y -ʳ of_whole (pos 2) *ʳ (seen.y -ʳ point.y)
  pub z_is : direction.z *ʳ (before +ʳ after) ≈ move.z -ʳ of_whole (pos 2) *ʳ (seen.z -ʳ point.z)

-- ---- the mask
-- mask² |seen - point|² |point|², and 10^6 ((seen - point) · point)²
abbrev pub mask_side : ℕ → Position → Position → Rational
mask_side mask seen point = of_whole (pos (mask * mask)) *ʳ (square (difference seen point) *ʳ square point)

abbrev pub height_side : Position → Position → Rational
height_side seen point = of_whole (pos (10 ^ 6)) *ʳ (dot (difference seen point) point *ʳ dot (difference seen point) point)

-- the sine of the elevation, above the plane across the line from the Earth's centre to the point, is at least mask / 1000
abbrev pub IsAboveMask : ℕ → Position → Position → Type 0
IsAboveMask mask seen point = (of_whole (pos 0) ≤ʳ dot (difference seen point) point) × (mask_side mask seen point ≤ʳ height_side seen point)

-- the sine is less
abbrev pub IsBelowMask : ℕ → Position → Position → Type 0
IsBelowMask mask seen point = (dot (difference seen point) point <ʳ of_whole (pos 0)) ⊎ (height_side seen point <ʳ mask_side mask seen point)
