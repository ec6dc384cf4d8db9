-- Boxes of vectors, as the code handles them, and what it says of travel times.
use Rattle.std.specs.Prelude.{ℕ, ℤ, pos, ◌+ℤ◌, ◌*ℤ◌, neg_ℤ, ◌≤ℤ◌}
use Rattle.std.proofs.Common.{lit<}
use Rattle.whole_math.specs.Rational.{Rational, ◌≤ʳ◌, of_whole, divided}
use Rattle.iv_core.specs.declared.Iv.{Iv}
use Rattle.iv_core.specs.Intervals.{Holds, width_of, IsWithin}
use Rattle.iv_core.specs.Boxes.{near_end, far_end}
use Rattle.orbit_model.specs.SeenPlaces.{Position, square}
use Rattle.signal_travel.specs.declared.places.VectorBox.{VectorBox}

-- a coordinate in units of 0.1 mm, in metres
abbrev pub coordinate_of : ℤ → Rational
coordinate_of c = divided (of_whole c) 10000 (lit< tt)

-- each coordinate lies in its box
abbrev pub HoldsVector : VectorBox → Position → Type 0
HoldsVector b p = Holds b.x p.x × Holds b.y p.y × Holds b.z p.z

abbrev pub IsVectorWithin : ℕ → VectorBox → Type 0
IsVectorWithin m b = IsWithin m b.x × IsWithin m b.y × IsWithin m b.z

-- no end is further than m units from 0
abbrev pub AreEndsWithin : ℤ → VectorBox → Type 0
AreEndsWithin m b = ((neg_ℤ m ≤ℤ b.x.lo) × (b.x.hi ≤ℤ m)) × ((neg_ℤ m ≤ℤ b.y.lo) × (b.y.hi ≤ℤ m)) × ((neg_ℤ m ≤ℤ b.z.lo) × (b.z.hi ≤ℤ m))

abbrev pub IsVectorAtMostWide : ℤ → VectorBox → Type 0
IsVectorAtMostWide w b = (width_of b.x ≤ℤ w) × (width_of b.y ≤ℤ w) × (width_of b.z ≤ℤ w)

-- some vector of the box has a squared length from `least` to `most`
pub record HasVectorBetween (least most : ℕ) (b : VectorBox) : Type 0 where
  pub vector : Position
  pub held : HoldsVector b vector
  pub far : of_whole (pos least) ≤ʳ square vector
  pub near : square vector ≤ʳ of_whole (pos most)

-- the sums of the squares of the ends that are nearest to 0, and of those that are farthest, in units of 2^-72 m²
abbrev pub near_square : VectorBox → ℤ
near_square b = ((near_end b.x.lo b.x.hi *ℤ near_end b.x.lo b.x.hi) +ℤ (near_end b.y.lo b.y.hi *ℤ near_end b.y.lo b.y.hi)) +ℤ (near_end b.z.lo b.z.hi *ℤ near_end b.z.lo b.z.hi)

abbrev pub far_square : VectorBox → ℤ
far_square b = ((far_end b.x.lo b.x.hi *ℤ far_end b.x.lo b.x.hi) +ℤ (far_end b.y.lo b.y.hi *ℤ far_end b.y.lo b.y.hi)) +ℤ (far_end b.z.lo b.z.hi *ℤ far_end b.z.lo b.z.hi)

-- a travel time from 0 to 1/6 s
abbrev pub IsTravel : Iv 60 → Type 0
IsTravel t = (pos 0 ≤ℤ t.lo) × (t.hi ≤ℤ pos 192153584101141163)
