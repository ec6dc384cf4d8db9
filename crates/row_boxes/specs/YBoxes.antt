-- What the y boxes of a row hold, and which groups they allow.
use Rattle.std.specs.Prelude.{◌≡◌, ℕ, ◌-◌, ◌^◌, ◌==◌, if◌then◌else◌, Some, List, All, slice_get, ℤ, pos, ◌+ℤ◌, ◌-ℤ◌, ◌*ℤ◌, neg_ℤ, ◌≤ℤ◌, ◌⊎◌}
use Rattle.whole_math.specs.Rational.{Rational, ◌≤ʳ◌, ◌<ʳ◌, of_whole, Near, InBox}
use Rattle.sv_orbit.specs.declared.place.SvBox.{SvBox}
use Rattle.orbit_model.specs.SeenPlaces.{range_of}
use Rattle.obs_rows.specs.declared.units.TheConstants.{ROW_EXPONENT}
use Rattle.obs_rows.specs.Data.{number_at}
use Rattle.obs_rows.specs.declared.signal_names.TheConstants.{L1_CODE}
use Rattle.obs_rows.specs.Signals.{wavelength, band}
use Rattle.row_boxes.specs.Terms.{prefit_width, pseudorange, iota_exponent}
use Rattle.row_boxes.specs.Sightings.{Sighting, y_in_rows}
use Rattle.row_boxes.specs.BoxSightings.{IsSighting, HasSighting}
use Rattle.row_boxes.specs.declared.pseudoranges.Pseudorange.{Pseudorange}

-- what is known of one satellite in one pair: its boxes as the two receivers' codes give them, and the receivers' points
pub record Pairing : Type 0 where
  pub base_sv : SvBox
  pub rover_sv : SvBox
  pub base : List ℤ
  pub point : List ℤ

-- one way in which both may have seen it
pub record AreSightings (p : Pairing) (base rover : Sighting) : Type 0 where
  pub base_is : IsSighting p.base_sv p.base base
  pub rover_is : IsSighting p.rover_sv p.point rover

-- both receivers have a sighting
pub record HasSightings (p : Pairing) : Type 0 where
  pub base : HasSighting p.base_sv p.base
  pub rover : HasSighting p.rover_sv p.point

-- the box holds the pseudorange of every sighting
abbrev pub HoldsPseudoranges : SvBox → List ℤ → Pseudorange → Type 0
HoldsPseudoranges sv point b = (s : Sighting) → IsSighting sv point s → InBox iota_exponent b.lo b.hi (pseudorange (range_of s.travel) s.clock)

-- the boxes hold the pseudoranges of both receivers
pub record HoldsBoth (p : Pairing) (base rover : Pseudorange) : Type 0 where
  pub base_held : HoldsPseudoranges p.base_sv p.base base
  pub rover_held : HoldsPseudoranges p.rover_sv p.point rover

-- ---- y boxes
-- the box holds the observation of signal s for all places and clocks
abbrev pub HoldsY : Pairing → ℕ → ℕ → ℤ → ℤ → ℤ → ℤ → ℤ → Type 0
HoldsY p scale s amount group shift centre radius = (base rover : Sighting) → AreSightings p base rover → Near centre radius (y_in_rows scale s amount group shift base rover)

-- the box of each of these signals; its amount and its centre are those in its place, its shift that of its band, and all have
-- one radius
abbrev pub HoldsYs : Pairing → List ℕ → ℕ → List ℤ → ℤ → List ℤ → List ℤ → ℤ → Type 0
HoldsYs p signals scale amounts group shift y ry = All (λ s. HoldsY p scale s (number_at amounts s) group (number_at shift (band s)) (number_at y s) ry) signals

-- the greatest radius of a y box that is made here: half of the greatest width, which is 940 of the fine unit and 2 of the coarse
-- one, rounded up
abbrev pub most_radius : ℕ → ℤ
most_radius scale = if scale == 0 then pos 470 else pos 1

-- the greatest radius of a y box that a row may have
abbrev pub row_radius : ℕ → ℤ
row_radius scale = if scale == 0 then pos (2 ^ 11) else pos 2

-- ---- groups
-- the box, whose unit is 2^(scale - 13) ι, meets that from -1 to 1 ι
abbrev pub MeetsOne : ℕ → ℤ → ℤ → Type 0
MeetsOne scale centre radius = ((pos (2 ^ scale) *ℤ (centre -ℤ radius)) ≤ℤ pos (2 ^ ROW_EXPONENT)) × (neg_ℤ (pos (2 ^ ROW_EXPONENT)) ≤ℤ (pos (2 ^ scale) *ℤ (centre +ℤ radius)))

-- a whole number for which a y box of the code on L1, of the satellite of a pair's first row, of at most this radius, meets -1 to 1 ι
pub record IsGroupUpTo (most : ℤ) (p : Pairing) (scale : ℕ) (amount group : ℤ) : Type 0 where
  pub centre : ℤ
  pub radius : ℤ
  pub narrow : radius ≤ℤ most
  pub holds : HoldsY p scale L1_CODE amount group (pos 0) centre radius
  pub meets : MeetsOne scale centre radius

-- such a group by a box that is as narrow as those that are made here
abbrev pub IsAllowedGroup : Pairing → ℕ → ℤ → ℤ → Type 0
IsAllowedGroup p scale amount group = IsGroupUpTo (most_radius scale) p scale amount group

-- such a group by any box that a row may have
abbrev pub IsRowGroup : Pairing → ℕ → ℤ → ℤ → Type 0
IsRowGroup p scale amount group = IsGroupUpTo (row_radius scale) p scale amount group

-- ---- what is too far
-- an observation past 2^34 - 2^12, in size
abbrev pub IsFar : Rational → Type 0
IsFar q = (of_whole (pos (2 ^ 34 - 2 ^ 12)) <ʳ q) ⊎ (q <ʳ of_whole (neg_ℤ (pos (2 ^ 34 - 2 ^ 12))))

-- for some places and clocks the observation of signal s is so far
pub record HasFarY (p : Pairing) (scale s : ℕ) (amount group shift : ℤ) : Type 0 where
  pub base : Sighting
  pub rover : Sighting
  pub are : AreSightings p base rover
  pub far : IsFar (y_in_rows scale s amount group shift base rover)

-- of some of these signals
pub record HasFarSignal (p : Pairing) (signals : List ℕ) (scale : ℕ) (amounts : List ℤ) (group : ℤ) (shift : List ℤ) : Type 0 where
  pub signal : ℕ
  pub place : ℕ
  pub counts : slice_get signals place ≡ Some signal
  pub far : HasFarY p scale signal (number_at amounts signal) group (number_at shift (band signal))

-- ---- what is nearest
-- at most n/2 ι in size, and the width of an observation less computed more above
abbrev pub IsWithinHalf : ℤ → Rational → Type 0
IsWithinHalf n q = InBox iota_exponent (neg_ℤ (n *ℤ pos (2 ^ 14))) ((n *ℤ pos (2 ^ 14)) +ℤ prefit_width) q

-- from -λ to λ, in ι
abbrev pub IsWithinCycle : ℕ → Rational → Type 0
IsWithinCycle s q = (of_whole (neg_ℤ (wavelength s)) ≤ʳ q) × (q ≤ʳ of_whole (wavelength s))
