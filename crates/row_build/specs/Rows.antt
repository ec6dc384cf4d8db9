-- What a row of an arc in a pair says.
use Rattle.std.specs.Prelude.{◌≡◌, ℕ, ◌^◌, Some, List, All, slice_get, ℤ, pos, ◌≤ℤ◌}
use Rattle.whole_math.specs.Rational.{Rational, of_whole, ◌*ʳ◌, Near}
use Rattle.sv_orbit.specs.declared.place.SvBox.{SvBox}
use Rattle.orbit_model.specs.SeenPlaces.{Position, IsDisplacement, IsMeanDirection, place_at}
use Rattle.obs_rows.specs.declared.arcs.Arc.{Arc}
use Rattle.obs_rows.specs.declared.rows.Row.{Row}
use Rattle.obs_rows.specs.Data.{number_at}
use Rattle.obs_rows.specs.declared.bands.Signals.{Signals}
use Rattle.obs_rows.specs.Signals.{counted}
use Rattle.obs_rows.specs.Unused.{IsZeroOff}
use Rattle.obs_rows.specs.declared.units.TheConstants.{DIRECTION_EXPONENT}
use Rattle.screening.specs.declared.sv_pair.SvPair.{SvPair}
use Rattle.row_boxes.specs.Sightings.{Sighting}
use Rattle.row_boxes.specs.BoxSightings.{IsSighting}
use Rattle.row_boxes.specs.YBoxes.{Pairing, HasSightings, HoldsYs, most_radius}
use Rattle.row_build.specs.declared.sources.RowSource.{RowSource}
use Rattle.row_build.specs.Entries.{IsEntry}

-- what rows are made from: what was screened, the arcs, the two points, the signals and the scale
pub record RowSetting : Type 0 where
  pub boxes : List SvPair
  pub arcs : List Arc
  pub base : List ℤ
  pub point : List ℤ
  pub signals : Signals
  pub scale : ℕ

abbrev pub setting : List SvPair → List Arc → List ℤ → List ℤ → Signals → ℕ → RowSetting
setting boxes arcs base point signals scale = record { boxes = boxes; arcs = arcs; base = base; point = point; signals = signals; scale = scale }

-- the same by what rows are made from
abbrev pub setting_from : RowSource → ℕ → RowSetting
setting_from from scale = setting from.screened.now.boxes from.arcs.now from.base.now from.point.now from.signals scale

-- the signals that count
abbrev pub counted_in : RowSetting → List ℕ
counted_in t = counted t.signals t.scale

-- the satellite of an entry, as receivers at two points see it
abbrev pub seen_by : SvPair → List ℤ → List ℤ → Pairing
seen_by v base point = record { base_sv = v.base; rover_sv = v.rover; base = base; point = point }

abbrev pub pairing_of : RowSetting → SvPair → Pairing
pairing_of t v = seen_by v t.base t.point

-- a coordinate of a direction, in 2^-24, is in the box in its place
abbrev pub IsInU : ℕ → List ℤ → List ℤ → Rational → Type 0
IsInU i u ru q = Near (number_at u i) (number_at ru i) (of_whole (pos (2 ^ DIRECTION_EXPONENT)) *ʳ q)

-- the boxes hold the mean direction from the point, for every place where the satellite may be seen and every displacement
abbrev pub HoldsU : SvBox → List ℤ → List ℤ → List ℤ → Type 0
HoldsU sv point u ru = (s : Sighting) (move direction : Position) → IsSighting sv point s → IsDisplacement move → IsMeanDirection s.seen (place_at point) move direction →
    IsInU 0 u ru direction.x × IsInU 1 u ru direction.y × IsInU 2 u ru direction.z

-- the row of arc `r.arc` in the pair, under the pair's group
pub record IsRow (t : RowSetting) (pair : ℕ) (group : ℤ) (r : Row) : Type 0 where
  pub arc : Arc
  pub arc_is : slice_get t.arcs r.arc ≡ Some arc
  pub entry : SvPair
  pub entry_is : IsEntry t.boxes pair arc.sat entry
  -- both receivers see the satellite
  pub seen : HasSightings (pairing_of t entry)
  -- each counted signal's y box holds its observation for all places and clocks
  pub y : HoldsYs (pairing_of t entry) (counted_in t) t.scale entry.observed group arc.shift r.y r.ry
  pub radius : r.ry ≤ℤ most_radius t.scale
  -- the y that do not count are 0
  pub others : IsZeroOff (counted_in t) r.y
  pub u : HoldsU entry.rover t.point r.u r.ru
  pub narrow : All (λ n. n ≤ℤ pos 32) r.ru
