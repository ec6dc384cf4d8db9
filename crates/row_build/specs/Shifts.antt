-- First shifts of an arc in a pair.
use Rattle.std.specs.Prelude.{◌<◌, ℕ, Bool, IsTrue, ◌==◌, List, ℤ}
use Rattle.std.specs.List.{list_any}
use Rattle.obs_rows.specs.declared.units.TheConstants.{SIGNALS}
use Rattle.obs_rows.specs.Signals.{is_phase, band}
use Rattle.obs_rows.specs.CountedSignals.{phase_bands}
use Rattle.obs_rows.specs.Unused.{IsZeroOff}
use Rattle.obs_rows.specs.Data.{number_at}
use Rattle.obs_rows.specs.declared.signal_names.TheConstants.{L1_CODE}
use Rattle.screening.specs.declared.sv_pair.SvPair.{SvPair}
use Rattle.row_boxes.specs.Sightings.{Sighting, y_of}
use Rattle.row_boxes.specs.YBoxes.{AreSightings, HasSightings, IsRowGroup, IsWithinCycle}
use Rattle.row_build.specs.Entries.{IsEntry}
use Rattle.row_build.specs.Far.{IsFirstEntry}
use Rattle.row_build.specs.Rows.{RowSetting, pairing_of, counted_in}

-- the signal is one of the list
abbrev pub counts : List ℕ → ℕ → Bool
counts signals s = list_any (λ t. t == s) signals

-- with these shifts of the satellite's arc the observation of each phase that counts in the pair lies from -λ to λ, for every group
-- that any box that the pair's first row may have in a fine session allows, and for all places and clocks. Both receivers see both
-- satellites
pub record AreFirstShifts (t : RowSetting) (pair sat : ℕ) (shift : List ℤ) : Type 0 where
  pub first : SvPair
  pub first_is : IsFirstEntry t.boxes t.arcs pair first
  pub first_seen : HasSightings (pairing_of t first)
  pub entry : SvPair
  pub entry_is : IsEntry t.boxes pair sat entry
  pub seen : HasSightings (pairing_of t entry)
  pub within : (group : ℤ) → IsRowGroup (pairing_of t first) 0 (number_at first.observed L1_CODE) group →
      (s : ℕ) → s < SIGNALS → IsTrue (is_phase s) → IsTrue (counts (counted_in t) s) → (b r : Sighting) → AreSightings (pairing_of t entry) b r →
      IsWithinCycle s (y_of s (number_at entry.observed s) group (number_at shift (band s)) b r)
  -- the shift of a band whose phase doesn't count is 0
  pub unused : IsZeroOff (phase_bands (counted_in t)) shift
