-- The three texts of a simulated session.
use Rattle.std.specs.Prelude.{◌≡◌, Bool, not, ◌==◌, if◌then◌else◌, ℕ, List, [], ◌∷◌, length, ℤ, pos, ◌+ℤ◌, ◌*ℤ◌}
use Rattle.obs_rows.specs.declared.band_sets.TheConstants.{BANDS_L1_L2}
use Rattle.eph_store.specs.declared.ephemeris.Eph.{Eph}
use Rattle.orbit_model.specs.Elements.{world_of}
use Rattle.sim_session.specs.Sequence.{drawn_within}
use Rattle.sim_session.specs.Values.{base_clock_of, rover_clock_of, base_cycles, rover_cycles, first_of, offset_of, truth_of}
use Rattle.sim_session.specs.declared.signals.Tracking.{Tracking}
use Rattle.sim_session.specs.declared.signals.Tracking.TheVariants.{GpsL1L2, GpsL1L2L5, GalileoE1E5a}
use Rattle.sim_session.specs.Satellites.{AreSatellites}
use Rattle.sim_session.specs.Navigation.{navigation_text}
use Rattle.sim_session.specs.Observations.{IsObservationText}
use Rattle.sim_session.specs.declared.Made.{Made}
use Rattle.sim_session.specs.declared.drawn.TheConstants.{MOST_OFFSET}

-- the base's point (6378137 m, 0, 0), and the rover's with the offset that is drawn, in units of 0.1 mm
abbrev pub base_point : List ℤ
base_point = pos 63781370000 ∷ pos 0 ∷ pos 0 ∷ []

abbrev pub rover_point : ℕ → List ℤ
rover_point seed =
    (pos 63781370000 +ℤ (pos 10 *ℤ drawn_within MOST_OFFSET seed 0)) ∷ (pos 10 *ℤ drawn_within MOST_OFFSET seed 1) ∷ (pos 10 *ℤ drawn_within MOST_OFFSET seed 2) ∷ []

-- whether the phases on L5 have whole cycles of their own: with each set of bands but L1 and L2
abbrev pub has_l5 : ℕ → Bool
has_l5 bands = not (bands == BANDS_L1_L2)

-- what the receivers track: of GPS, L1 and L2, and L5 where the bands have it
abbrev pub tracking_of : ℕ → ℕ → Tracking
tracking_of bands system = if system == 69 then GalileoE1E5a else if has_l5 bands then GpsL1L2L5 else GpsL1L2

-- P holds of the records of the first satellites of the system with that letter
pub record HasRecords (system sats : ℕ) (P : List Eph → Type 0) : Type 0 where
  pub records : List Eph
  pub count : length records ≡ sats
  pub are : AreSatellites system 0 records
  pub has : P records

abbrev pub IsBaseText : ℕ → ℕ → ℕ → ℕ → ℕ → List ℕ → Type 0
IsBaseText seed epochs sats bands system text = HasRecords system sats
    (λ es. IsObservationText epochs (tracking_of bands system) (world_of system) base_point (base_clock_of seed) es (first_of (base_cycles seed sats (has_l5 bands)) sats) text)

abbrev pub IsRoverText : ℕ → ℕ → ℕ → ℕ → ℕ → List ℕ → Type 0
IsRoverText seed epochs sats bands system text = HasRecords system sats
    (λ es. IsObservationText epochs (tracking_of bands system) (world_of system) (rover_point seed) (rover_clock_of seed) es (first_of (rover_cycles seed sats (has_l5 bands)) sats) text)

abbrev pub IsNavigationText : ℕ → ℕ → List ℕ → Type 0
IsNavigationText sats system text = HasRecords system sats (λ es. text ≡ navigation_text system es)

-- a session of the seed: its three texts, the whole cycles by which its receivers differ, and how far the rover lies off the base
pub record IsMade (seed epochs sats bands system : ℕ) (m : Made) : Type 0 where
  pub base : IsBaseText seed epochs sats bands system m.base.items
  pub rover : IsRoverText seed epochs sats bands system m.rover.items
  pub nav : IsNavigationText sats system m.nav.items
  pub truth : m.truth.items ≡ first_of (truth_of seed sats (has_l5 bands)) sats
  pub offset : m.offset ≡ offset_of seed
