-- The texts of a simulated session as files.
use Rattle.std.specs.Prelude.{◌≡◌, ℕ, ◌<◌, List, length, ℤ, slice_index_or}
use Rattle.eph_store.specs.declared.ephemeris.Eph.{Eph}
use Rattle.line_source.specs.Lines.{lines_of}
use Rattle.rinex_head.specs.Systems.{system_of}
use Rattle.rinex_obs.specs.ObsForm.{IsObsFile}
use Rattle.rinex_nav.specs.NavForm.{IsNavFile}
use Rattle.orbit_model.specs.Elements.{world_of}
use Rattle.sim_session.specs.declared.signals.Signals.{Signals}
use Rattle.sim_session.specs.Values.{base_clock_of, rover_clock_of, base_cycles, rover_cycles, first_of}
use Rattle.sim_session.specs.Observations.{step_of, tag_of, AreObserved}
use Rattle.sim_session.specs.Texts.{base_point, rover_point, has_l5, tracking_of, HasRecords}
use Rattle.sim_jobs.specs.NavRecords.{raws_of}
use Rattle.sim_jobs.specs.ObsFiles.{file_of}

-- The text is an observation file of the system with that letter, and what it says is what a receiver that tracks these bands
-- observes at this number of epochs.
pub record ReadsAsObserved (epochs bands system : ℕ) (point : List ℤ) (clock : ℤ) (records : List Eph) (cycles : List (List ℤ)) (text : List ℕ) : Type 0 where
  pub values : List (List Signals)
  pub count : length values ≡ epochs
  pub observed : (i : ℕ) (d : List Signals) → i < length values → AreObserved (world_of system) (tag_of (step_of epochs) i) point clock records cycles (slice_index_or values i d)
  pub reads : IsObsFile (system_of system) (lines_of text) (file_of (tracking_of bands system) (step_of epochs) values)

abbrev pub ReadsAsBase : ℕ → ℕ → ℕ → ℕ → ℕ → List ℕ → Type 0
ReadsAsBase seed epochs sats bands system text = HasRecords system sats
    (λ es. ReadsAsObserved epochs bands system base_point (base_clock_of seed) es (first_of (base_cycles seed sats (has_l5 bands)) sats) text)

abbrev pub ReadsAsRover : ℕ → ℕ → ℕ → ℕ → ℕ → List ℕ → Type 0
ReadsAsRover seed epochs sats bands system text = HasRecords system sats
    (λ es. ReadsAsObserved epochs bands system (rover_point seed) (rover_clock_of seed) es (first_of (rover_cycles seed sats (has_l5 bands)) sats) text)

-- the text is a navigation file of the system with that letter, and its records are those of the first satellites
abbrev pub ReadsAsRecords : ℕ → ℕ → List ℕ → Type 0
ReadsAsRecords sats system text = HasRecords system sats (λ es. IsNavFile (system_of system) (lines_of text) (raws_of es))
