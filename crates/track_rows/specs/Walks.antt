-- What a walk over the pairs has made of those before it.
use Rattle.std.specs.Prelude.{◌≡◌, ◌↔◌, ◌⊎◌, ◌≤◌, ℕ, Bool, true, Some, List, length, All, slice_get, ℤ}
use Rattle.obs_rows.specs.declared.arcs.Arc.{Arc}
use Rattle.obs_rows.specs.declared.pair_rows.PairRows.{PairRows}
use Rattle.obs_rows.specs.Arcs.{AreArcs}
use Rattle.obs_rows.specs.Pairs.{HasItsArcs}
use Rattle.obs_rows.specs.Ranges.{IsPoint}
use Rattle.obs_rows.specs.Signals.{fine_signals}
use Rattle.obs_rows.specs.Unused.{HasUsedRows, HasUsedShifts}
use Rattle.row_build.specs.HeldArcs.{IsHeld}
use Rattle.track_data.specs.declared.lost.Lost.{Lost}
use Rattle.track_rows.specs.PairRules.{TrackSetting}
use Rattle.track_rows.specs.declared.walks.TrackSoFar.{TrackSoFar}
use Rattle.track_rows.specs.Tracks.{HasRow, IsTrack}

-- a flag for each arc, which says whether it has a row in a tracked pair
pub record AreFlags (kept : List Arc) (tracked : List PairRows) (begun : List Bool) : Type 0 where
  pub count : length begun ≡ length kept
  pub each : (k : ℕ) → (slice_get begun k ≡ Some true) ↔ HasRow kept tracked k

-- the flags, with those of the arcs that hold the pair
pub record AreMarked (begun : List Bool) (arcs : List Arc) (pair : ℕ) (flags : List Bool) : Type 0 where
  pub count : length flags ≡ length begun
  pub each : (k : ℕ) → (slice_get flags k ≡ Some true) ↔ ((slice_get begun k ≡ Some true) ⊎ IsHeld arcs pair k)

-- what the type of a track asks of its parts
pub record AreFit (t : TrackSetting) (arcs : List Arc) (points : List (List ℤ)) (tracked : List PairRows) : Type 0 where
  pub arcs_in : AreArcs arcs
  pub shifts_used : All (HasUsedShifts (fine_signals t.signals)) arcs
  pub points_in : All IsPoint points
  pub rows_have_arcs : All (HasItsArcs t.kept) tracked
  pub rows_used : All (HasUsedRows (fine_signals t.signals)) tracked

-- a track of the pairs before number `count`, with a flag for each arc
pub record IsWalked (t : TrackSetting) (count : ℕ) (arcs : List Arc) (begun : List Bool) (points : List (List ℤ)) (tracked : List PairRows) (lost : List Lost) : Type 0 where
  pub is_track : IsTrack t count arcs points tracked lost
  pub flags : AreFlags t.kept tracked begun
  pub fit : AreFit t arcs points tracked
  pub few : length tracked ≤ count

abbrev pub IsWalk : TrackSetting → ℕ → TrackSoFar → Type 0
IsWalk t count w = IsWalked t count w.arcs.items w.begun.items w.points.items w.pairs.items w.lost.items
