-- A track: which pairs of epochs are tracked, from which points and with which shifts, and why each other pair isn't. It is said of all
-- pairs at once; of what came before a pair only those tracked pairs matter that have lesser numbers.
use Rattle.std.specs.Prelude.{◌≡◌, ◌≢◌, ◌⊎◌, ◌<◌, ℕ, Some, List, [], ◌∷◌, length, map, All, AllPairs, Any, slice_get, ℤ, pos}
use Rattle.obs_rows.specs.declared.arcs.Arc.{Arc}
use Rattle.obs_rows.specs.declared.bands.Signals.{Signals}
use Rattle.obs_rows.specs.declared.pair_rows.PairRows.{PairRows}
use Rattle.screening.specs.declared.screened.Screened.{Screened}
use Rattle.row_build.specs.HeldArcs.{IsHeld}
use Rattle.round_steps.specs.Shifts.{AreSameArcs}
use Rattle.track_data.specs.declared.lost.Lost.{Lost}
use Rattle.track_data.specs.declared.lost.Tracked.{Tracked}
use Rattle.track_rows.specs.PairRules.{TrackSetting}
use Rattle.track_rows.specs.Trials.{IsTrackedBy, IsLost}

abbrev pub no_shifts : List ℤ
no_shifts = pos 0 ∷ pos 0 ∷ pos 0 ∷ []

-- the arc with the shifts of one that has no tracked row
abbrev pub unshifted : Arc → Arc
unshifted a = record a { shift = no_shifts }

-- the arc of this number has a row in one of these pairs
abbrev pub HasRow : List Arc → List PairRows → ℕ → Type 0
HasRow arcs tracked arc = Any (λ p. IsHeld arcs p.number arc) tracked

-- it has one in a tracked pair before this one
abbrev pub HasBegun : List Arc → List PairRows → ℕ → ℕ → Type 0
HasBegun arcs tracked pair arc = Any (λ p. (p.number < pair) × IsHeld arcs p.number arc) tracked

-- Of the pairs before number `count` each is tracked or lost, and not both, in the order of their numbers: a tracked pair is tried with
-- the shifts that its arcs have in the end, and a lost one has the first cause that holds
pub record IsTrack (t : TrackSetting) (count : ℕ) (arcs : List Arc) (points : List (List ℤ)) (tracked : List PairRows) (lost : List Lost) : Type 0 where
  pub same : AreSameArcs t.kept arcs
  pub point_each : length points ≡ length tracked
  pub are_tracked : (i : ℕ) (point : List ℤ) (p : PairRows) → slice_get points i ≡ Some point → slice_get tracked i ≡ Some p →
      IsTrackedBy t arcs (HasBegun t.kept tracked p.number) p.number point p arcs
  pub are_lost : All (λ l. IsLost t arcs (HasBegun t.kept tracked l.pair) l.pair l.cause) lost
  pub each : (pair : ℕ) → pair < count → Any (λ p. p.number ≡ pair) tracked ⊎ Any (λ l. l.pair ≡ pair) lost
  pub apart : All (λ p. All (λ l. l.pair ≢ p.number) lost) tracked
  pub tracked_in : All (λ p. p.number < count) tracked
  pub lost_in : All (λ l. l.pair < count) lost
  pub tracked_rise : AllPairs (λ p q. p.number < q.number) tracked
  pub lost_rise : AllPairs (λ k l. k.pair < l.pair) lost
  -- an arc without a tracked row has no shifts
  pub untouched : (k : ℕ) (a : Arc) → slice_get arcs k ≡ Some a → (HasRow t.kept tracked k → ⊥) → a.shift ≡ no_shifts

-- a track of these arcs, whatever shifts they are handed in with, over the satellites that were screened
pub record IsTrackOf (screened : Screened) (arcs : List Arc) (base : List ℤ) (signals : Signals) (system : ℕ) (tracked : Tracked) : Type 0 where
  pub system_is : tracked.track.system ≡ system
  pub base_is : tracked.track.base ≡ base
  pub signals_are : tracked.track.signals ≡ signals
  pub is_track : IsTrack (record { boxes = screened.boxes; kept = map unshifted arcs; position = base; signals = signals; system = system }) (length screened.used)
      tracked.track.arcs tracked.track.points tracked.track.pairs tracked.lost
