-- What it means that a track stands for its files: in the terms of the files, and of the solutions of the user algorithm.
use Rattle.std.specs.Prelude.{◌≡◌, ℕ, Some, List, slice_get, ℤ}
use Rattle.obs_rows.specs.declared.pair_rows.PairRows.{PairRows}
use Rattle.obs_rows.specs.Rounds.{fine}
use Rattle.obs_rows.specs.declared.used.UsedPair.{UsedPair}
use Rattle.slip_arcs.specs.Runs.{AreKept}
use Rattle.slip_arcs.specs.Linked.{HaveDatums}
use Rattle.screening.specs.Screening.{AreUsedPairs}
use Rattle.row_build.specs.Stands.{Origin, StandsForPair}
use Rattle.track_data.specs.declared.tracks.Track.{Track}

-- the track of this origin: the rows of each tracked pair at the fine scale, from a point of its own, with the shifts of the track's arcs
pub record TrackStands (from : Origin) (t : Track) : Type 0 where
  pub system_is : t.system ≡ from.system
  pub base_is : t.base ≡ from.position
  pub signals_are : t.signals ≡ from.signals
  pub used : List UsedPair
  pub used_are : AreUsedPairs from.setting from.base from.rover from.taken used
  pub short : ℕ
  pub kept : AreKept from.bands from.jump from.least used t.arcs short
  pub datums : HaveDatums t.arcs
  pub pairs : (i : ℕ) (point : List ℤ) (p : PairRows) → slice_get t.points i ≡ Some point → slice_get t.pairs i ≡ Some p →
      StandsForPair from (fine point t.arcs) p
