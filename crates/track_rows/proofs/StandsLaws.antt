-- A track of what was screened stands for the files.
use Rattle.std.proofs.Common.{ℕ, List, All, ℤ, ◌∙◌}
use Rattle.obs_rows.specs.declared.arcs.Arc.{Arc}
use Rattle.obs_rows.specs.declared.bands.Signals.{Signals}
use Rattle.obs_rows.specs.Rounds.{fine}
use Rattle.slip_arcs.specs.Runs.{AreKept}
use Rattle.slip_arcs.specs.Linked.{HaveDatums}
use Rattle.screening.specs.declared.screened.Screened.{Screened}
use Rattle.screening.specs.Screening.{AreUsedPairs}
use Rattle.row_build.specs.Stands.{Origin}
use Rattle.row_build.proofs.StandsLaws.{IsEntryOf, pair_stands}
use Rattle.round_steps.specs.Shifts.{AreSameArcs}
use Rattle.session.proofs.CutLaws.{kept_along, datums_along}
use Rattle.track_data.specs.declared.lost.Tracked.{Tracked}
use Rattle.track_rows.specs.Tracks.{IsTrackOf}
use Rattle.track_rows.specs.Stands.{TrackStands}
use Rattle.track_rows.proofs.SameArcs.{unshifted_same}

-- the arcs of the track are those that it was made of, but for shifts
pub same_arcs : (screened : Screened) (kept : List Arc) (position : List ℤ) (signals : Signals) (system : ℕ) (t : Tracked) →
    IsTrackOf screened kept position signals system t → AreSameArcs kept t.track.arcs
same_arcs screened kept position signals system t is = is.is_track.same ∙ unshifted_same kept

pub track_stands : (from : Origin) (short : ℕ) (screened : Screened) (kept : List Arc) (t : Tracked) →
    AreUsedPairs from.setting from.base from.rover from.taken screened.used → All (IsEntryOf from) screened.boxes →
    AreKept from.bands from.jump from.least screened.used kept short → HaveDatums kept →
    IsTrackOf screened kept from.position from.signals from.system t → TrackStands from t.track
track_stands from short screened kept t used_are boxes kept_are datums is =
    let same : AreSameArcs kept t.track.arcs = same_arcs screened kept from.position from.signals from.system t is in
    record {
      system_is = is.system_is;
      base_is = is.base_is;
      signals_are = is.signals_are;
      used = screened.used;
      used_are = used_are;
      short = short;
      kept = kept_along from.bands from.jump from.least short screened.used kept t.track.arcs same kept_are;
      datums = datums_along kept t.track.arcs same datums;
      pairs = λ i point p point_is pair_is. pair_stands from (fine point t.track.arcs) screened.boxes p.number p boxes
          (is.is_track.are_tracked i point p point_is pair_is).rows_are;
    }
