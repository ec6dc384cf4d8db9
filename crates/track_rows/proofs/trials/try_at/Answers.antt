use Rattle.std.proofs.Common.{List, Err, sym, ap, subst}
use Rattle.obs_rows.specs.declared.arcs.Arc.{Arc}
use Rattle.obs_rows.specs.Arcs.{AreArcs}
use Rattle.obs_rows.specs.Signals.{fine_signals}
use Rattle.round_steps.specs.Shifts.{AreSameArcs}
use Rattle.row_build.specs.PairRows.{ArePairRows}
use Rattle.row_build.specs.Far.{HasFarRow}
use Rattle.row_build.proofs.SessionLaws.{has_arcs}
use Rattle.track_form.specs.PairFronts.{IsRefusedPair}
use Rattle.track_rows.specs.PairRules.{TrackSetting, rows_setting, setting_of}
use Rattle.track_rows.specs.Trials.{IsTried, flagged}
use Rattle.track_rows.proofs.KeptArcs.{has_kept}
use Rattle.track_rows.proofs.Outcomes.{is_tried, lost_far, lost_weak, lost_wide, tracked_by, fits_track, rows_there}
use Rattle.track_rows.proofs.trials.try_at.Goals as goal

pub rows_of-requires-clause-may : goal.rows_of-requires-clause-may
rows_of-requires-clause-may c =
    let may = c.requires.may in
    let tried = c.in_ok-tried.ensures in
    record {
      ready = may.ready;
      arcs_are = subst AreArcs (sym c.as_slice.ensures.value) tried.arcs;
      same = subst (AreSameArcs c.args.files.now.kept.now) (sym c.as_slice.ensures.value) tried.tried.same;
      pair_in = may.pair_in;
    }

pub fill-requires-clause-arcs : goal.fill-requires-clause-arcs
fill-requires-clause-arcs c =
    let setting : TrackSetting = setting_of c.args.files.now in
    let point = c.args.point.now in
    let tried : List Arc = c.in_ok-tried.tried.items in
    let are : ArePairRows (rows_setting setting tried point 0) c.args.pair c.in-Ok.rows = rows_there setting c.args.pair point c.as_slice.result.now tried c.in-Ok.rows c.as_slice.ensures.value c.in-Ok.ensures.rows in
    has_kept setting.kept tried c.in-Ok.rows c.in_ok-tried.ensures.tried.same (has_arcs (rows_setting setting tried point 0) c.args.pair c.in-Ok.rows are)

pub returns-in-Err-Overwidth-clause-trial : goal.returns-in-Err-Overwidth-clause-trial
returns-in-Err-Overwidth-clause-trial c =
    let setting : TrackSetting = setting_of c.args.files.now in
    let arcs : List Arc = c.args.arcs.now in
    let begun = flagged c.args.begun.now in
    let point = c.args.point.now in
    let tried : List Arc = c.in_ok-tried.tried.items in
    let trial : IsTried setting arcs begun c.args.pair point tried = is_tried setting arcs begun c.args.pair point tried c.requires.enough c.requires.settled c.in_ok-tried.ensures.tried in
    lost_far setting arcs begun c.args.pair point tried trial
    (subst (λ (l : List Arc). HasFarRow (rows_setting setting l point 0) c.args.pair) c.as_slice.ensures.value (c.in-Err-Overwidth.ensures.far (ap Err c.in-Err-Overwidth.field-0-is)))

pub returns-in-Ok-fill-clause-trial : goal.returns-in-Ok-fill-clause-trial
returns-in-Ok-fill-clause-trial c =
    let setting : TrackSetting = setting_of c.args.files.now in
    let arcs : List Arc = c.args.arcs.now in
    let begun = flagged c.args.begun.now in
    let point = c.args.point.now in
    let tried : List Arc = c.in_ok-tried.tried.items in
    let trial : IsTried setting arcs begun c.args.pair point tried = is_tried setting arcs begun c.args.pair point tried c.requires.enough c.requires.settled c.in_ok-tried.ensures.tried in
    let are : ArePairRows (rows_setting setting tried point 0) c.args.pair c.in-Ok.rows = rows_there setting c.args.pair point c.as_slice.result.now tried c.in-Ok.rows c.as_slice.ensures.value c.in-Ok.ensures.rows in
    (tracked_by setting arcs begun c.args.pair point tried c.in-Ok.rows c.fill.new.self.front trial are c.in-Ok-fill.ensures.front, c.in_ok-tried.ensures.others)

pub returns-in-Ok-fill-clause-fits : goal.returns-in-Ok-fill-clause-fits
returns-in-Ok-fill-clause-fits c =
    let setting : TrackSetting = setting_of c.args.files.now in
    let point = c.args.point.now in
    let tried : List Arc = c.in_ok-tried.tried.items in
    let are : ArePairRows (rows_setting setting tried point 0) c.args.pair c.in-Ok.rows = rows_there setting c.args.pair point c.as_slice.result.now tried c.in-Ok.rows c.as_slice.ensures.value c.in-Ok.ensures.rows in
    fits_track setting c.args.pair point tried c.in-Ok.rows c.requires.settled c.in_ok-tried.ensures.arcs c.in_ok-tried.ensures.used are

pub returns-in-Err-Weak-clause-trial : goal.returns-in-Err-Weak-clause-trial
returns-in-Err-Weak-clause-trial c =
    let setting : TrackSetting = setting_of c.args.files.now in
    let arcs : List Arc = c.args.arcs.now in
    let begun = flagged c.args.begun.now in
    let point = c.args.point.now in
    let tried : List Arc = c.in_ok-tried.tried.items in
    let refused = c.in-Err-Weak in
    let trial : IsTried setting arcs begun c.args.pair point tried = is_tried setting arcs begun c.args.pair point tried c.requires.enough c.requires.settled c.in_ok-tried.ensures.tried in
    let are : ArePairRows (rows_setting setting tried point 0) c.args.pair c.in-Ok.rows = rows_there setting c.args.pair point c.as_slice.result.now tried c.in-Ok.rows c.as_slice.ensures.value c.in-Ok.ensures.rows in
    lost_weak setting arcs begun c.args.pair point tried c.in-Ok.rows refused.field-0-0 refused.field-0-1 trial are (subst (IsRefusedPair setting.kept (fine_signals setting.signals) c.in-Ok.rows) refused.field-0-is refused.ensures.refused)

pub returns-clause-trial : goal.returns-clause-trial
returns-clause-trial c =
    let setting : TrackSetting = setting_of c.args.files.now in
    let arcs : List Arc = c.args.arcs.now in
    let begun = flagged c.args.begun.now in
    let point = c.args.point.now in
    let tried : List Arc = c.in_ok-tried.tried.items in
    let refused = c.in-Err-Overwidth-fill in
    let trial : IsTried setting arcs begun c.args.pair point tried = is_tried setting arcs begun c.args.pair point tried c.requires.enough c.requires.settled c.in_ok-tried.ensures.tried in
    let are : ArePairRows (rows_setting setting tried point 0) c.args.pair c.in-Ok.rows = rows_there setting c.args.pair point c.as_slice.result.now tried c.in-Ok.rows c.as_slice.ensures.value c.in-Ok.ensures.rows in
    lost_wide setting arcs begun c.args.pair point tried c.in-Ok.rows refused.field-0-0 trial are (subst (IsRefusedPair setting.kept (fine_signals setting.signals) c.in-Ok.rows) refused.field-0-is refused.ensures.refused)
