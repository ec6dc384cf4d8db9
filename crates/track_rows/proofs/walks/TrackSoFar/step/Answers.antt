use Rattle.std.proofs.Common.{Bool, List, sym, ◌∙◌, subst}
use Rattle.std.proofs.lemmas.Result.{on_ok_weaker}
use Rattle.obs_rows.specs.declared.arcs.Arc.{Arc}
use Rattle.obs_rows.specs.Arcs.{AreArcs}
use Rattle.round_steps.specs.Shifts.{AreSameArcs}
use Rattle.round_steps.proofs.ShiftLaws.{length_same}
use Rattle.track_rows.specs.declared.trials.Trial.{Trial}
use Rattle.track_rows.specs.PairRules.{setting_of}
use Rattle.track_rows.specs.Trials.{IsTrialOf, Fits, flagged}
use Rattle.track_rows.proofs.walks.TrackSoFar.step.Goals as goal

pub try_pair-requires-clause-may : goal.try_pair-requires-clause-may
try_pair-requires-clause-may c =
    let walked = c.requires.walked in
    let same_arcs = sym c.as_slice-arcs.ensures.value in
    record {
      ready = c.requires.ready;
      arcs_are = subst AreArcs same_arcs walked.fit.arcs_in;
      same = subst (AreSameArcs c.args.files.now.kept.now) same_arcs walked.is_track.same;
      pair_in = c.requires.pair;
    }

pub track-requires : goal.track-requires
track-requires c =
    let setting = setting_of c.args.files.now in
    let trial = subst (λ (x : Trial). IsTrialOf setting c.as_slice-arcs.result.now (flagged c.as_slice.result.now) c.args.pair x) c.in-Tracked.is c.in_ok-cause.ensures.trial in
    c.requires.walked.flags.count ∙ sym (length_same c.args.files.now.kept.now c.in-Tracked.arcs.items trial.0.is_tried.are_tried.same)

pub returns-in-Lost-clause-walk : goal.returns-in-Lost-clause-walk
returns-in-Lost-clause-walk c =
    let setting = setting_of c.args.files.now in
    let walk = c.args.self.now in
    let trial = subst (λ (x : Trial). IsTrialOf setting c.as_slice-arcs.result.now (flagged c.as_slice.result.now) c.args.pair x) c.in-Lost.is c.in_ok-cause.ensures.trial in
    let by_arcs = subst (λ (xs : List Arc). IsTrialOf setting xs (flagged c.as_slice.result.now) c.args.pair (Trial.Lost c.in-Lost.cause)) c.as_slice-arcs.ensures.value trial in
    let by_flags = subst (λ (xs : List Bool). IsTrialOf setting walk.arcs.items (flagged xs) c.args.pair (Trial.Lost c.in-Lost.cause)) c.as_slice.ensures.value by_arcs in
    on_ok_weaker c.lose.result (λ more. more setting c.requires.walked by_flags) c.lose.ensures

pub returns-in-Tracked-clause-walk : goal.returns-in-Tracked-clause-walk
returns-in-Tracked-clause-walk c =
    let setting = setting_of c.args.files.now in
    let walk = c.args.self.now in
    let tracked : Trial = Trial.Tracked c.in-Tracked.point c.in-Tracked.rows c.in-Tracked.arcs in
    let trial = subst (λ (y : Trial). IsTrialOf setting c.as_slice-arcs.result.now (flagged c.as_slice.result.now) c.args.pair y) c.in-Tracked.is c.in_ok-cause.ensures.trial in
    let fits = subst (λ (y : Trial). Fits setting.signals y) c.in-Tracked.is c.in_ok-cause.ensures.fits in
    let by_arcs = subst (λ (xs : List Arc). IsTrialOf setting xs (flagged c.as_slice.result.now) c.args.pair tracked) c.as_slice-arcs.ensures.value trial in
    let by_flags = subst (λ (xs : List Bool). IsTrialOf setting walk.arcs.items (flagged xs) c.args.pair tracked) c.as_slice.ensures.value by_arcs in
    on_ok_weaker c.track.result (λ more. more setting c.requires.walked by_flags fits) c.track.ensures
