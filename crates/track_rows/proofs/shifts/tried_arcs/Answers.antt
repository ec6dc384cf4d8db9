use Rattle.std.proofs.Common.{◌≡◌, ◌^◌, ◌++◌, ◌∷◌, [], length, All, arith, sym, subst}
use Rattle.std.proofs.lemmas.List.Elements.{All-push}
use Rattle.obs_rows.specs.declared.arcs.Arc.{Arc}
use Rattle.obs_rows.specs.Ranges.{IsBelow}
use Rattle.obs_rows.specs.Signals.{fine_signals}
use Rattle.obs_rows.specs.Unused.{HasUsedShifts}
use Rattle.round_steps.specs.Shifts.{AreShiftsBelow}
use Rattle.round_steps.proofs.ShiftLaws.{length_same}
use Rattle.session.proofs.RangeLaws.{arcs_along}
use Rattle.track_rows.specs.PairRules.{TrackSetting, setting_of}
use Rattle.track_rows.specs.Trials.{flagged}
use Rattle.track_rows.proofs.KeptArcs.{shifts_in_range}
use Rattle.track_rows.proofs.TriedArcs.{more_tried, same_tried, all_tried, keeps_others}
use Rattle.track_rows.proofs.shifts.tried_arcs.Goals as goal

pub tried_arc-requires-clause-as_many : goal.tried_arc-requires-clause-as_many
tried_arc-requires-clause-as_many c = length_same c.args.files.now.kept.now c.args.arcs.now c.requires.may.same

pub tried_arc-requires-clause-small : goal.tried_arc-requires-clause-small
tried_arc-requires-clause-small c = shifts_in_range c.args.arcs.now c.requires.may.arcs_are

pub loop-k-preserved : goal.loop-k-preserved
loop-k-preserved c =
    let files = c.args.files.now in
    let pushed : c.push.new.self.items ≡ c.loop-k.tried.items ++ c.tried_arc.result ∷ [] = c.in_ok-push.ensures.items in
    record {
      tried = more_tried (setting_of files) c.args.arcs.now (flagged c.args.begun.now) c.args.pair c.args.point.now c.loop-k.k c.loop-k.tried.items c.push.new.self.items
          c.tried_arc.result c.loop-k.invariant.tried c.tried_arc.ensures.tried pushed;
      small = subst (AreShiftsBelow (2 ^ 40)) (sym pushed)
          (All-push (λ (b : Arc). All (IsBelow (2 ^ 40)) b.shift) c.loop-k.tried.items c.tried_arc.result c.loop-k.invariant.small c.tried_arc.ensures.small);
      used = subst (All (HasUsedShifts (fine_signals files.signals))) (sym pushed)
          (All-push (HasUsedShifts (fine_signals files.signals)) c.loop-k.tried.items c.tried_arc.result c.loop-k.invariant.used c.tried_arc.ensures.used);
    }

pub returns-clause-tried : goal.returns-clause-tried
returns-clause-tried c =
    let setting : TrackSetting = setting_of c.args.files.now in
    all_tried setting c.args.arcs.now (flagged c.args.begun.now) c.args.pair c.args.point.now c.loop-k.k c.loop-k.tried.items c.requires.may.same (omega arith) c.loop-k.invariant.tried

pub returns-clause-others : goal.returns-clause-others
returns-clause-others c =
    let setting : TrackSetting = setting_of c.args.files.now in
    keeps_others setting c.args.arcs.now (flagged c.args.begun.now) c.args.pair c.args.point.now c.loop-k.k c.loop-k.tried.items c.loop-k.invariant.tried

pub returns-clause-arcs : goal.returns-clause-arcs
returns-clause-arcs c =
    let setting : TrackSetting = setting_of c.args.files.now in
    let all_arcs_done : c.loop-k.k ≡ length c.args.arcs.now = omega arith in
    arcs_along setting.kept c.loop-k.tried.items
    (same_tried setting c.args.arcs.now (flagged c.args.begun.now) c.args.pair c.args.point.now c.loop-k.k c.loop-k.tried.items c.requires.may.same all_arcs_done c.loop-k.invariant.tried)
    c.requires.may.ready.arcs c.loop-k.invariant.small
