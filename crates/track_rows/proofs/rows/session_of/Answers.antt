use Rattle.std.proofs.Common.{◌≡◌, List, [], ◌∷◌, ◌++◌, All, sym, ap, ◌∙◌, subst}
use Rattle.std.proofs.lemmas.Result.{err_from_is_err_and}
use Rattle.obs_rows.specs.declared.arcs.Arc.{Arc}
use Rattle.obs_rows.specs.declared.pair_rows.PairRows.{PairRows}
use Rattle.obs_rows.specs.declared.bands.Signals.{Signals}
use Rattle.obs_rows.specs.Arcs.{AreArcs}
use Rattle.obs_rows.specs.Pairs.{HasItsArcs}
use Rattle.obs_rows.specs.Signals.{fine_signals}
use Rattle.obs_rows.specs.Unused.{HasUsedRows, HasUsedShifts}
use Rattle.row_build.proofs.SessionLaws.{has_arcs}
use Rattle.obs_rows.proofs.ReceiverPointLaws.{receiver_is_point}
use Rattle.row_build.proofs.UnusedLaws.{used_rows}
use Rattle.track_rows.specs.PairRules.{TrackSetting, rows_setting, setting_of}
use Rattle.track_rows.proofs.PairSessions.{made_session}
use Rattle.track_rows.proofs.rows.session_of.Goals as goal

pub new-session-requires-clause-system : goal.new-session-requires-clause-system
new-session-requires-clause-system c = c.requires.may.ready.system_is

pub new-session-requires-clause-base : goal.new-session-requires-clause-base
new-session-requires-clause-base c = receiver_is_point c.args.files.now.position c.requires.may.ready.position_in

pub new-session-requires-clause-point : goal.new-session-requires-clause-point
new-session-requires-clause-point c = receiver_is_point c.args.point.now c.requires.point

pub new-session-requires-clause-arcs : goal.new-session-requires-clause-arcs
new-session-requires-clause-arcs c = subst AreArcs (sym (c.new-held.ensures ∙ c.in_ok-from_slice.ensures.items)) c.requires.may.arcs_are

pub new-session-requires-clause-shifts : goal.new-session-requires-clause-shifts
new-session-requires-clause-shifts c =
    subst (λ (xs : List Arc). All (HasUsedShifts (fine_signals c.args.files.now.signals)) xs) (sym (c.new-held.ensures ∙ c.in_ok-from_slice.ensures.items)) c.requires.used

pub push-requires-clause-arcs : goal.push-requires-clause-arcs
push-requires-clause-arcs c =
    let setting : TrackSetting = setting_of c.args.files.now in
    let same_arcs : c.new-session.result.arcs ≡ c.args.arcs.now = c.new-session.ensures.arcs ∙ c.new-held.ensures ∙ c.in_ok-from_slice.ensures.items in
    subst (λ (xs : List Arc). HasItsArcs xs c.in_ok-rows.rows) (sym same_arcs) (has_arcs (rows_setting setting c.args.arcs.now c.args.point.now c.args.scale) c.args.pair c.in_ok-rows.rows c.in_ok-rows.ensures.rows)

pub push-requires-clause-rows : goal.push-requires-clause-rows
push-requires-clause-rows c =
    let setting : TrackSetting = setting_of c.args.files.now in
    subst (λ (q : Signals). HasUsedRows (fine_signals q) c.in_ok-rows.rows) (sym c.new-session.ensures.signals)
    (used_rows (rows_setting setting c.args.arcs.now c.args.point.now c.args.scale) c.args.pair c.in_ok-rows.rows c.in_ok-rows.ensures.rows)

pub returns-clause-session : goal.returns-clause-session
returns-clause-session c =
    let made = c.finish.ensures in
    let pushed = c.push.ensures in
    let new = c.new-session.ensures in
    made_session (setting_of c.args.files.now) c.args.pair c.args.scale c.args.point.now c.args.arcs.now c.in_ok-rows.rows c.finish.result
    (made.head.scale ∙ pushed.head.scale ∙ new.scale)
    (made.head.system ∙ pushed.head.system ∙ new.system)
    (made.head.base ∙ pushed.head.base ∙ new.base)
    (made.head.point ∙ pushed.head.point ∙ new.point)
    (made.head.signals ∙ pushed.head.signals ∙ new.signals)
    (made.head.arcs ∙ pushed.head.arcs ∙ new.arcs ∙ c.new-held.ensures ∙ c.in_ok-from_slice.ensures.items)
    (made.pairs ∙ c.in_ok-push.ensures.added ∙ ap (λ (l : List PairRows). l ++ c.in_ok-rows.rows ∷ []) new.pairs)
    c.requires.may.same c.in_ok-rows.ensures.rows

pub returns-in_err-rows-clause-far : goal.returns-in_err-rows-clause-far
returns-in_err-rows-clause-far c = λ e.
    let answered = err_from_is_err_and c.from_residual.result c.from_residual.ensures.1 in
    c.in_err-rows.ensures.far (cc (answered.1, answered.2, e))
