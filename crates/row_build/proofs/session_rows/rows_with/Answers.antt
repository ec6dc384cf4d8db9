use Rattle.std.proofs.Common.{◌≡◌, ℕ, All, length, List, arith, refl, sym, subst, ◌∙◌}
use Rattle.std.proofs.Math.Logic.{∥∥₁_elim}
use Rattle.std.proofs.Props.{props}
use Rattle.obs_rows.specs.declared.arcs.Arc.{Arc}
use Rattle.obs_rows.specs.declared.pair_rows.PairRows.{PairRows}
use Rattle.obs_rows.specs.declared.bands.Signals.{Signals}
use Rattle.obs_rows.specs.Pairs.{IsAfter, HasItsArcs}
use Rattle.obs_rows.specs.Signals.{fine_signals}
use Rattle.obs_rows.specs.Unused.{HasUsedRows, HasUsedShifts}
use Rattle.slip_arcs.specs.Linked.{IsCutOf}
use Rattle.row_build.specs.Rows.{setting_from}
use Rattle.row_build.specs.PairRows.{ArePairRows}
use Rattle.row_build.specs.SessionRows.{AreSessionRows}
use Rattle.row_build.proofs.SessionLaws.{has_arcs, is_after, with_listed, some_pair, some_weaker, some_at}
use Rattle.obs_rows.proofs.ReceiverPointLaws.{receiver_is_point}
use Rattle.row_build.proofs.UnusedLaws.{used_rows}
use Rattle.row_build.proofs.session_rows.rows_with.Goals as goal

pub new-session-requires-clause-base : goal.new-session-requires-clause-base
new-session-requires-clause-base c = receiver_is_point c.args.from.now.base.now c.args.from.now.base_in

pub new-session-requires-clause-point : goal.new-session-requires-clause-point
new-session-requires-clause-point c = receiver_is_point c.args.from.now.point.now c.args.from.now.point_in

pub add_pair-requires-clause-order : goal.add_pair-requires-clause-order
add_pair-requires-clause-order c =
    let setting = setting_from c.args.from.now c.args.scale in
    some_weaker c.in_ok-rows.rows (λ (p : PairRows). ArePairRows setting c.loop-pair.pair p) (λ (p : PairRows). IsAfter c.loop-pair.session.pairs p.number)
    (λ p a. is_after setting c.loop-pair.pair c.loop-pair.session.pairs p.number c.loop-pair.invariant.6 (sym a.number)) c.in_ok-rows.ensures.rows

pub add_pair-requires-clause-arcs : goal.add_pair-requires-clause-arcs
add_pair-requires-clause-arcs c =
    let setting = setting_from c.args.from.now c.args.scale in
    let same_arcs : c.loop-pair.session.arcs ≡ c.args.from.now.arcs.now = c.loop-pair.invariant.5 ∙ c.new-session.ensures.arcs ∙ c.new-held.ensures ∙ c.in_ok-from_slice.ensures.items in
    some_weaker c.in_ok-rows.rows (λ (p : PairRows). ArePairRows setting c.loop-pair.pair p) (λ (p : PairRows). HasItsArcs c.loop-pair.session.arcs p)
    (λ p a. subst (λ (xs : List Arc). HasItsArcs xs p) (sym same_arcs) (has_arcs setting c.loop-pair.pair p a)) c.in_ok-rows.ensures.rows

pub new-session-requires-clause-shifts : goal.new-session-requires-clause-shifts
new-session-requires-clause-shifts c = subst (λ (xs : List Arc). All (HasUsedShifts (fine_signals c.args.from.now.signals)) xs)
    (sym (c.new-held.ensures ∙ c.in_ok-from_slice.ensures.items)) c.requires.shifts

pub add_pair-requires-clause-rows : goal.add_pair-requires-clause-rows
add_pair-requires-clause-rows c =
    let setting = setting_from c.args.from.now c.args.scale in
    let same_signals : c.loop-pair.session.signals ≡ c.args.from.now.signals = c.loop-pair.invariant.4 ∙ c.new-session.ensures.signals in
    some_weaker c.in_ok-rows.rows (λ (p : PairRows). ArePairRows setting c.loop-pair.pair p) (λ (p : PairRows). HasUsedRows (fine_signals c.loop-pair.session.signals) p)
    (λ p a. subst (λ (q : Signals). HasUsedRows (fine_signals q) p) (sym same_signals) (used_rows setting c.loop-pair.pair p a)) c.in_ok-rows.ensures.rows

pub loop-pair-preserved : goal.loop-pair-preserved
loop-pair-preserved c =
    let setting = setting_from c.args.from.now c.args.scale in
    let session_so_far = c.loop-pair.invariant in
    let pair_added = c.add_pair.ensures in (
      pair_added.head.scale ∙ session_so_far.0,
      pair_added.head.system ∙ session_so_far.1,
      pair_added.head.base ∙ session_so_far.2,
      pair_added.head.point ∙ session_so_far.3,
      pair_added.head.signals ∙ session_so_far.4,
      pair_added.head.arcs ∙ session_so_far.5,
      with_listed setting c.loop-pair.pair c.loop-pair.session.pairs c.add_pair.new.session.pairs c.in_ok-rows.rows session_so_far.6 c.in_ok-rows.ensures.none
          (some_at c.in_ok-rows.rows (λ (p : PairRows). ArePairRows setting c.loop-pair.pair p) c.in_ok-rows.ensures.rows) c.in_ok-add_pair.ensures.added,
    )

pub finish-requires : goal.finish-requires
finish-requires c =
    let setting = setting_from c.args.from.now c.args.scale in
    let all_pairs_done : c.loop-pair.pair ≡ length c.args.from.now.screened.now.used = omega arith in
    let rows : AreSessionRows setting (length c.args.from.now.screened.now.used) c.loop-pair.session.pairs =
    subst (λ (n : ℕ). AreSessionRows setting n c.loop-pair.session.pairs) all_pairs_done c.loop-pair.invariant.6 in
    ∥∥₁_elim c.args.from.now.cut (hlevel props) (λ (cut : IsCutOf c.args.from.now.screened.now.used c.args.from.now.arcs.now).
    some_pair c.args.from.now.screened.now.used c.args.from.now.arcs.now setting c.loop-pair.session.pairs refl cut c.requires.arcs.some rows)
