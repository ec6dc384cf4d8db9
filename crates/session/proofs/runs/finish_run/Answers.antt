use Rattle.std.proofs.Common.{◌≤◌, ◌^◌, ◌⊎◌, ℕ, Bool, IsTrue, List, length, All, refl, sym, ap, ◌∙◌, subst}
use Rattle.obs_rows.specs.declared.arcs.Arc.{Arc}
use Rattle.obs_rows.specs.Ranges.{IsSystem}
use Rattle.obs_rows.specs.Signals.{fine_signals}
use Rattle.obs_rows.specs.Unused.{HasUsedShifts}
use Rattle.obs_rows.specs.ReceiverPoints.{IsReceiverPoint}
use Rattle.obs_rows.specs.declared.limits.TheConstants.{MOST_KEPT_ARCS}
use Rattle.round_steps.specs.Shifts.{AreShiftsBelow}
use Rattle.slip_arcs.specs.Linked.{IsCutOf}
use Rattle.session.specs.declared.file_rounds.FileRounds.{FileRounds}
use Rattle.session.specs.Answers.{HasDelta}
use Rattle.session.specs.FileRules.{rules_of}
use Rattle.session.proofs.StandsLaws.{rows_stand}
use Rattle.session.proofs.RoundLaws.{answer_allowed}
use Rattle.session.proofs.RangeLaws.{able, no_shifts, none_unused}
use Rattle.session.proofs.FewArcs.{kept_few}
use Rattle.session.proofs.runs.finish_run.Goals as goal

pub outcome_of_rounds-requires-clause-ready : goal.outcome_of_rounds-requires-clause-ready
outcome_of_rounds-requires-clause-ready c = λ on.
    let rounds = c.args.run.now.rounds in
    let is_screened = c.requires.is in (
      is_screened.cut,
      (
        able rounds.screened.used rounds.kept (length c.args.run.now.begun.taken.items) is_screened.cut rounds.screened.few rounds.screened.numbered (no_shifts rounds.kept is_screened.screened.arcs_are.shifts) on.not_few on.not_many,
        subst IsReceiverPoint (sym is_screened.screened.position_is) is_screened.position_is.in_reach,
      ),
      (is_screened.base_pseudoranges, subst IsSystem (sym is_screened.screened.system_is) c.args.options.now.of_system),
      c.none.ensures rounds.screened.boxes,
    )

few_kept : (f : FileRounds) → IsCutOf f.screened.used f.kept → length f.kept ≤ MOST_KEPT_ARCS
few_kept f cut = kept_few f.screened.used f.kept cut f.screened.ranges f.screened.numbered f.screened.few

pub outcome_of_rounds-requires-clause-few_arcs : goal.outcome_of_rounds-requires-clause-few_arcs
outcome_of_rounds-requires-clause-few_arcs c = subst (λ (l : List Arc). length l ≤ MOST_KEPT_ARCS) (sym c.as_slice-kept.ensures) (few_kept c.args.run.now.rounds c.requires.is.cut)

pub outcome_of_rounds-requires-clause-begins : goal.outcome_of_rounds-requires-clause-begins
outcome_of_rounds-requires-clause-begins c =
    let rounds = c.args.run.now.rounds in
    let is_screened = c.requires.is in
    let none_shifted = is_screened.screened.arcs_are.shifts in
    record {
      fresh = refl;
      base_is = sym is_screened.screened.position_is;
      arcs_are = c.as_slice-kept.ensures;
      base_in = is_screened.position_is.in_reach;
      shifts_in = subst (AreShiftsBelow (2 ^ 40)) (sym c.as_slice-kept.ensures) (no_shifts rounds.kept none_shifted);
      used = subst (All (HasUsedShifts (fine_signals rounds.signals))) (sym c.as_slice-kept.ensures) (none_unused (fine_signals rounds.signals) rounds.kept none_shifted);
    }

pub outcome_of_rounds-requires-clause-few : goal.outcome_of_rounds-requires-clause-few
outcome_of_rounds-requires-clause-few c = c.requires.is.few

pub returns-clause-outcome : goal.returns-clause-outcome
returns-clause-outcome c = λ base rover nav is.
    let run = c.args.run.now in
    record {
      position = run.begun.position;
      position_is = is.position_is;
      signals = run.begun.signals;
      signals_are = is.signals_are;
      sparse = is.sparse;
      taken = run.begun.taken.items;
      taken_are = is.taken_are;
      rounds = run.rounds;
      screened = is.screened;
      stands = rows_stand base rover nav c.args.options.now run.begun.position run.begun.signals run.begun.taken.items run.rounds is.screened;
      taken_is = c.in_ok-out.ensures.taken;
      all_is = c.in_ok-out.ensures.all ∙ is.all_is;
      kept_is = c.in_ok-out.ensures.kept ∙ ap (λ (l : List Arc). length l) c.as_slice-kept.ensures;
      kept_few = subst (λ (n : ℕ). n ≤ MOST_KEPT_ARCS) (sym (c.in_ok-out.ensures.kept ∙ ap (λ (l : List Arc). length l) c.as_slice-kept.ensures)) (few_kept run.rounds is.cut);
      delta_is = subst (λ (b : Bool). (IsTrue b → HasDelta base ⊎ HasDelta rover) × (HasDelta base ⊎ HasDelta rover → IsTrue b)) (sym c.in_ok-out.ensures.delta) is.delta_is;
      answer_is = c.in_ok-out.ensures.answer;
    }

pub returns-clause-rounds : goal.returns-clause-rounds
returns-clause-rounds c =
    let rounds = c.args.run.now.rounds in
    let found = c.in_ok-out.out in
    answer_allowed (rules_of rounds.screened.boxes (length rounds.screened.used) rounds.kept rounds.position rounds.signals rounds.system) found.taken c.args.options.now found.rounds found.answer c.in_ok-out.ensures.answer
