-- A run ends in no other way; and what it decides of the rows, they say again: a check certifies what is fixed.
use Rattle.std.proofs.Common.{◌≡◌, inl, inr, ℕ, ℤ, Bool, nat_eq, List, length, sym, subst}
use Rattle.obs_store.specs.declared.file.ObsFile.{ObsFile}
use Rattle.eph_store.specs.File.{Records}
use Rattle.obs_rows.specs.declared.sessions.Session.{Session}
use Rattle.int_search.specs.declared.answer.TwoBest.{TwoBest}
use Rattle.cert_data.specs.declared.certs.Cert.{Cert}
use Rattle.cert_data.specs.declared.tails.Tail.{Tail}
use Rattle.cert_data.specs.declared.tails.Tail.TheVariants.{Fixed}
use Rattle.cert_data.specs.declared.outcomes.Outcome.{Outcome}
use Rattle.cert_data.specs.declared.outcomes.Answer.TheVariants.{Full}
use Rattle.cert_data.specs.declared.verdicts.Verdict.{Verdict}
use Rattle.cert_data.specs.declared.verdicts.Verdict.TheVariants.{Certified}
use Rattle.cert_check.specs.RowDecisions.{IsRowDecision}
use Rattle.cert_check.specs.Verdicts.{IsSaidOf, IsVerdictOf}
use Rattle.cert_check.proofs.SameNumbers.{same_numbers}
use Rattle.cert_check.proofs.OneVerdict.{one_verdict}
use Rattle.round_steps.specs.Steps.{IsRoundEnd, IsOnlyEnd}
use Rattle.round_steps.specs.Runs.{Rules, most_rounds}
use Rattle.round_steps.proofs.OneEnd.{rows_decided, run_ends_once}
use Rattle.obs_rows.specs.declared.options.Options.{Options}
use Rattle.session.specs.FileRules.{rules_of}
use Rattle.session.specs.Answers.{IsAnswer}
use Rattle.session.specs.Outcomes.{IsOutcome}
use Rattle.session_jobs.specs.FixJobs.{IsFix}

-- the round of a printed certificate's session ends the run, and in no other way
pub ends_once : (base rover : ObsFile) (nav : Records) (options : Options) (outcome : Outcome) → IsOutcome base rover nav options outcome → (cert : Cert)
    → outcome.answer ≡ Full cert → IsOnlyEnd (nat_eq outcome.rounds.fine (most_rounds 0)) cert.session cert.ratio cert.budget cert.tail
ends_once base rover nav options outcome is cert full =
    let f = is.rounds in
    let last : Bool = nat_eq outcome.rounds.fine (most_rounds 0) in
    let rules : Rules = rules_of f.screened.boxes (length f.screened.used) f.kept f.position f.signals f.system in
    let ends = (subst (IsAnswer rules outcome.taken options outcome.rounds) full is.answer_is).1 in
    let once : IsOnlyEnd last cert.session options.ratio options.budget cert.tail =
    run_ends_once rules options.ratio options.budget outcome.rounds cert.session cert.tail ends.ends in
    subst (λ (n : ℕ). IsOnlyEnd last cert.session n cert.budget cert.tail) (sym ends.ratio)
    (subst (λ (n : ℕ). IsOnlyEnd last cert.session options.ratio n cert.tail) (sym ends.budget) once)

-- one that ends with a fix decides its rows
fix_decided : (last : Bool) (s : Session) (ratio budget h : ℕ) (moved : List ℤ) (best : TwoBest) (top : ℤ) → IsRoundEnd last s ratio budget (Fixed h moved best top)
    → IsRowDecision s ratio budget (Fixed h moved best top)
fix_decided last s ratio budget h moved best top (inl declined) = absurd declined
fix_decided last s ratio budget h moved best top (inr decided) = rows_decided s ratio budget (Fixed h moved best top) decided

pub certified_again : (base rover : ObsFile) (nav : Records) (options : Options) (outcome : Outcome) (cert : Cert) → IsOutcome base rover nav options outcome
    → outcome.answer ≡ Full cert → IsFix cert → IsVerdictOf cert.session cert.ratio cert.budget cert.tail Certified
certified_again base rover nav options outcome cert is full fix =
    let last : Bool = nat_eq outcome.rounds.fine (most_rounds 0) in
    let ends = (ends_once base rover nav options outcome is cert full).ends in
    let fixed : Tail = Fixed fix.h fix.moved fix.best fix.top in
    record {
      decided = fixed;
      decision = fix_decided last cert.session cert.ratio cert.budget fix.h fix.moved fix.best fix.top
          (subst (IsRoundEnd last cert.session cert.ratio cert.budget) fix.tail_is ends);
      said = subst (λ (t : Tail). IsSaidOf fixed t Certified) (sym fix.tail_is) (same_numbers fix.h fix.moved fix.best fix.top);
    }

-- each verdict on it is that one
pub no_other : (cert : Cert) → IsVerdictOf cert.session cert.ratio cert.budget cert.tail Certified → (v : Verdict)
    → IsVerdictOf cert.session cert.ratio cert.budget cert.tail v → v ≡ Certified
no_other cert certified v is = one_verdict cert.session cert.ratio cert.budget cert.tail v Certified is certified
