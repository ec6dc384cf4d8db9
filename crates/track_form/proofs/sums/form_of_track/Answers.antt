use Rattle.std.proofs.Common.{◌≡◌, ◌⊎◌, inl, inr, ℕ, ◌≤◌, List, sym, subst}
use Rattle.std.proofs.lemmas.Result.{IfOk-at_ok, IfErr-at_err, IfOk-weaker, IfErr-weaker}
use Rattle.obs_rows.specs.declared.arcs.Arc.{Arc}
use Rattle.obs_rows.specs.Signals.{fine_signals}
use Rattle.integer_form.specs.declared.front_form.FrontForm.{FrontForm}
use Rattle.integer_form.specs.ReportedRefusals.{IsReportedAs}
use Rattle.elimination.specs.Finish.{IsFinishOf, finish_of}
use Rattle.track_form.specs.declared.factors.PairFactors.{PairFactors}
use Rattle.track_form.specs.PairFronts.{IsFirstRefused}
use Rattle.track_form.specs.Factors.{AreFactors}
use Rattle.track_form.specs.SumDecided.{IsSumOfFronts, IsTrackForm, IsFinishRefused}
use Rattle.track_form.proofs.sums.form_of_track.Goals as goal

pub returns-in-Ok-clause-form : goal.returns-in-Ok-clause-form
returns-in-Ok-clause-form c =
    let arcs : List Arc = c.args.arcs.now in
    let fine : List ℕ = fine_signals c.args.signals in
    let sum : (fs : List FrontForm) × IsSumOfFronts arcs fine c.args.pairs.now fs c.in-Ok.summed.sum =
    IfOk-at_ok (λ s. (fs : List FrontForm) × IsSumOfFronts arcs fine c.args.pairs.now fs s.sum) c.in-Ok.is c.in_ok-summed.ensures.sum in
    IfOk-weaker c.finished.result (λ f. IsFinishOf c.in-Ok.summed.sum f.form) (λ f. (fs : List FrontForm) × IsTrackForm arcs fine c.args.pairs.now fs f.form)
    (λ f is. (sum.0, record { sum = c.in-Ok.summed.sum; of_fronts = sum.1; finished = is })) c.finished.ensures.form

pub returns-in-Ok-clause-factors : goal.returns-in-Ok-clause-factors
returns-in-Ok-clause-factors c =
    let are_factors : List PairFactors → Type 0 = AreFactors c.args.arcs.now (fine_signals c.args.signals) c.args.pairs.now in
    let kept : are_factors c.in-Ok.summed.factors.items = IfOk-at_ok (λ s. are_factors s.factors.items) c.in-Ok.is c.in_ok-summed.ensures.factors in
    IfOk-weaker c.finished.result (λ f. f.factors.items ≡ c.in-Ok.summed.factors.items) (λ f. are_factors f.factors.items) (λ f same. subst are_factors (sym same) kept) c.finished.ensures.factors

pub returns-in-Ok-clause-few : goal.returns-in-Ok-clause-few
returns-in-Ok-clause-few c =
    let few : c.in-Ok.summed.sum.h ≤ 90 = IfOk-at_ok (λ s. s.sum.h ≤ 90) c.in-Ok.is c.in_ok-summed.ensures.few in
    IfOk-weaker c.finished.result (λ f. IsFinishOf c.in-Ok.summed.sum f.form) (λ f. f.form.h ≤ 90) (λ f is. subst (λ (k : ℕ). k ≤ 90) (sym is.h) few) c.finished.ensures.form

pub returns-in-Ok-clause-refused : goal.returns-in-Ok-clause-refused
returns-in-Ok-clause-refused c =
    let arcs : List Arc = c.args.arcs.now in
    let fine : List ℕ = fine_signals c.args.signals in
    let sum : (fs : List FrontForm) × IsSumOfFronts arcs fine c.args.pairs.now fs c.in-Ok.summed.sum =
    IfOk-at_ok (λ s. (fs : List FrontForm) × IsSumOfFronts arcs fine c.args.pairs.now fs s.sum) c.in-Ok.is c.in_ok-summed.ensures.sum in
    IfErr-weaker c.finished.result (λ e. IsReportedAs e (finish_of c.in-Ok.summed.sum)) (λ e. IsFirstRefused arcs fine c.args.pairs.now e ⊎ IsFinishRefused arcs fine c.args.pairs.now e)
    (λ e reported. inr (record { fronts = sum.0; sum = c.in-Ok.summed.sum; of_fronts = sum.1; reported = reported })) c.finished.ensures.refused

pub returns-in-Err-clause-refused : goal.returns-in-Err-clause-refused
returns-in-Err-clause-refused c = inl (IfErr-at_err (IsFirstRefused c.args.arcs.now (fine_signals c.args.signals) c.args.pairs.now) c.in-Err.is c.in_ok-summed.ensures.refused)
