use Rattle.std.proofs.Common.{ℕ}
use Rattle.std.proofs.lemmas.Result.{IfOk-weaker, IfErr-weaker}
use Rattle.quadratic_form.specs.Lowering.{IsExponent}
use Rattle.normal_sum.specs.Values.{form_of}
use Rattle.obs_rows.specs.Signals.{fine_signals}
use Rattle.integer_form.specs.ReportedRefusals.{IsReportedAs}
use Rattle.lower_form.specs.Forms.{IsFrontOf}
use Rattle.lower_form.specs.Fronts.{front_of}
use Rattle.lower_form.proofs.Exponents.{has_exponent}
use Rattle.track_form.specs.PairFronts.{IsFrontOfPair, IsRefusedPair}
use Rattle.track_form.proofs.fronts.pair_front.Goals as goal

pub returns-clause-front : goal.returns-clause-front
returns-clause-front c = IfOk-weaker c.front.result (IsFrontOf c.sum_pair.result) (IsFrontOfPair c.args.arcs.now (fine_signals c.args.signals) c.args.pair.now)
    (λ f is. record { normal = c.sum_pair.result; of_rows = c.sum_pair.ensures.normal; front = is }) c.front.ensures.front

pub returns-clause-refused : goal.returns-clause-refused
returns-clause-refused c =
    let some = has_exponent (form_of c.sum_pair.result) in
    IfErr-weaker c.front.result (λ e. (h : ℕ) → IsExponent h (form_of c.sum_pair.result) → IsReportedAs e (front_of h c.sum_pair.result)) (IsRefusedPair c.args.arcs.now (fine_signals c.args.signals) c.args.pair.now)
    (λ e reported. record { normal = c.sum_pair.result; of_rows = c.sum_pair.ensures.normal; h = some.0; exponent = some.1; reported = reported some.0 some.1 }) c.front.ensures.refused
