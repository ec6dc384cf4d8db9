use Rattle.std.proofs.lemmas.Result.{IfOk-weaker, IfErr-weaker}
use Rattle.normal_sum.specs.Values.{form_of}
use Rattle.lower_form.proofs.Exponents.{has_exponent}
use Rattle.cert_check.proofs.decided.form_of_rows.Goals as goal

pub returns-clause-form : goal.returns-clause-form
returns-clause-form c =
    IfOk-weaker c.lower.result _ _ (λ form lowered. record { normal = c.sum-normal.result; of_rows = c.sum-normal.ensures.normal; lowered = lowered }) c.lower.ensures.lower

pub returns-clause-refused : goal.returns-clause-refused
returns-clause-refused c =
    let some = has_exponent (form_of c.sum-normal.result) in
    IfErr-weaker c.lower.result _ _
    (λ fault reported. record { normal = c.sum-normal.result; of_rows = c.sum-normal.ensures.normal; h = some.0; exponent = some.1; reported = reported some.0 some.1 })
    c.lower.ensures.refused
