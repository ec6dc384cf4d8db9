use Rattle.std.proofs.Common.{subst}
use Rattle.cert_check.specs.Verdicts.{IsSaidOf, IsVerdictOf}
use Rattle.obs_rows.specs.Best.{IsBestByRatio}
use Rattle.cert_check.proofs.Checked.{fixed_said, strictly_in}
use Rattle.cert_check.proofs.OneVerdict.{one_verdict}
use Rattle.cert_check.proofs.verdict.check.Goals as goal

pub returns-clause-verdict : goal.returns-clause-verdict
returns-clause-verdict c = record { decided = c.decide_rows-decided.result; decision = c.decide_rows-decided.ensures.decision; said = c.said_of.ensures }

pub returns-clause-strictly_best : goal.returns-clause-strictly_best
returns-clause-strictly_best c = λ certified.
    let cert = c.args.cert.now in
    strictly_in cert.ratio cert.session cert.tail cert.ratio_from
    (fixed_said (IsBestByRatio cert.ratio cert.session) c.decide_rows-decided.result cert.tail c.decide_rows-decided.ensures.by_ratio
    (subst (IsSaidOf c.decide_rows-decided.result cert.tail) certified c.said_of.ensures))

pub returns-clause-by_ratio : goal.returns-clause-by_ratio
returns-clause-by_ratio c = λ certified.
    let cert = c.args.cert.now in
    fixed_said (IsBestByRatio cert.ratio cert.session) c.decide_rows-decided.result cert.tail c.decide_rows-decided.ensures.by_ratio
    (subst (IsSaidOf c.decide_rows-decided.result cert.tail) certified c.said_of.ensures)

pub returns-clause-only : goal.returns-clause-only
returns-clause-only c =
    let cert = c.args.cert.now in
    let verdict : IsVerdictOf cert.session cert.ratio cert.budget cert.tail c.said_of.result =
    record { decided = c.decide_rows-decided.result; decision = c.decide_rows-decided.ensures.decision; said = c.said_of.ensures } in
    λ v is. one_verdict cert.session cert.ratio cert.budget cert.tail v c.said_of.result is verdict
