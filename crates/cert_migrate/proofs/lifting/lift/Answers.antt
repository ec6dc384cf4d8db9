use Rattle.cert_check.proofs.Checked.{strictly_where_fixed}
use Rattle.cert_check.proofs.OneDecision.{one_decision}
use Rattle.cert_migrate.proofs.LiftedData.{data_scaled}
use Rattle.cert_migrate.proofs.LiftedSums.{sums_scaled}
use Rattle.cert_migrate.proofs.LiftedBest.{best_where_fixed, ratio_where_fixed}
use Rattle.cert_migrate.proofs.lifting.lift.Goals as goal

pub returns-clause-boxes : goal.returns-clause-boxes
returns-clause-boxes c = data_scaled c.args.old.now.session c.in_ok-session.session c.in_ok-session.ensures

pub returns-clause-sums : goal.returns-clause-sums
returns-clause-sums c = sums_scaled c.args.old.now.session c.in_ok-session.session c.in_ok-session.ensures

pub returns-clause-best : goal.returns-clause-best
returns-clause-best c =
    let old = c.args.old.now in
    let session = c.in_ok-session.session in
    best_where_fixed old.session session c.decide_rows-tail.result c.in_ok-session.ensures
    (strictly_where_fixed old.ratio session c.decide_rows-tail.result old.ratio_from c.decide_rows-tail.ensures.by_ratio)

pub returns-clause-by_ratio : goal.returns-clause-by_ratio
returns-clause-by_ratio c =
    let old = c.args.old.now in
    let session = c.in_ok-session.session in
    ratio_where_fixed old.session session old.ratio c.decide_rows-tail.result c.in_ok-session.ensures c.decide_rows-tail.ensures.by_ratio

pub returns-clause-only : goal.returns-clause-only
returns-clause-only c = λ t other. one_decision c.in_ok-session.session c.args.old.now.ratio c.args.old.now.budget t c.decide_rows-tail.result other c.decide_rows-tail.ensures.decision

pub returns-clause-new_by_ratio : goal.returns-clause-new_by_ratio
returns-clause-new_by_ratio c = c.decide_rows-tail.ensures.by_ratio
