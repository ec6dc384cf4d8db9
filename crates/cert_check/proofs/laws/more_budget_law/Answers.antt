use Rattle.cert_check.proofs.MoreBudget.{rows_more, certified_more}
use Rattle.cert_check.proofs.laws.more_budget_law.Goals as goal

pub returns : goal.returns
returns c = record { decision = rows_more; certified = certified_more }
