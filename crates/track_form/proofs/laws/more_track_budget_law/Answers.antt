use Rattle.track_form.proofs.MoreBudget.{decision_more, certified_more}
use Rattle.track_form.proofs.laws.more_track_budget_law.Goals as goal

pub returns : goal.returns
returns c = record { decision = decision_more; certified = certified_more }
