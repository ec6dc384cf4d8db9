use Rattle.quadratic_form.proofs.RationalData.{decided_best}
use Rattle.quadratic_form.proofs.decision_law.Goals as goal

pub returns : goal.returns
returns c = decided_best
