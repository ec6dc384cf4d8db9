use Rattle.quadratic_form.proofs.Bound.{bound}
use Rattle.quadratic_form.proofs.bound_law.Goals as goal

pub returns : goal.returns
returns c = bound
