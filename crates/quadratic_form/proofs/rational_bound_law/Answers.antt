use Rattle.quadratic_form.proofs.RationalData.{bound_over_rationals}
use Rattle.quadratic_form.proofs.rational_bound_law.Goals as goal

pub returns : goal.returns
returns c = bound_over_rationals
