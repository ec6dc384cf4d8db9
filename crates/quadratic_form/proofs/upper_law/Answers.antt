use Rattle.quadratic_form.proofs.RationalData.{upper_over_rationals}
use Rattle.quadratic_form.proofs.upper_law.Goals as goal

pub returns : goal.returns
returns c = upper_over_rationals
