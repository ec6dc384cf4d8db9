use Rattle.quadratic_form.proofs.NormalForm.{bounding_form_below}
use Rattle.quadratic_form.proofs.bounding_law.Goals as goal

pub returns : goal.returns
returns c = bounding_form_below
