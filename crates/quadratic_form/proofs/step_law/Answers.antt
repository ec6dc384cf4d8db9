use Rattle.quadratic_form.proofs.EliminationStep.{step_below}
use Rattle.quadratic_form.proofs.step_law.Goals as goal

pub returns : goal.returns
returns c = step_below
