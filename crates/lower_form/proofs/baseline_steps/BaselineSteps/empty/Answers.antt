use Rattle.std.proofs.Common.{List, ℤ, ap, ◌∙◌}
use Rattle.quadratic_form.specs.declared.sizes.TheConstants.{MOST_COLUMNS, MOST_FACTORS}
use Rattle.quadratic_form.specs.Tables.{entry}
use Rattle.quadratic_form.proofs.TableLaws.{zero_entry}
use Rattle.lower_form.proofs.baseline_steps.BaselineSteps.empty.Goals as goal

pub returns : goal.returns
returns c = λ columns r i a. ap (λ (t : List (List ℤ)). entry t r i) c.zeros-2.ensures.zeros ∙ zero_entry MOST_COLUMNS MOST_FACTORS r i
