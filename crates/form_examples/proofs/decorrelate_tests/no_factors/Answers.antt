use Rattle.std.proofs.Common.{◌<◌, ◌^◌, List, ℤ, unsigned_abs, subst, sym, ap, ◌∙◌}
use Rattle.quadratic_form.specs.declared.sizes.TheConstants.{MOST_FACTORS, MOST_COLUMNS}
use Rattle.quadratic_form.specs.Tables.{entry}
use Rattle.quadratic_form.proofs.TableLaws.{zero_entry, zero_small}
use Rattle.form_examples.proofs.decorrelate_tests.no_factors.Goals as goal

pub returns : goal.returns
returns c = λ i j. subst (λ (z : ℤ). unsigned_abs z < 2 ^ 52) (sym (ap (λ (t : List (List ℤ)). entry t i j) c.zeros.ensures.zeros ∙ zero_entry MOST_COLUMNS MOST_FACTORS i j)) zero_small
