use Rattle.std.proofs.Common.{◌^◌, ◌<◌, ℤ, unsigned_abs, arith, sym, ◌∙◌, subst}
use Rattle.quadratic_form.specs.declared.sizes.TheConstants.{MOST_FORM_COLUMNS}
use Rattle.quadratic_form.proofs.TableLaws.{all_zero}
use Rattle.form_examples.proofs.fix_decide_tests.in_greatest_unit.Goals as goal

pub of-requires-clause-symmetric : goal.of-requires-clause-symmetric
of-requires-clause-symmetric c = λ i j. all_zero MOST_FORM_COLUMNS MOST_FORM_COLUMNS c.zeros.result c.zeros.ensures.zeros i j ∙ sym (all_zero MOST_FORM_COLUMNS MOST_FORM_COLUMNS c.zeros.result c.zeros.ensures.zeros j i)

pub of-requires-clause-entries_in : goal.of-requires-clause-entries_in
of-requires-clause-entries_in c = λ i j. subst (λ (x : ℤ). unsigned_abs x < 2 ^ 52) (sym (all_zero MOST_FORM_COLUMNS MOST_FORM_COLUMNS c.zeros.result c.zeros.ensures.zeros i j)) (omega arith)

pub of-requires-clause-nothing_outside : goal.of-requires-clause-nothing_outside
of-requires-clause-nothing_outside c = λ i j h. all_zero MOST_FORM_COLUMNS MOST_FORM_COLUMNS c.zeros.result c.zeros.ensures.zeros i j
