use Rattle.std.proofs.Common.{sym, ◌∙◌}
use Rattle.quadratic_form.specs.declared.sizes.TheConstants.{MOST_FORM_COLUMNS}
use Rattle.quadratic_form.proofs.TableLaws.{all_zero}
use Rattle.elimination.proofs.tables.form_table.Goals as goal

pub fill_form_table-requires-clause-symmetric : goal.fill_form_table-requires-clause-symmetric
fill_form_table-requires-clause-symmetric c = λ i j. all_zero MOST_FORM_COLUMNS MOST_FORM_COLUMNS c.zeros-p.result c.zeros-p.ensures.zeros i j ∙ sym (all_zero MOST_FORM_COLUMNS MOST_FORM_COLUMNS c.zeros-p.result c.zeros-p.ensures.zeros j i)

pub fill_form_table-requires-clause-outside : goal.fill_form_table-requires-clause-outside
fill_form_table-requires-clause-outside c = λ i j h. all_zero MOST_FORM_COLUMNS MOST_FORM_COLUMNS c.zeros-p.result c.zeros-p.ensures.zeros i j
