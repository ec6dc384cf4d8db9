use Rattle.quadratic_form.specs.declared.sizes.TheConstants.{MOST_COLUMNS}
use Rattle.quadratic_form.proofs.TableLaws.{zero_shape}
use Rattle.quadratic_form.proofs.normal_tables.NormalTable.zeros.Goals as goal

pub invariant_of-result : goal.invariant_of-result
invariant_of-result c = zero_shape MOST_COLUMNS MOST_COLUMNS

pub returns-clause-shape : goal.returns-clause-shape
returns-clause-shape c = zero_shape MOST_COLUMNS MOST_COLUMNS
