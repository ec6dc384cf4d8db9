use Rattle.std.proofs.Common.{◌≡◌, ◌<◌, length, pos, slice_index_or}
use Rattle.quadratic_form.specs.declared.sizes.TheConstants.{MOST_COLUMNS}
use Rattle.normal_sum.proofs.ColumnLaws.{AddedIn}
use Rattle.normal_sum.proofs.columns.add_values.Given as goal

abbrev pub invariant-loop-column : goal.invariant-loop-column
invariant-loop-column l = record {
  full : length l.total ≡ MOST_COLUMNS;
  added : AddedIn (λ j. j < MOST_COLUMNS) l.columns l.column-index (λ j. slice_index_or l.initial.total j (pos 0)) (λ j. slice_index_or l.total j (pos 0)) (λ j. slice_index_or l.values j (pos 0));
}
