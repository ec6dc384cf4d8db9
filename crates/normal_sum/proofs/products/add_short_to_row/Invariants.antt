use Rattle.std.proofs.Common.{pos, ◌*ℤ◌, slice_index_or}
use Rattle.normal_sum.proofs.RowLaws.{RowAdded}
use Rattle.normal_sum.proofs.products.add_short_to_row.Given as goal

abbrev pub invariant-loop-column : goal.invariant-loop-column
invariant-loop-column l = RowAdded l.row l.columns l.column-index l.initial.table l.table (λ j. l.fn.factor *ℤ slice_index_or l.values j (pos 0))
