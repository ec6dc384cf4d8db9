use Rattle.std.proofs.Common.{◌≡◌, length}
use Rattle.elimination.specs.RowSteps.{ArePivotRows}
use Rattle.lower_form.specs.FirstRounding.{first_entry}
use Rattle.lower_form.proofs.baseline_rows.pivot_rows.Given as goal

abbrev pub invariant-loop-j : goal.invariant-loop-j
invariant-loop-j l = record {
  full : length l.front.d ≡ 3;
  columns : l.front.columns ≡ l.normal.columns;
  rows : ArePivotRows (first_entry l.normal l.fn.h) l.pivots.rows l.normal.columns l.front.d l.front.l l.j;
}
