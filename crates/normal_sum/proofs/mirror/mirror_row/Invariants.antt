use Rattle.std.proofs.Common.{◌≡◌, ◌≢◌, ℕ, ◌<◌, ◌≤◌}
use Rattle.quadratic_form.specs.Tables.{entry}
use Rattle.normal_sum.proofs.mirror.mirror_row.Given as goal

abbrev pub invariant-loop-column : goal.invariant-loop-column
invariant-loop-column l = record {
  before : (j : ℕ) → j < l.column → entry l.table l.row j ≡ entry l.initial.table j l.row;
  later : (i j : ℕ) → l.column ≤ j → entry l.table i j ≡ entry l.initial.table i j;
  others : (i j : ℕ) → i ≢ l.row → entry l.table i j ≡ entry l.initial.table i j;
}
