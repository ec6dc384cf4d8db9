use Rattle.std.proofs.Common.{◌≡◌, ◌≢◌, ℕ, ◌<◌, ◌≤◌, pos}
use Rattle.quadratic_form.specs.Tables.{entry}
use Rattle.normal_sum.proofs.mirror.clear_row.Given as goal

abbrev pub invariant-loop-column : goal.invariant-loop-column
invariant-loop-column l = record {
  cleared : (j : ℕ) → l.from ≤ j → j < l.column → entry l.table l.row j ≡ pos 0;
  later : (j : ℕ) → l.to ≤ j → entry l.table l.row j ≡ entry l.initial.table l.row j;
  others : (i j : ℕ) → i ≢ l.row → entry l.table i j ≡ entry l.initial.table i j;
}
