use Rattle.std.proofs.Common.{◌≤◌, length}
use Rattle.normal_sum.proofs.ColumnLaws.{AreUsed}
use Rattle.normal_sum.proofs.columns.used_columns.Given as goal

abbrev pub invariant-loop-j : goal.invariant-loop-j
invariant-loop-j l = record {
  few : length l.used.items ≤ l.j;
  used : AreUsed l.values l.j l.used.items;
}
