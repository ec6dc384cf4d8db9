use Rattle.std.proofs.Common.{◌≡◌, ℕ, ◌<◌, ◌≤◌}
use Rattle.quadratic_form.specs.Tables.{entry}
use Rattle.normal_sum.proofs.mirror.mirror.Given as goal

abbrev pub invariant-loop-row : goal.invariant-loop-row
invariant-loop-row l = record {
  above : (i j : ℕ) → i ≤ j → entry l.table i j ≡ entry l.initial.table i j;
  below : (i j : ℕ) → i < j → j < l.row → entry l.table j i ≡ entry l.initial.table i j;
  rest : (i j : ℕ) → l.row ≤ i → entry l.table i j ≡ entry l.initial.table i j;
}
