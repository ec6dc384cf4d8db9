use Rattle.std.proofs.Common.{◌≡◌, ◌≢◌, ℕ, ◌+◌, ◌<◌, ◌≤◌}
use Rattle.quadratic_form.specs.Tables.{entry}
use Rattle.elimination.proofs.tables.copy_row_back.Given as goal

abbrev pub invariant-loop-c : goal.invariant-loop-c
invariant-loop-c l = record {
  row : (k : ℕ) → l.r ≤ k → k < l.c → entry l.table (3 + l.r) (3 + k) ≡ entry l.p l.r k;
  others : (i k : ℕ) → i ≢ 3 + l.r → entry l.table i k ≡ entry l.initial.table i k;
}
