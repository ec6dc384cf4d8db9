use Rattle.std.proofs.Common.{◌≡◌, ◌≢◌, ℕ, ◌<◌, ◌≤◌}
use Rattle.quadratic_form.specs.Tables.{entry, item}
use Rattle.elimination.proofs.row_steps.copy_pivots.Given as goal

abbrev pub invariant-loop-c : goal.invariant-loop-c
invariant-loop-c l = record {
  done : (k : ℕ) → l.j ≤ k → k < l.c → entry l.rows l.j k ≡ item l.row k;
  others : (i k : ℕ) → i ≢ l.j → entry l.rows i k ≡ entry l.initial.rows i k;
}
