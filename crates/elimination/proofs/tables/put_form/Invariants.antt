use Rattle.std.proofs.Common.{◌≡◌, ℕ, ◌+◌, ◌<◌, ◌≤◌}
use Rattle.quadratic_form.specs.Tables.{entry}
use Rattle.elimination.proofs.tables.put_form.Given as goal

abbrev pub invariant-loop-r : goal.invariant-loop-r
invariant-loop-r l = record {
  done : (i k : ℕ) → i < l.r → i ≤ k → k < l.n → entry l.table (3 + i) (3 + k) ≡ entry l.p i k;
}
