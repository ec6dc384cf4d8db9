use Rattle.std.proofs.Common.{◌≡◌, ℕ, ◌+◌, ◌<◌, ◌≤◌}
use Rattle.quadratic_form.specs.Tables.{entry, IsZeroOutside}
use Rattle.quadratic_form.specs.Matrices.{IsSymmetric}
use Rattle.elimination.proofs.tables.copy_row.Given as goal

abbrev pub invariant-loop-c : goal.invariant-loop-c
invariant-loop-c l = record {
  row : (k : ℕ) → l.r ≤ k → k < l.c → entry l.p l.r k ≡ entry l.table (3 + l.r) (3 + k);
  before : (i k : ℕ) → i < l.r → entry l.p i k ≡ entry l.initial.p i k;
  symmetric : IsSymmetric l.p;
  outside : IsZeroOutside l.n l.n l.p;
}
