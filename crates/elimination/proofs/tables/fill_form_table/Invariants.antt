use Rattle.std.proofs.Common.{◌≡◌, ℕ, ◌+◌, ◌<◌, ◌≤◌}
use Rattle.quadratic_form.specs.Tables.{entry, IsZeroOutside}
use Rattle.quadratic_form.specs.Matrices.{IsSymmetric}
use Rattle.elimination.proofs.tables.fill_form_table.Given as goal

abbrev pub invariant-loop-r : goal.invariant-loop-r
invariant-loop-r l = record {
  done : (i k : ℕ) → i < l.r → i ≤ k → k < l.n → entry l.p i k ≡ entry l.table (3 + i) (3 + k);
  symmetric : IsSymmetric l.p;
  outside : IsZeroOutside l.n l.n l.p;
}
