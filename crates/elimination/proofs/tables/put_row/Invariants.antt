use Rattle.std.proofs.Common.{◌≡◌, ℕ, ◌+◌, ◌^◌, ◌<◌, ◌≤◌}
use Rattle.quadratic_form.specs.Tables.{entry, item, IsZeroOutside}
use Rattle.quadratic_form.specs.Matrices.{IsSymmetric, EntriesBelow}
use Rattle.elimination.proofs.tables.put_row.Given as goal

abbrev pub invariant-loop-c : goal.invariant-loop-c
invariant-loop-c l = record {
  done : (k : ℕ) → l.r ≤ k → k < l.c → entry l.p l.r k ≡ item l.row (3 + k);
  before : (i k : ℕ) → i < l.r → entry l.p i k ≡ entry l.initial.p i k;
  symmetric : IsSymmetric l.p;
  below : EntriesBelow (2 ^ 52) l.p;
  outside : IsZeroOutside l.n l.n l.p;
}
