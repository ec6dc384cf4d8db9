use Rattle.std.proofs.Common.{ℕ, ◌^◌, ◌<◌, ℤ, pos, ◌*ℤ◌, ◌≤ℤ◌, ◌<ℤ◌}
use Rattle.quadratic_form.specs.Tables.{entry}
use Rattle.lower_form.proofs.rounding.greatest_own.Given as goal

abbrev pub invariant-loop-i : goal.invariant-loop-i
invariant-loop-i l = record {
  above : (k : ℕ) → k < l.i → (pos 63 *ℤ entry l.table k k) ≤ℤ l.greatest;
  attained : (k : ℤ) → pos 0 <ℤ k → ((i : ℕ) → i < l.i → (pos 63 *ℤ entry l.table i i) <ℤ k) → l.greatest <ℤ k;
  from : pos 0 ≤ℤ l.greatest;
  to : l.greatest <ℤ pos (2 ^ 126);
}
