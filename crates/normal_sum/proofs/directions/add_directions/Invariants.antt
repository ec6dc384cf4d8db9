use Rattle.std.proofs.Common.{◌≡◌, ℕ, ◌+◌, ◌^◌, ◌<◌, ◌≤◌, ◌+ℤ◌, ◌*ℤ◌, unsigned_abs}
use Rattle.quadratic_form.specs.declared.sizes.TheConstants.{BASELINE_COLUMNS}
use Rattle.quadratic_form.specs.Tables.{entry}
use Rattle.normal_sum.specs.Directions.{direction_spread}
use Rattle.normal_sum.proofs.directions.add_directions.Given as goal

abbrev pub invariant-loop-axis : goal.invariant-loop-axis
invariant-loop-axis l = record {
  added : (i j : ℕ) → i < l.axis → i ≤ j → j < BASELINE_COLUMNS → entry l.table i j ≡ entry l.initial.table i j +ℤ (direction_spread l.rows i j *ℤ l.fn.share);
  size : (i j : ℕ) → i < l.axis → i ≤ j → j < BASELINE_COLUMNS → unsigned_abs (entry l.table i j) ≤ unsigned_abs (entry l.initial.table i j) + 2 ^ 95;
  later : (i j : ℕ) → l.axis ≤ i → entry l.table i j ≡ entry l.initial.table i j;
  behind : (i j : ℕ) → BASELINE_COLUMNS ≤ j → entry l.table i j ≡ entry l.initial.table i j;
  below : (i j : ℕ) → j < i → entry l.table i j ≡ entry l.initial.table i j;
}
