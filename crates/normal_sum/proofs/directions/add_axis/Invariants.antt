use Rattle.std.proofs.Common.{◌≡◌, ◌≢◌, ℕ, ◌+◌, ◌^◌, ◌<◌, ◌≤◌, ◌+ℤ◌, ◌*ℤ◌, unsigned_abs}
use Rattle.quadratic_form.specs.Tables.{entry}
use Rattle.normal_sum.specs.Directions.{direction_spread}
use Rattle.normal_sum.proofs.directions.add_axis.Given as goal

abbrev pub invariant-loop-other : goal.invariant-loop-other
invariant-loop-other l = record {
  added : (j : ℕ) → l.axis ≤ j → j < l.other → entry l.table l.axis j ≡ entry l.initial.table l.axis j +ℤ (direction_spread l.rows l.axis j *ℤ l.fn.share);
  size : (j : ℕ) → l.axis ≤ j → j < l.other → unsigned_abs (entry l.table l.axis j) ≤ unsigned_abs (entry l.initial.table l.axis j) + 2 ^ 95;
  later : (i j : ℕ) → l.other ≤ j → entry l.table i j ≡ entry l.initial.table i j;
  below : (i j : ℕ) → j < i → entry l.table i j ≡ entry l.initial.table i j;
  others : (i j : ℕ) → i ≢ l.axis → entry l.table i j ≡ entry l.initial.table i j;
}
