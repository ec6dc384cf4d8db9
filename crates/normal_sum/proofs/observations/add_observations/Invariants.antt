use Rattle.std.proofs.Common.{◌≡◌, ◌≢◌, ◌⊎◌, ℕ, ◌+◌, ◌^◌, ◌<◌, ◌≤◌, ◌-ℤ◌, ◌*ℤ◌, length, unsigned_abs}
use Rattle.quadratic_form.specs.declared.sizes.TheConstants.{BASELINE_COLUMNS}
use Rattle.quadratic_form.specs.Tables.{entry}
use Rattle.obs_rows.specs.SumOfSquares.{share}
use Rattle.normal_sum.specs.Observations.{axis_spread}
use Rattle.normal_sum.proofs.observations.add_observations.Given as goal

abbrev pub invariant-loop-axis : goal.invariant-loop-axis
invariant-loop-axis l = record {
  axes : (i : ℕ) → i < l.axis → entry l.table i (BASELINE_COLUMNS + l.fn.integers) ≡ entry l.initial.table i (BASELINE_COLUMNS + l.fn.integers)
      -ℤ (share (length l.rows) l.fn.signal *ℤ axis_spread l.rows i l.fn.signal);
  size : (i j : ℕ) → unsigned_abs (entry l.table i j) ≤ unsigned_abs (entry l.initial.table i j) + 2 ^ 105;
  others : (i j : ℕ) → (l.axis ≤ i) ⊎ (j ≢ BASELINE_COLUMNS + l.fn.integers) → entry l.table i j ≡ entry l.initial.table i j;
}
