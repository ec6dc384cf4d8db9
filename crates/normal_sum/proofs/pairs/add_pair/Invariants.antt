use Rattle.std.proofs.Common.{◌≡◌, ◌⊎◌, ℕ, ◌+◌, ◌*◌, ◌^◌, ◌<◌, ◌≤◌, map, drop, ◌+ℤ◌, unsigned_abs}
use Rattle.quadratic_form.specs.MatrixEntries.{matrix_entry}
use Rattle.quadratic_form.specs.declared.sizes.TheConstants.{BASELINE_COLUMNS, MOST_COLUMNS}
use Rattle.quadratic_form.specs.Tables.{entry}
use Rattle.obs_rows.specs.SignalGroups.{signal_group}
use Rattle.normal_sum.proofs.pairs.add_pair.Given as goal

abbrev pub invariant-loop-signal : goal.invariant-loop-signal
invariant-loop-signal l = record {
  sums : (i j : ℕ) → i ≤ j → BASELINE_COLUMNS ≤ j → j < MOST_COLUMNS → entry l.table i j +ℤ matrix_entry (map (signal_group l.arcs l.signals l.pair) (drop l.signal-index l.signals)) i j
      ≡ entry l.initial.table i j +ℤ matrix_entry (map (signal_group l.arcs l.signals l.pair) l.signals) i j;
  size : (i j : ℕ) → i ≤ j → BASELINE_COLUMNS ≤ j → j < MOST_COLUMNS → unsigned_abs (entry l.table i j) ≤ unsigned_abs (entry l.initial.table i j) + (l.signal-index * 2 ^ 105);
  before : (i j : ℕ) → (j < i) ⊎ (j < BASELINE_COLUMNS) → entry l.table i j ≡ entry l.initial.table i j;
}
