use Rattle.std.proofs.Common.{◌≡◌, ℕ, ◌+◌, ◌*◌, ◌^◌, ◌<◌, ◌≤◌, drop, pos, ◌+ℤ◌, unsigned_abs}
use Rattle.quadratic_form.specs.Rows.{add_radii, radii}
use Rattle.quadratic_form.specs.MatrixEntries.{matrix_entry}
use Rattle.quadratic_form.specs.declared.sizes.TheConstants.{BASELINE_COLUMNS, MOST_COLUMNS}
use Rattle.quadratic_form.specs.Tables.{entry}
use Rattle.obs_rows.specs.SignalGroups.{signal_groups}
use Rattle.normal_sum.specs.RadiusSums.{radii_of, IsAtMost}
use Rattle.normal_sum.proofs.sums.fill_table.Given as goal

abbrev pub invariant-loop-pair : goal.invariant-loop-pair
invariant-loop-pair l = record {
  sums : (i j : ℕ) → i ≤ j → j < MOST_COLUMNS → entry l.table i j +ℤ matrix_entry (signal_groups l.arcs l.signals (drop l.pair-index l.pairs)) i j ≡ matrix_entry
      (signal_groups l.arcs l.signals l.pairs) i j;
  size : (i j : ℕ) → i ≤ j → j < MOST_COLUMNS → unsigned_abs (entry l.table i j) ≤ l.pair-index * 2 ^ 108;
  below : (i j : ℕ) → j < i → BASELINE_COLUMNS + l.fn.integers + 1 ≤ i → entry l.table i j ≡ pos 0;
  radii : add_radii (radii_of l.radii) (radii (signal_groups l.arcs l.signals (drop l.pair-index l.pairs))) ≡ radii (signal_groups l.arcs l.signals l.pairs);
  radii_size : IsAtMost (l.pair-index * 2 ^ 79) l.radii;
}
