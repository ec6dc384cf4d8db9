use Rattle.std.proofs.Common.{◌≡◌, ◌⊎◌, ℕ, ◌+◌, ◌*◌, ◌^◌, ◌<◌, ◌≤◌, List, length, map, replicate, drop, pos, ◌+ℤ◌, ◌*ℤ◌, unsigned_abs, slice_index_or}
use Rattle.quadratic_form.specs.MatrixEntries.{coefficient_sum, product_sum}
use Rattle.quadratic_form.specs.declared.sizes.TheConstants.{BASELINE_COLUMNS, MOST_COLUMNS}
use Rattle.quadratic_form.specs.Tables.{entry}
use Rattle.obs_rows.specs.declared.arcs.Arc.{Arc}
use Rattle.obs_rows.specs.Signals.{weight}
use Rattle.obs_rows.specs.Integers.{integer_count}
use Rattle.obs_rows.specs.SignalGroups.{signal_row}
use Rattle.normal_sum.specs.Places.{ArePlaces}
use Rattle.normal_sum.proofs.signals.add_rows.Given as goal

abbrev pub invariant-loop-k : goal.invariant-loop-k
invariant-loop-k l = record {
  full : length l.total ≡ MOST_COLUMNS;
  zeros : l.values ≡ replicate MOST_COLUMNS (pos 0);
  products : (arcs : List Arc) (ss : List ℕ) → ArePlaces arcs ss l.fn.signal l.rows l.places → l.fn.integers ≡ integer_count arcs ss → (i j : ℕ) → i ≤ j → BASELINE_COLUMNS ≤ j → j < MOST_COLUMNS →
      entry l.table i j +ℤ ((pos 360360 *ℤ weight l.fn.signal) *ℤ product_sum (map (signal_row arcs ss l.fn.signal) (drop l.k l.rows)) i j)
      ≡ entry l.initial.table i j +ℤ ((pos 360360 *ℤ weight l.fn.signal) *ℤ product_sum (map (signal_row arcs ss l.fn.signal) l.rows) i j);
  sums : (arcs : List Arc) (ss : List ℕ) → ArePlaces arcs ss l.fn.signal l.rows l.places → l.fn.integers ≡ integer_count arcs ss → (j : ℕ) → j < MOST_COLUMNS →
      slice_index_or l.total j (pos 0) +ℤ coefficient_sum (map (signal_row arcs ss l.fn.signal) (drop l.k l.rows)) j ≡ coefficient_sum (map (signal_row arcs ss l.fn.signal) l.rows) j;
  table_size : (i j : ℕ) → i ≤ j → BASELINE_COLUMNS ≤ j → j < MOST_COLUMNS → unsigned_abs (entry l.table i j) ≤ unsigned_abs (entry l.initial.table i j) + (l.k * 2 ^ 100);
  beyond : (j : ℕ) → BASELINE_COLUMNS + l.fn.integers < j → j < MOST_COLUMNS → slice_index_or l.total j (pos 0) ≡ pos 0;
  before : (i j : ℕ) → (j < i) ⊎ (j < BASELINE_COLUMNS) → entry l.table i j ≡ entry l.initial.table i j;
  sum_size : (j : ℕ) → j < MOST_COLUMNS → unsigned_abs (slice_index_or l.total j (pos 0)) ≤ l.k * 2 ^ 34;
}
