use Rattle.std.proofs.Common.{◌≡◌, ℕ, ◌<◌, ◌≤◌, length, slice_index_or, None, IfSome}
use Rattle.quadratic_form.specs.declared.sizes.TheConstants.{MOST_INTEGERS}
use Rattle.obs_rows.specs.declared.rows.Row.{Row}
use Rattle.obs_rows.specs.Arcs.{free_before}
use Rattle.obs_rows.specs.Signals.{phases}
use Rattle.normal_sum.specs.declared.places.TheConstants.{MOST_ROWS}
use Rattle.normal_sum.specs.Places.{first_place}
use Rattle.normal_sum.proofs.places.first_places.Given as goal

abbrev pub invariant-loop-k : goal.invariant-loop-k
invariant-loop-k l = record {
  inside : l.from ≤ length l.arcs;
  before : l.before ≡ free_before l.arcs l.from;
  full : length l.places ≡ MOST_ROWS;
  value : (j : ℕ) (d : Row) → j < l.k → slice_index_or l.places j None ≡ first_place l.arcs (length (phases l.signals)) (slice_index_or l.rows j d).arc;
  none : (j : ℕ) → l.k ≤ j → slice_index_or l.places j None ≡ None;
  few : (j : ℕ) → IfSome (slice_index_or l.places j None) (λ i. i ≤ MOST_INTEGERS);
}
