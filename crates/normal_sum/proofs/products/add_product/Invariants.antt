use Rattle.std.proofs.Common.{◌≡◌, ◌⊎◌, ℕ, ◌<◌, ◌≤◌, pos, ◌*ℤ◌, slice_index_or}
use Rattle.quadratic_form.specs.Tables.{entry}
use Rattle.quadratic_form.specs.declared.sizes.TheConstants.{BASELINE_COLUMNS, MOST_COLUMNS}
use Rattle.normal_sum.proofs.ColumnLaws.{AddedIn}
use Rattle.normal_sum.proofs.products.add_product.Given as goal

abbrev pub invariant-loop-k : goal.invariant-loop-k
invariant-loop-k l = record {
  added : (j : ℕ) → BASELINE_COLUMNS ≤ j → j < MOST_COLUMNS → AddedIn (λ i. i ≤ j) l.columns l.k (λ i. entry l.initial.table i j) (λ i. entry l.table i j)
      (λ i. (l.fn.weight *ℤ slice_index_or l.values i (pos 0)) *ℤ slice_index_or l.values j (pos 0));
  before : (i j : ℕ) → (j < i) ⊎ (j < BASELINE_COLUMNS) → entry l.table i j ≡ entry l.initial.table i j;
}
