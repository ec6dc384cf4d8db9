use Rattle.std.proofs.Common.{◌≡◌, ℕ, ◌<◌, ◌≤◌, length, pos, slice_index_or}
use Rattle.quadratic_form.specs.declared.sizes.TheConstants.{MOST_FACTORS}
use Rattle.elimination.proofs.tables.kept_list.Given as goal

abbrev pub invariant-loop-i : goal.invariant-loop-i
invariant-loop-i l = record {
  full : length l.kept ≡ MOST_FACTORS;
  same : (k : ℕ) → k < l.i → slice_index_or l.kept k (pos 0) ≡ slice_index_or l.d k (pos 0);
  outside : (k : ℕ) → 3 ≤ k → slice_index_or l.kept k (pos 0) ≡ pos 0;
}
