use Rattle.std.proofs.Common.{◌≡◌, ℕ, ◌<◌, length, pos, slice_index_or}
use Rattle.elimination.proofs.tables.first_kept.Given as goal

abbrev pub invariant-loop-i : goal.invariant-loop-i
invariant-loop-i l = record {
  full : length l.d ≡ 3;
  same : (k : ℕ) → k < l.i → slice_index_or l.d k (pos 0) ≡ slice_index_or l.kept k (pos 0);
}
