use Rattle.std.proofs.Common.{◌≡◌, ◌≤◌, ◌*◌, ◌^◌, length, pos, neg_ℤ, ◌+ℤ◌, ◌-ℤ◌, ◌≤ℤ◌}
use Rattle.file_jobs.specs.ZeroSums.{total, AreSmall}
use Rattle.file_jobs.proofs.zero_best.total_of.Given as goal

abbrev pub invariant-diffs : goal.invariant-diffs
invariant-diffs l = record {
  small : AreSmall l.rest;
  value : l.total +ℤ total l.rest ≡ total l.diffs;
  count : length l.rest ≤ length l.diffs;
  low : neg_ℤ (pos (2 ^ 31 * length l.diffs)) ≤ℤ (l.total -ℤ pos (2 ^ 31 * length l.rest));
  high : (l.total +ℤ pos (2 ^ 31 * length l.rest)) ≤ℤ pos (2 ^ 31 * length l.diffs);
}

abbrev pub decreases-diffs : goal.decreases-diffs
decreases-diffs l = length l.rest
