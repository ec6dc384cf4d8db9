use Rattle.std.proofs.Common.{◌≡◌, ◌≤◌, ◌*◌, ◌^◌, length, pos, ◌+ℤ◌, ◌≤ℤ◌}
use Rattle.file_jobs.specs.ZeroSums.{sum_at, AreSmall}
use Rattle.file_jobs.proofs.zero_best.sum_of.Given as goal

abbrev pub invariant-diffs : goal.invariant-diffs
invariant-diffs l = record {
  small : AreSmall l.rest;
  value : l.sum +ℤ sum_at l.rest l.w ≡ sum_at l.diffs l.w;
  count : length l.rest ≤ 1000;
  low : pos 0 ≤ℤ l.sum;
  high : (l.sum +ℤ pos (2 ^ 98 * length l.rest)) ≤ℤ pos (2 ^ 98 * 1000);
}

abbrev pub decreases-diffs : goal.decreases-diffs
decreases-diffs l = length l.rest
