use Rattle.std.proofs.Common.{◌≡◌, ◌*◌, ◌/◌, ◌^◌, pos, ◌+ℤ◌, ◌*ℤ◌, ◌≤ℤ◌, map, drop}
use Rattle.whole_math.specs.Vectors.{sum}
use Rattle.obs_rows.specs.Signals.{weight}
use Rattle.normal_sum.proofs.pairs.total_share.Given as goal

abbrev pub invariant-loop-signal : goal.invariant-loop-signal
invariant-loop-signal l = record {
  value : l.total +ℤ (pos (360360 / l.fn.rows) *ℤ sum (map weight (drop l.signal-index l.signals))) ≡ pos (360360 / l.fn.rows) *ℤ sum (map weight l.signals);
  from : pos 0 ≤ℤ l.total;
  to : l.total ≤ℤ pos (l.signal-index * 2 ^ 32);
}
