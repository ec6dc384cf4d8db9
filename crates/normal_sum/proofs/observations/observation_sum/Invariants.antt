use Rattle.std.proofs.Common.{◌≡◌, ◌*◌, ◌^◌, ◌≤◌, ◌+ℤ◌, drop, unsigned_abs}
use Rattle.normal_sum.specs.Observations.{observation_sum}
use Rattle.normal_sum.proofs.observations.observation_sum.Given as goal

abbrev pub invariant-loop-row : goal.invariant-loop-row
invariant-loop-row l = record {
  value : l.sum +ℤ observation_sum (drop l.row-index l.rows) l.signal ≡ observation_sum l.rows l.signal;
  size : unsigned_abs l.sum ≤ l.row-index * 2 ^ 34;
}
