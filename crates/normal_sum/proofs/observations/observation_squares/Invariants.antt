use Rattle.std.proofs.Common.{◌≡◌, ◌*◌, ◌^◌, ◌≤◌, ◌+ℤ◌, drop, unsigned_abs}
use Rattle.normal_sum.specs.Observations.{observation_squares}
use Rattle.normal_sum.proofs.observations.observation_squares.Given as goal

abbrev pub invariant-loop-row : goal.invariant-loop-row
invariant-loop-row l = record {
  value : l.sum +ℤ observation_squares (drop l.row-index l.rows) l.signal ≡ observation_squares l.rows l.signal;
  size : unsigned_abs l.sum ≤ l.row-index * 2 ^ 68;
}
