use Rattle.std.proofs.Common.{◌≡◌, ◌*◌, ◌^◌, ◌≤◌, ◌+ℤ◌, drop, unsigned_abs}
use Rattle.normal_sum.specs.Directions.{direction_sum}
use Rattle.normal_sum.proofs.directions.direction_sum.Given as goal

abbrev pub invariant-loop-row : goal.invariant-loop-row
invariant-loop-row l = record {
  value : l.sum +ℤ direction_sum (drop l.row-index l.rows) l.axis ≡ direction_sum l.rows l.axis;
  size : unsigned_abs l.sum ≤ l.row-index * 2 ^ 24;
}
