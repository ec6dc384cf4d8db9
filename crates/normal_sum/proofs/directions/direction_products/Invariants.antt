use Rattle.std.proofs.Common.{◌≡◌, ◌*◌, ◌^◌, ◌≤◌, ◌+ℤ◌, drop, unsigned_abs}
use Rattle.normal_sum.specs.Directions.{direction_products}
use Rattle.normal_sum.proofs.directions.direction_products.Given as goal

abbrev pub invariant-loop-row : goal.invariant-loop-row
invariant-loop-row l = record {
  value : l.sum +ℤ direction_products (drop l.row-index l.rows) l.first l.second ≡ direction_products l.rows l.first l.second;
  size : unsigned_abs l.sum ≤ l.row-index * 2 ^ 48;
}
