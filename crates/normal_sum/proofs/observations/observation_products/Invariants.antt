use Rattle.std.proofs.Common.{◌≡◌, ◌*◌, ◌^◌, ◌≤◌, ◌+ℤ◌, drop, unsigned_abs}
use Rattle.normal_sum.specs.Observations.{observation_products}
use Rattle.normal_sum.proofs.observations.observation_products.Given as goal

abbrev pub invariant-loop-row : goal.invariant-loop-row
invariant-loop-row l = record {
  value : l.sum +ℤ observation_products (drop l.row-index l.rows) l.axis l.signal ≡ observation_products l.rows l.axis l.signal;
  size : unsigned_abs l.sum ≤ l.row-index * 2 ^ 68;
}
