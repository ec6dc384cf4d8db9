use Rattle.std.proofs.Common.{◌≡◌, ◌*◌, ◌-◌, ◌^◌, ◌<◌, ◌≤◌, suc, unsigned_abs}
use Rattle.whole_math.specs.Vectors.{dot}
use Rattle.quadratic_form.specs.Places.{list_from}
use Rattle.quadratic_form.specs.Tables.{entry, item}
use Rattle.integer_form.proofs.values.later_products.Given as goal

abbrev pub invariant-loop-c : goal.invariant-loop-c
invariant-loop-c l = record {
  from : l.r < l.c;
  value : l.sum ≡ dot (list_from (entry l.p l.r) (suc l.r) (l.c - suc l.r)) (list_from (item l.x) (suc l.r) (l.c - suc l.r));
  size : unsigned_abs l.sum ≤ l.c * 2 ^ 82;
}
