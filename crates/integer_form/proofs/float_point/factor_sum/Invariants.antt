use Rattle.std.proofs.Common.{◌≡◌, ◌*◌, ◌-◌, ◌^◌, ◌<◌, ◌≤◌, suc, unsigned_abs}
use Rattle.whole_math.specs.Vectors.{dot}
use Rattle.quadratic_form.specs.Places.{list_from}
use Rattle.quadratic_form.specs.Tables.{entry, item}
use Rattle.integer_form.proofs.float_point.factor_sum.Given as goal

abbrev pub invariant-loop-i : goal.invariant-loop-i
invariant-loop-i g l = record {
  from : l.fn.j < l.i;
  value : l.sum ≡ dot (list_from (λ k. entry l.l k l.fn.j) (suc l.fn.j) (l.i - suc l.fn.j)) (list_from (item l.numbers) (suc l.fn.j) (l.i - suc l.fn.j));
  size : unsigned_abs l.sum ≤ l.i * 2 ^ 98;
}
