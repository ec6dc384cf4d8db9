use Rattle.std.proofs.Common.{◌≡◌, ◌*◌, ◌^◌, ◌≤◌, ◌*ℤ◌, unsigned_abs}
use Rattle.quadratic_form.specs.Tables.{entry}
use Rattle.int_search.specs.Sums.{total}
use Rattle.int_search.specs.Transformed.{with_constant}
use Rattle.int_search.proofs.coordinates.whole.Given as goal

abbrev pub invariant-loop-a : goal.invariant-loop-a
invariant-loop-a l = record {
  value : l.sum ≡ total (λ a. entry l.halves a l.j *ℤ with_constant l.n (entry l.map) a l.i) 0 l.a;
  size : unsigned_abs l.sum ≤ l.a * 2 ^ 118;
}
