use Rattle.std.proofs.Common.{◌≡◌, ◌*◌, ◌^◌, ◌≤◌, ◌*ℤ◌, unsigned_abs}
use Rattle.quadratic_form.specs.Tables.{entry}
use Rattle.int_search.specs.Sums.{total}
use Rattle.int_search.specs.Transformed.{with_constant}
use Rattle.int_search.proofs.halves.half.Given as goal

abbrev pub invariant-loop-b : goal.invariant-loop-b
invariant-loop-b l = record {
  value : l.sum ≡ total (λ b. with_constant l.n (entry l.map) b l.j *ℤ entry l.p l.a b) 0 l.b;
  size : unsigned_abs l.sum ≤ l.b * 2 ^ 82;
}
