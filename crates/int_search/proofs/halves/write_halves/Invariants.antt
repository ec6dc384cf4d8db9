use Rattle.std.proofs.Common.{◌≡◌, ℕ, ◌+◌, ◌^◌, ◌<◌, ◌≤◌, unsigned_abs}
use Rattle.quadratic_form.specs.Tables.{entry}
use Rattle.int_search.specs.Transformed.{half_entry}
use Rattle.int_search.proofs.halves.write_halves.Given as goal

abbrev pub invariant-loop-a : goal.invariant-loop-a
invariant-loop-a l = record {
  value : (i k : ℕ) → i < l.a → k < l.n + 1 → entry l.halves i k ≡ half_entry l.n (entry l.map) (entry l.p) i k;
  sizes : (i k : ℕ) → i < l.a → k < l.n + 1 → unsigned_abs (entry l.halves i k) ≤ 2 ^ 88;
}
