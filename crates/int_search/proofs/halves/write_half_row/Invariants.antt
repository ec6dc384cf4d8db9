use Rattle.std.proofs.Common.{◌≡◌, ◌≢◌, ℕ, ◌^◌, ◌<◌, ◌≤◌, unsigned_abs}
use Rattle.quadratic_form.specs.Tables.{entry}
use Rattle.int_search.specs.Transformed.{half_entry}
use Rattle.int_search.proofs.halves.write_half_row.Given as goal

abbrev pub invariant-loop-j : goal.invariant-loop-j
invariant-loop-j l = record {
  row : (k : ℕ) → k < l.j → entry l.halves l.a k ≡ half_entry l.n (entry l.map) (entry l.p) l.a k;
  sizes : (k : ℕ) → k < l.j → unsigned_abs (entry l.halves l.a k) ≤ 2 ^ 88;
  others : (i k : ℕ) → i ≢ l.a → entry l.halves i k ≡ entry l.initial.halves i k;
}
