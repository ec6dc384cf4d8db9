use Rattle.std.proofs.Common.{◌≡◌, ◌≢◌, ℕ, ◌+◌, ◌^◌, ◌<◌}
use Rattle.quadratic_form.specs.Tables.{entry, IsZeroOutside}
use Rattle.quadratic_form.specs.Matrices.{EntriesBelow}
use Rattle.int_search.specs.Transformed.{whole_entry}
use Rattle.int_search.proofs.coordinates.write_row.Given as goal

abbrev pub invariant-loop-j : goal.invariant-loop-j
invariant-loop-j l = record {
  row : (k : ℕ) → k < l.j → entry l.p l.i k ≡ whole_entry l.n (entry l.map) (entry l.halves) l.i k;
  others : (i k : ℕ) → i ≢ l.i → entry l.p i k ≡ entry l.initial.p i k;
  entries : EntriesBelow (2 ^ 52) l.p;
  outside : IsZeroOutside (l.n + 1) (l.n + 1) l.p;
}
