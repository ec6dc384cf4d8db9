use Rattle.std.proofs.Common.{◌≡◌, ℕ, ◌+◌, ◌^◌, ◌<◌}
use Rattle.quadratic_form.specs.Tables.{entry, IsZeroOutside}
use Rattle.quadratic_form.specs.Matrices.{EntriesBelow}
use Rattle.int_search.specs.Transformed.{whole_entry}
use Rattle.int_search.proofs.coordinates.write_wholes.Given as goal

abbrev pub invariant-loop-i : goal.invariant-loop-i
invariant-loop-i l = record {
  same : (k j : ℕ) → k < l.i → j < l.n + 1 → entry l.p k j ≡ whole_entry l.n (entry l.map) (entry l.halves) k j;
  entries : EntriesBelow (2 ^ 52) l.p;
  outside : IsZeroOutside (l.n + 1) (l.n + 1) l.p;
}
