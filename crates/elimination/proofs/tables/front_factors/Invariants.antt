use Rattle.std.proofs.Common.{◌≡◌, ℕ, ◌<◌}
use Rattle.quadratic_form.specs.declared.sizes.TheConstants.{BASELINE_COLUMNS, MOST_COLUMNS}
use Rattle.quadratic_form.specs.Tables.{entry, IsZeroOutside}
use Rattle.elimination.proofs.tables.front_factors.Given as goal

abbrev pub invariant-loop-r : goal.invariant-loop-r
invariant-loop-r l = record {
  same : (i j : ℕ) → i < l.r → j < 3 → entry l.front i j ≡ entry l.factors i j;
  outside : IsZeroOutside MOST_COLUMNS BASELINE_COLUMNS l.front;
}
