use Rattle.std.proofs.Common.{◌≡◌, ◌⊎◌, ℕ, ◌<◌, ◌≤◌}
use Rattle.quadratic_form.specs.declared.sizes.TheConstants.{BASELINE_COLUMNS, MOST_COLUMNS}
use Rattle.quadratic_form.specs.Tables.{entry}
use Rattle.integer_form.proofs.tables.put_factors.Given as goal

abbrev pub invariant-loop-r : goal.invariant-loop-r
invariant-loop-r l = record {
  same : (i j : ℕ) → i < l.r → j < BASELINE_COLUMNS → entry l.factors i j ≡ entry l.front i j;
  others : (i j : ℕ) → (MOST_COLUMNS ≤ i) ⊎ (BASELINE_COLUMNS ≤ j) → entry l.factors i j ≡ entry l.initial.factors i j;
}
