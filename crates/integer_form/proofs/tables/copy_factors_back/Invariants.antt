use Rattle.std.proofs.Common.{◌≡◌, ◌≢◌, ◌⊎◌, ℕ, ◌<◌, ◌≤◌}
use Rattle.quadratic_form.specs.Tables.{entry}
use Rattle.integer_form.proofs.tables.copy_factors_back.Given as goal

abbrev pub invariant-loop-c : goal.invariant-loop-c
invariant-loop-c l = record {
  row : (k : ℕ) → k < l.c → entry l.factors l.r k ≡ entry l.front l.r k;
  others : (i k : ℕ) → (i ≢ l.r) ⊎ (3 ≤ k) → entry l.factors i k ≡ entry l.initial.factors i k;
}
