use Rattle.std.proofs.Common.{◌≡◌, ◌≢◌, ◌⊎◌, ℕ, ◌<◌, ◌≤◌}
use Rattle.quadratic_form.specs.Tables.{entry}
use Rattle.elimination.proofs.tables.copy_factors.Given as goal

abbrev pub invariant-loop-c : goal.invariant-loop-c
invariant-loop-c l = record {
  row : (k : ℕ) → k < l.c → entry l.front l.r k ≡ entry l.factors l.r k;
  others : (i k : ℕ) → (i ≢ l.r) ⊎ (3 ≤ k) → entry l.front i k ≡ entry l.initial.front i k;
}
