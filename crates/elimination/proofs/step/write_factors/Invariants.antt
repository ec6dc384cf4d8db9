use Rattle.std.proofs.Common.{◌≡◌, ◌≢◌, ◌⊎◌, ℕ, ◌<◌, ◌≤◌, unsigned_abs, true}
use Rattle.quadratic_form.specs.Tables.{entry}
use Rattle.elimination.specs.StepEntries.{is_small, factor_entry}
use Rattle.elimination.proofs.step.write_factors.Given as goal

abbrev pub invariant-loop-c : goal.invariant-loop-c
invariant-loop-c l = record {
  from : l.fn.j < l.c;
  value : (k : ℕ) → l.fn.j < k → k < l.c → entry l.factors k l.fn.j ≡ factor_entry l.table l.fn.j (unsigned_abs l.fn.a) k;
  small : (k : ℕ) → l.fn.j < k → k < l.c → is_small (factor_entry l.table l.fn.j (unsigned_abs l.fn.a) k) ≡ true;
  others : (i k : ℕ) → (k ≢ l.fn.j) ⊎ ((i ≤ l.fn.j) ⊎ (l.fn.columns ≤ i)) → entry l.factors i k ≡ entry l.initial.factors i k;
}
