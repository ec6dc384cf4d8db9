use Rattle.std.proofs.Common.{◌≡◌, ◌≢◌, ℕ, ◌<◌, ◌≤◌, true}
use Rattle.quadratic_form.specs.Tables.{entry}
use Rattle.elimination.specs.StepEntries.{is_small}
use Rattle.lower_form.specs.FirstRounding.{first_entry}
use Rattle.lower_form.proofs.rounding.round_row.Given as goal

abbrev pub invariant-loop-c : goal.invariant-loop-c
invariant-loop-c l = record {
  from : l.fn.r ≤ l.c;
  value : (k : ℕ) → k < l.c → l.fn.r ≤ k → entry l.table l.fn.r k ≡ first_entry l.normal l.fn.h l.fn.r k;
  small : (k : ℕ) → k < l.c → l.fn.r ≤ k → is_small (first_entry l.normal l.fn.h l.fn.r k) ≡ true;
  others : (i k : ℕ) → i ≢ l.fn.r → entry l.table i k ≡ entry l.initial.table i k;
}
