use Rattle.std.proofs.Common.{◌≡◌, ◌≢◌, ℕ, ◌<◌, ◌≤◌, unsigned_abs, true}
use Rattle.quadratic_form.specs.Tables.{entry}
use Rattle.elimination.specs.StepEntries.{is_small, other_entry}
use Rattle.elimination.proofs.step.update_others.Given as goal

abbrev pub invariant-loop-c : goal.invariant-loop-c
invariant-loop-c l = record {
  from : l.fn.r < l.c;
  value : (k : ℕ) → l.fn.r < k → k < l.c → entry l.table l.fn.r k ≡ other_entry l.initial.table l.fn.j (unsigned_abs l.quotient.a) l.fn.r k;
  small : (k : ℕ) → l.fn.r < k → k < l.c → is_small (other_entry l.initial.table l.fn.j (unsigned_abs l.quotient.a) l.fn.r k) ≡ true;
  rest : (k : ℕ) → l.c ≤ k → entry l.table l.fn.r k ≡ entry l.initial.table l.fn.r k;
  before : (k : ℕ) → k ≤ l.fn.r → entry l.table l.fn.r k ≡ entry l.initial.table l.fn.r k;
  others : (i k : ℕ) → i ≢ l.fn.r → entry l.table i k ≡ entry l.initial.table i k;
}
