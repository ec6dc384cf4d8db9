use Rattle.std.proofs.Common.{◌≡◌, ℕ, ◌-◌, ◌<◌, ◌≤◌, pos, unsigned_abs, true}
use Rattle.quadratic_form.specs.Tables.{entry}
use Rattle.elimination.specs.StepEntries.{is_small, new_entry}
use Rattle.elimination.proofs.step.update.Given as goal

abbrev pub invariant-loop-r : goal.invariant-loop-r
invariant-loop-r l = record {
  from : l.fn.j < l.r;
  value : (k c : ℕ) → k < l.r → l.fn.j < k → k ≤ c → c < l.fn.columns → entry l.table k c ≡ new_entry l.initial.table l.fn.j (unsigned_abs l.fn.a) (pos (l.fn.columns - l.fn.j - 1)) k c;
  small : (k c : ℕ) → k < l.r → l.fn.j < k → k ≤ c → c < l.fn.columns → is_small (new_entry l.initial.table l.fn.j (unsigned_abs l.fn.a) (pos (l.fn.columns - l.fn.j - 1)) k c) ≡ true;
  rest : (k c : ℕ) → l.r ≤ k → entry l.table k c ≡ entry l.initial.table k c;
  before : (k c : ℕ) → k ≤ l.fn.j → entry l.table k c ≡ entry l.initial.table k c;
}
