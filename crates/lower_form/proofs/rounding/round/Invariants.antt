use Rattle.std.proofs.Common.{◌≡◌, ℕ, ◌<◌, ◌≤◌, true}
use Rattle.quadratic_form.specs.Tables.{entry}
use Rattle.elimination.specs.StepEntries.{is_small}
use Rattle.lower_form.specs.FirstRounding.{first_entry}
use Rattle.lower_form.proofs.rounding.round.Given as goal

abbrev pub invariant-loop-r : goal.invariant-loop-r
invariant-loop-r l = record {
  value : (k c : ℕ) → k < l.r → k ≤ c → c < l.normal.columns → entry l.table k c ≡ first_entry l.normal l.fn.h k c;
  small : (k c : ℕ) → k < l.r → k ≤ c → c < l.normal.columns → is_small (first_entry l.normal l.fn.h k c) ≡ true;
}
