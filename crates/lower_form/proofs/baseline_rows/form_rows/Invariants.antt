use Rattle.std.proofs.Common.{◌≡◌, ℕ, ◌+◌, ◌-◌, ◌<◌, ◌≤◌, true}
use Rattle.quadratic_form.specs.Tables.{entry}
use Rattle.elimination.specs.StepEntries.{is_small}
use Rattle.elimination.specs.RowSteps.{row_entry, HasFactors}
use Rattle.lower_form.specs.FirstRounding.{first_entry}
use Rattle.lower_form.proofs.baseline_rows.form_rows.Given as goal

abbrev pub invariant-loop-r : goal.invariant-loop-r
invariant-loop-r l = record {
  form : (i c : ℕ) → i < l.r → i ≤ c → c < l.normal.columns - 3 → entry l.front.p i c ≡ row_entry (first_entry l.normal l.fn.h) l.pivots.rows l.normal.columns 3 (3 + i) (3 + c);
  small : (k i c : ℕ) → k ≤ 3 → 3 ≤ i → i < 3 + l.r → i ≤ c → c < l.normal.columns → is_small (row_entry (first_entry l.normal l.fn.h) l.pivots.rows l.normal.columns k i c) ≡ true;
  factors_are : (j i : ℕ) → j < 3 → 3 ≤ i → i < 3 + l.r → HasFactors l.pivots.rows l.front.l j i;
  first : (i m : ℕ) → i < 3 → entry l.front.l i m ≡ entry l.initial.front.l i m;
  kept : l.front.d ≡ l.initial.front.d;
  columns : l.front.columns ≡ l.normal.columns;
}
