use Rattle.std.proofs.Common.{◌≡◌, ◌⊎◌, ℕ, ◌^◌, ◌<◌, ◌≤◌, pos, unsigned_abs}
use Rattle.quadratic_form.specs.declared.sizes.TheConstants.{MOST_FORM_COLUMNS}
use Rattle.quadratic_form.specs.Tables.{entry}
use Rattle.integer_form.proofs.tables.is_form_table.Given as goal

abbrev pub invariant-loop-r : goal.invariant-loop-r
invariant-loop-r l = record {
  symmetric : (i k : ℕ) → i < l.r → k < MOST_FORM_COLUMNS → entry l.p i k ≡ entry l.p k i;
  small : (i k : ℕ) → i < l.r → k < MOST_FORM_COLUMNS → unsigned_abs (entry l.p i k) < 2 ^ 52;
  outside : (i k : ℕ) → i < l.r → k < MOST_FORM_COLUMNS → (l.n ≤ i) ⊎ (l.n ≤ k) → entry l.p i k ≡ pos 0;
}
