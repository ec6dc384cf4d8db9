use Rattle.std.proofs.Common.{◌≡◌, ℕ, ◌<◌, ◌≤◌, length, true}
use Rattle.quadratic_form.specs.declared.sizes.TheConstants.{MOST_COLUMNS}
use Rattle.quadratic_form.specs.Tables.{item}
use Rattle.elimination.specs.StepEntries.{is_small}
use Rattle.lower_form.specs.FirstRounding.{first_entry, IsRounded}
use Rattle.lower_form.proofs.baseline_rows.first_others.Given as goal

abbrev pub invariant-loop-c : goal.invariant-loop-c
invariant-loop-c l = record {
  full : length l.row ≡ MOST_COLUMNS;
  from : l.fn.r < l.c;
  value : (k : ℕ) → k < l.c → l.fn.r < k → item l.row k ≡ first_entry l.normal l.fn.h l.fn.r k;
  small : (k : ℕ) → k < l.c → l.fn.r < k → is_small (item l.row k) ≡ true;
  before : (k : ℕ) → k ≤ l.fn.r → item l.row k ≡ item l.initial.row k;
  last : IsRounded l.fn.h l.last.entry l.last.rounded;
}
