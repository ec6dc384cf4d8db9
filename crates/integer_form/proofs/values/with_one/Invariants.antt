use Rattle.std.proofs.Common.{◌≡◌, ℕ, ◌<◌, length}
use Rattle.quadratic_form.specs.declared.sizes.TheConstants.{MOST_FORM_COLUMNS}
use Rattle.quadratic_form.specs.Tables.{item}
use Rattle.integer_form.proofs.values.with_one.Given as goal

abbrev pub invariant-loop-i : goal.invariant-loop-i
invariant-loop-i l = record {
  full : length l.x ≡ MOST_FORM_COLUMNS;
  same : (k : ℕ) → k < l.i → item l.x k ≡ item l.z k;
}
