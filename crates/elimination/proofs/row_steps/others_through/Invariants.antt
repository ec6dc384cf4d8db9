use Rattle.std.proofs.Common.{◌≡◌, ℕ, ◌<◌, ◌≤◌, length}
use Rattle.quadratic_form.specs.declared.sizes.TheConstants.{MOST_COLUMNS}
use Rattle.quadratic_form.specs.Tables.{item}
use Rattle.elimination.specs.RowSteps.{IsLeft}
use Rattle.elimination.proofs.row_steps.others_through.Given as goal

abbrev pub invariant-loop-c : goal.invariant-loop-c
invariant-loop-c l = record {
  full : length l.row ≡ MOST_COLUMNS;
  from : l.fn.r < l.c;
  left : (k : ℕ) → k < l.c → l.fn.r < k → IsLeft l.rows l.fn.columns l.fn.r k l.fn.count (item l.initial.row k) (item l.row k);
  rest : (k : ℕ) → l.c ≤ k → item l.row k ≡ item l.initial.row k;
  before : (k : ℕ) → k ≤ l.fn.r → item l.row k ≡ item l.initial.row k;
}
