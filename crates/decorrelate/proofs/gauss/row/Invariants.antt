use Rattle.std.proofs.Common.{◌≡◌, ℕ, ◌<◌, length}
use Rattle.quadratic_form.specs.Tables.{entry, item}
use Rattle.quadratic_form.specs.declared.sizes.TheConstants.{MOST_INTEGERS}
use Rattle.decorrelate.proofs.gauss.row.Given as goal

abbrev pub invariant-loop-m : goal.invariant-loop-m
invariant-loop-m l = record {
  full : length l.t ≡ MOST_INTEGERS;
  same : (k : ℕ) → k < l.m → item l.t k ≡ entry l.l l.i k;
}
