use Rattle.std.proofs.Common.{◌≡◌, ℕ, ◌+◌, ◌^◌, ◌<◌, ◌≤◌, unsigned_abs, length}
use Rattle.quadratic_form.specs.Tables.{entry, item}
use Rattle.quadratic_form.specs.declared.sizes.TheConstants.{MOST_INTEGERS}
use Rattle.decorrelate.specs.GaussSteps.{after_gauss, multiple}
use Rattle.decorrelate.proofs.gauss.reduced_row.Given as goal

abbrev pub invariant-loop-step : goal.invariant-loop-step
invariant-loop-step l = record {
  full : length l.left ≡ MOST_INTEGERS;
  multiples_full : length l.multiples ≡ MOST_INTEGERS;
  value : (m : ℕ) → m ≤ l.fn.j → item l.left m ≡ after_gauss (entry l.l) l.fn.j l.step m;
  size : (m : ℕ) → m < MOST_INTEGERS → unsigned_abs (item l.left m) < 2 ^ 62;
  small : (p m : ℕ) → p < l.step → m ≤ l.fn.j → unsigned_abs (after_gauss (entry l.l) l.fn.j (p + 1) m) < 2 ^ 62;
  done : (i : ℕ) → l.fn.j < i + l.step → i ≤ l.fn.j → item l.multiples i ≡ multiple (entry l.l) l.fn.j i;
  sizes : (i : ℕ) → l.fn.j < i + l.step → i ≤ l.fn.j → unsigned_abs (item l.multiples i) ≤ 2 ^ 33;
}
