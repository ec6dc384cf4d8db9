use Rattle.std.proofs.Common.{◌≡◌, ℕ, ◌^◌, ◌<◌, ◌≤◌, ◌-ℤ◌, ◌*ℤ◌, unsigned_abs, length}
use Rattle.quadratic_form.specs.Tables.{entry, item}
use Rattle.quadratic_form.specs.declared.sizes.TheConstants.{MOST_INTEGERS}
use Rattle.decorrelate.specs.GaussSteps.{with_own}
use Rattle.decorrelate.proofs.gauss.gauss.Given as goal

abbrev pub invariant-loop-m : goal.invariant-loop-m
invariant-loop-m l = record {
  full : length l.t ≡ MOST_INTEGERS;
  done : (c : ℕ) → c < l.m → item l.t c ≡ item l.initial.t c -ℤ (l.fn.k *ℤ with_own (entry l.l) l.i c);
  rest : (c : ℕ) → l.m ≤ c → item l.t c ≡ item l.initial.t c;
  size : (c : ℕ) → c < MOST_INTEGERS → unsigned_abs (item l.t c) < 2 ^ 62;
}
