use Rattle.std.proofs.Common.{ℕ, ◌^◌, ◌<◌, ◌+ℤ◌, ◌*ℤ◌, unsigned_abs}
use Rattle.quadratic_form.specs.Tables.{entry}
use Rattle.decorrelate.proofs.rows.is_raised_small.Given as goal

abbrev pub invariant-loop-c : goal.invariant-loop-c
invariant-loop-c l = record { small : (d : ℕ) → d < l.c → unsigned_abs (entry l.back l.row d +ℤ (l.fn.k *ℤ entry l.back l.from d)) < 2 ^ 30 }
