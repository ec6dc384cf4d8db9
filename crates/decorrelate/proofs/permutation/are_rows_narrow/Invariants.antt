use Rattle.std.proofs.Common.{ℕ, ◌+◌, ◌<◌}
use Rattle.quadratic_form.specs.Tables.{entry}
use Rattle.decorrelate.specs.Turning.{AreColumnsSmall}
use Rattle.decorrelate.proofs.permutation.are_rows_narrow.Given as goal

abbrev pub invariant-loop-i : goal.invariant-loop-i
invariant-loop-i l = record { narrow : (k : ℕ) → k < l.i → l.fn.j + 1 < k → AreColumnsSmall l.fn.r l.fn.q l.fn.j (entry l.l k) }
