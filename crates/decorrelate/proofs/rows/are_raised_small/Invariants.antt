use Rattle.std.proofs.Common.{ℕ, ◌^◌, ◌<◌, unsigned_abs}
use Rattle.quadratic_form.specs.Tables.{entry, item}
use Rattle.decorrelate.specs.Moving.{raised}
use Rattle.decorrelate.proofs.rows.are_raised_small.Given as goal

abbrev pub invariant-loop-row : goal.invariant-loop-row
invariant-loop-row l = record { small : (i d : ℕ) → i < l.row → d < l.fn.size → unsigned_abs (raised (item l.ks) (entry l.back) l.fn.j i d) < 2 ^ 30 }
