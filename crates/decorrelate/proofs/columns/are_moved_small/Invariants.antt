use Rattle.std.proofs.Common.{ℕ, ◌^◌, ◌<◌, unsigned_abs}
use Rattle.quadratic_form.specs.Tables.{entry, item}
use Rattle.decorrelate.specs.Moving.{sheared}
use Rattle.decorrelate.proofs.columns.are_moved_small.Given as goal

abbrev pub invariant-loop-row : goal.invariant-loop-row
invariant-loop-row l = record { small : (i : ℕ) → i < l.row → unsigned_abs (sheared (item l.ks) (entry l.map i) l.fn.j) < 2 ^ 30 }
