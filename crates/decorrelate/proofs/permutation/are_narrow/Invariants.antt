use Rattle.std.proofs.Common.{ℕ, ◌^◌, ◌<◌, unsigned_abs}
use Rattle.quadratic_form.specs.Tables.{item}
use Rattle.decorrelate.proofs.permutation.are_narrow.Given as goal

abbrev pub invariant-loop-m : goal.invariant-loop-m
invariant-loop-m l = record { narrow : (k : ℕ) → k < l.m → unsigned_abs (item l.left k) < 2 ^ 52 }
