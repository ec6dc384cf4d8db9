use Rattle.std.proofs.Common.{◌≡◌, ◌*◌, ◌^◌, drop, pos, ◌+ℤ◌, ◌≤ℤ◌}
use Rattle.fix_decide.specs.Reaches.{gaps}
use Rattle.fix_decide.proofs.gaps.gaps.Given as goal

abbrev pub invariant-loop-i : goal.invariant-loop-i
invariant-loop-i l = record {
  value : l.sum +ℤ gaps (drop l.i l.reaches) ≡ gaps l.reaches;
  from : pos 0 ≤ℤ l.sum;
  to : l.sum ≤ℤ pos (l.i * 2 ^ 72);
}
