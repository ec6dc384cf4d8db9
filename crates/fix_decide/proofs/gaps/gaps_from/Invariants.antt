use Rattle.std.proofs.Common.{◌≡◌, ◌*◌, ◌^◌, drop, pos, ◌+ℤ◌, ◌≤ℤ◌}
use Rattle.fix_decide.specs.Reaches.{gaps_from}
use Rattle.fix_decide.proofs.gaps.gaps_from.Given as goal

abbrev pub invariant-loop-q : goal.invariant-loop-q
invariant-loop-q l = record {
  value : l.sum +ℤ gaps_from l.p (drop l.q-index l.others) ≡ gaps_from l.p l.others;
  from : pos 0 ≤ℤ l.sum;
  to : l.sum ≤ℤ pos (l.q-index * 2 ^ 68);
}
