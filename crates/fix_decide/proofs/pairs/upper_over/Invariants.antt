use Rattle.std.proofs.Common.{◌≡◌, ℕ, ◌*◌, ◌^◌, ◌<◌, map, drop, get_or, pos, ◌+ℤ◌, ◌≤ℤ◌}
use Rattle.whole_math.specs.Vectors.{sum}
use Rattle.fix_decide.specs.UpperSums.{signal_upper}
use Rattle.fix_decide.specs.Widths.{IsWideFor}
use Rattle.fix_decide.proofs.pairs.upper_over.Given as goal

abbrev pub invariant-loop-signal : goal.invariant-loop-signal
invariant-loop-signal l = record {
  value : l.sum +ℤ sum (map (signal_upper l.arcs l.signals l.z l.moved l.pair) (drop l.signal-index l.signals)) ≡ sum (map (signal_upper l.arcs l.signals l.z l.moved l.pair) l.signals);
  from : pos 0 ≤ℤ l.sum;
  to : l.sum ≤ℤ pos (l.signal-index * 2 ^ 104);
  narrow : (k : ℕ) → k < l.signal-index → IsWideFor l.arcs l.signals l.z l.moved l.pair.rows (get_or l.signals k 0) → ⊥;
}
