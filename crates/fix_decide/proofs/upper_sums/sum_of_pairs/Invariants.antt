use Rattle.std.proofs.Common.{◌≡◌, ℕ, ◌*◌, ◌^◌, ◌<◌, map, drop, get_or, pos, ◌+ℤ◌, ◌≤ℤ◌}
use Rattle.whole_math.specs.Vectors.{sum}
use Rattle.obs_rows.specs.declared.pair_rows.PairRows.{PairRows}
use Rattle.fix_decide.specs.UpperSums.{pair_upper}
use Rattle.fix_decide.specs.Widths.{IsWide}
use Rattle.fix_decide.proofs.upper_sums.sum_of_pairs.Given as goal

abbrev pub invariant-loop-pair : goal.invariant-loop-pair
invariant-loop-pair l = record {
  value : l.sum +ℤ sum (map (pair_upper l.arcs l.signals l.z l.moved) (drop l.pair-index l.pairs)) ≡ sum (map (pair_upper l.arcs l.signals l.z l.moved) l.pairs);
  from : pos 0 ≤ℤ l.sum;
  to : l.sum ≤ℤ pos (l.pair-index * 2 ^ 107);
  narrow : (k : ℕ) → k < l.pair-index → (d : PairRows) → IsWide l.arcs l.signals l.z l.moved (get_or l.pairs k d) → ⊥;
}
