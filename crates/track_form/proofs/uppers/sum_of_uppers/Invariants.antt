use Rattle.std.proofs.Common.{◌≡◌, ℕ, ◌*◌, ◌^◌, ◌<◌, drop, get_or, List, ℤ, pos, ◌+ℤ◌, ◌≤ℤ◌}
use Rattle.whole_math.specs.Vectors.{sum}
use Rattle.obs_rows.specs.declared.pair_rows.PairRows.{PairRows}
use Rattle.obs_rows.specs.Signals.{fine_signals}
use Rattle.fix_decide.specs.Widths.{IsWide}
use Rattle.track_form.specs.SumDecided.{pair_uppers}
use Rattle.track_form.proofs.uppers.sum_of_uppers.Given as goal

abbrev pub invariant-loop-k : goal.invariant-loop-k
invariant-loop-k l = record {
  value : l.sum +ℤ sum (pair_uppers l.arcs (fine_signals l.signals) l.z (drop l.k l.pairs) (drop l.k l.moves)) ≡ sum (pair_uppers l.arcs (fine_signals l.signals) l.z l.pairs l.moves);
  from : pos 0 ≤ℤ l.sum;
  to : l.sum ≤ℤ pos (l.k * 2 ^ 107);
  narrow : (j : ℕ) → j < l.k → (p : PairRows) (m : List ℤ) → IsWide l.arcs (fine_signals l.signals) l.z (get_or l.moves j m) (get_or l.pairs j p) → ⊥;
}
