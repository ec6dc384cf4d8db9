use Rattle.std.proofs.Common.{◌≡◌, ℕ, ◌+◌, ◌*◌, ◌^◌, ◌<◌, ◌≤◌, List, map, take, drop, get_or, ◌+ℤ◌, unsigned_abs}
use Rattle.obs_rows.specs.declared.pair_rows.PairRows.{PairRows}
use Rattle.obs_rows.specs.Signals.{fine_signals}
use Rattle.obs_rows.specs.Integers.{integer_count}
use Rattle.quadratic_form.specs.Tables.{entry}
use Rattle.integer_form.specs.declared.front_form.FrontForm.{FrontForm}
use Rattle.track_form.specs.Fronts.{track_entry}
use Rattle.track_form.specs.PairFronts.{IsFrontOfPair, HasFront, AreFronts, brief}
use Rattle.track_form.specs.Factors.{AreFactors}
use Rattle.track_form.proofs.sums.add_fronts.Given as goal

-- what is summed and kept, and what is left
abbrev pub invariant-loop-pair : goal.invariant-loop-pair
invariant-loop-pair l = record {
  sums : (fs : List FrontForm) → AreFronts l.arcs (fine_signals l.signals) l.pairs fs → (r c : ℕ) → r ≤ c → c < 1 + integer_count l.arcs (fine_signals l.signals) →
      entry l.table (3 + r) (3 + c) +ℤ track_entry (1 + integer_count l.arcs (fine_signals l.signals)) l.h (map brief (drop l.pair-index fs)) r c
      ≡ track_entry (1 + integer_count l.arcs (fine_signals l.signals)) l.h (map brief fs) r c;
  factors : AreFactors l.arcs (fine_signals l.signals) (take l.pair-index l.pairs) l.kept.items;
  columns : l.room.front.columns ≡ 4 + integer_count l.arcs (fine_signals l.signals);
  fronts : (k : ℕ) → k < l.pair-index → (d : PairRows) → HasFront l.arcs (fine_signals l.signals) (get_or l.pairs k d);
  above : (k : ℕ) → k < l.pair-index → (d : PairRows) (f : FrontForm) → IsFrontOfPair l.arcs (fine_signals l.signals) (get_or l.pairs k d) f → f.h ≤ l.most;
  sizes : (r c : ℕ) → r ≤ c → c < 1 + integer_count l.arcs (fine_signals l.signals) → unsigned_abs (entry l.table (3 + r) (3 + c)) ≤ l.pair-index * 2 ^ 64;
}
