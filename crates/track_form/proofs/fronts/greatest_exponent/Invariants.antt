use Rattle.std.proofs.Common.{◌≡◌, ℕ, ◌<◌, ◌≤◌, get_or}
use Rattle.obs_rows.specs.declared.pair_rows.PairRows.{PairRows}
use Rattle.obs_rows.specs.Signals.{fine_signals}
use Rattle.integer_form.specs.declared.front_form.FrontForm.{FrontForm}
use Rattle.track_form.specs.PairFronts.{IsFrontOfPair}
use Rattle.track_form.proofs.fronts.greatest_exponent.Given as goal

abbrev pub invariant-loop-k : goal.invariant-loop-k
invariant-loop-k l = record {
  above : l.every ≡ 1 → (k : ℕ) → k < l.k → (d : PairRows) (f : FrontForm) → IsFrontOfPair l.arcs (fine_signals l.signals) (get_or l.pairs k d) f → f.h ≤ l.greatest;
  attained : 1 ≤ l.k → (k : ℕ) × ((k < l.k) × ((d : PairRows) (f : FrontForm) → IsFrontOfPair l.arcs (fine_signals l.signals) (get_or l.pairs k d) f → f.h ≡ l.greatest));
  none : l.k ≡ 0 → l.greatest ≡ 0;
  few : l.greatest ≤ 77;
  columns : l.room.front.columns ≡ l.initial.room.front.columns;
}
