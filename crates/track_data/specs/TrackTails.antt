-- What the tail of a track may hold: the ranges of its numbers, with an entry for each integer of the arcs and the phases
-- that count, and a move for each pair.
use Rattle.std.specs.Prelude.{◌≡◌, ℕ, ℤ, Bool, List, length, All, if◌then◌else◌}
use Rattle.std.proofs.Props.{props}
use Rattle.obs_rows.specs.declared.arcs.Arc.{Arc}
use Rattle.obs_rows.specs.declared.pair_rows.PairRows.{PairRows}
use Rattle.int_search.specs.declared.answer.TwoBest.{TwoBest}
use Rattle.cert_data.specs.Tails.{IsMove, AreValues, IsWeak}
use Rattle.track_data.specs.declared.tails.TrackTail.{TrackTail}
use Rattle.track_data.specs.declared.tails.TrackTail.TheVariants.{Fixed, Unseparated, Weak, Overwidth, Spent}

-- two vectors as a tail: the first is fixed, or the second isn't far enough from it
abbrev pub track_tail_of_vectors : Bool → ℕ → List (List ℤ) → TwoBest → ℤ → TrackTail
track_tail_of_vectors fixed h moves best top = if fixed then Fixed h moves best top else Unseparated h moves best top

-- the ranges of a tail with vectors
pub record AreTrackVectors (signals : List ℕ) (arcs : List Arc) (pairs : List PairRows) (h : ℕ) (moves : List (List ℤ)) (best : TwoBest) (top : ℤ) : Type 0 where
  pub move_each : length moves ≡ length pairs
  pub moves_in : All IsMove moves
  pub values : AreValues signals arcs h best top

-- a tail of a certificate of these signals, arcs and pairs, and this budget
abbrev pub IsTrackTailOf : List ℕ → List Arc → List PairRows → ℕ → TrackTail → Type 0
IsTrackTailOf signals arcs pairs budget (Fixed h moves best top) = AreTrackVectors signals arcs pairs h moves best top
IsTrackTailOf signals arcs pairs budget (Unseparated h moves best top) = AreTrackVectors signals arcs pairs h moves best top
IsTrackTailOf signals arcs pairs budget (Weak column pivot) = IsWeak column pivot
IsTrackTailOf signals arcs pairs budget (Overwidth place) = Unit {0}
IsTrackTailOf signals arcs pairs budget (Spent spent) = spent ≡ budget

pub IsTrackTailOf-prop : (signals : List ℕ) (arcs : List Arc) (pairs : List PairRows) (budget : ℕ) (tail : TrackTail) → IsProp (IsTrackTailOf signals arcs pairs budget tail)
IsTrackTailOf-prop signals arcs pairs budget (Fixed h moves best top) = Prim.hlevel props
IsTrackTailOf-prop signals arcs pairs budget (Unseparated h moves best top) = Prim.hlevel props
IsTrackTailOf-prop signals arcs pairs budget (Weak column pivot) = Prim.hlevel props
IsTrackTailOf-prop signals arcs pairs budget (Overwidth place) = Prim.hlevel props
IsTrackTailOf-prop signals arcs pairs budget (Spent spent) = Prim.hlevel props
