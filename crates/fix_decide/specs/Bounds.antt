-- What the upper sum says about the data.
use Rattle.std.specs.Prelude.{ℕ, List, ℤ}
use Rattle.whole_math.specs.Rational.{of_whole, ◌≤ʳ◌}
use Rattle.obs_rows.specs.declared.arcs.Arc.{Arc}
use Rattle.obs_rows.specs.declared.pair_rows.PairRows.{PairRows}
use Rattle.obs_rows.specs.Data.{Observed, AreData}
use Rattle.obs_rows.specs.SumOfSquares.{sum_of_squares}
use Rattle.obs_rows.specs.Best.{moved}

-- for all data in the boxes, the sum of squares of these pairs, over these signals, at the integers z and the move m is at most u
pub record StaysAtMost (arcs : List Arc) (ss : List ℕ) (pairs : List PairRows) (z m : List ℤ) (u : ℤ) : Type 0 where
  pub above : (observed : List (List Observed)) → AreData ss pairs observed → sum_of_squares arcs ss pairs z (moved m) observed ≤ʳ of_whole u
