-- Where the upper sum of a track is too wide.
use Rattle.std.specs.Prelude.{ℕ, ◌<◌, List, length, get_or, ℤ}
use Rattle.obs_rows.specs.declared.arcs.Arc.{Arc}
use Rattle.obs_rows.specs.declared.pair_rows.PairRows.{PairRows}
use Rattle.fix_decide.specs.Widths.{IsWide}

-- the upper sum of some pair is too wide, at its own move
pub record IsSomeWide (arcs : List Arc) (signals : List ℕ) (z : List ℤ) (pairs : List PairRows) (moves : List (List ℤ)) : Type 0 where
  pub place : ℕ
  pub inside : place < length pairs
  pub wide : (p : PairRows) (m : List ℤ) → IsWide arcs signals z (get_or moves place m) (get_or pairs place p)
