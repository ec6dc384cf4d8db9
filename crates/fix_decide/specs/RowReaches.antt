-- What a move gives of a row, the same for each signal, and where the row's residual may lie then.
use Rattle.std.specs.Prelude.{◌≡◌, ℕ, ◌^◌, ◌≤◌, List, map, Option, ℤ, pos, ◌-ℤ◌, ◌*ℤ◌, ◌≤ℤ◌, unsigned_abs}
use Rattle.whole_math.specs.Rounding.{ceil_div}
use Rattle.obs_rows.specs.declared.arcs.Arc.{Arc}
use Rattle.obs_rows.specs.declared.rows.Row.{Row}
use Rattle.obs_rows.specs.Signals.{cycle}
use Rattle.obs_rows.specs.Integers.{entry_at}
use Rattle.obs_rows.specs.Data.{number_at}
use Rattle.obs_rows.specs.Best.{move_exponent}
use Rattle.normal_sum.specs.Places.{ArePlaces}
use Rattle.fix_decide.specs.declared.reaches.ResidualBox.{ResidualBox}
use Rattle.fix_decide.specs.declared.reaches.RowReach.{RowReach}
use Rattle.fix_decide.specs.UpperSums.{scalar_product, rad}

-- how far the move brings the row, rounded up, and how far from its centre the residual may lie
abbrev pub row_reach : List ℤ → Row → RowReach
row_reach m r = record { advance = ceil_div (scalar_product r.u m) (2 ^ move_exponent); rad = rad m r }

-- the reach of a row as signal s sees it, whose integer has this place in z
abbrev pub reach_at : List ℤ → ℕ → Row → RowReach → Option ℕ → ResidualBox
reach_at z s r a place = record { centre = (number_at r.y s -ℤ a.advance) -ℤ (cycle s *ℤ entry_at z place); rad = a.rad }

-- small enough for the arithmetic
pub record IsModest (a : RowReach) : Type 0 where
  pub advance_in : unsigned_abs a.advance ≤ 2 ^ 56
  pub rad_from : pos 0 ≤ℤ a.rad
  pub rad_to : a.rad ≤ℤ pos (2 ^ 57)

-- the places are those of the rows' integers as signal s sees them, and the row reaches those of the move m
pub record AreSeen (arcs : List Arc) (ss : List ℕ) (m : List ℤ) (s : ℕ) (rows : List Row) (places : List (Option ℕ)) (moves : List RowReach) : Type 0 where
  pub are_places : ArePlaces arcs ss s rows places
  pub are_moves : moves ≡ map (row_reach m) rows
