-- Rows and arcs whose arrays have their lengths, as those of every value in a program have. In a definition an array is a
-- list of any length.
use Rattle.std.specs.Prelude.{◌≡◌, length, All}
use Rattle.obs_rows.specs.declared.arcs.Arc.{Arc}
use Rattle.obs_rows.specs.declared.rows.Row.{Row}
use Rattle.obs_rows.specs.declared.pair_rows.PairRows.{PairRows}
use Rattle.obs_rows.specs.declared.units.TheConstants.{SIGNALS, PHASES}

abbrev pub IsWholeArc : Arc → Type 0
IsWholeArc a = length a.shift ≡ PHASES

pub record IsWholeRow (r : Row) : Type 0 where
  pub y : length r.y ≡ SIGNALS
  pub u : length r.u ≡ 3
  pub ru : length r.ru ≡ 3

abbrev pub IsWholePair : PairRows → Type 0
IsWholePair p = All IsWholeRow p.rows
