-- The lines of a satellite, five values in each.
use Rattle.std.specs.Prelude.{ℕ, suc, ◌-◌, ◌/◌, List, length, Result, Ok, None, Some}
use Rattle.std.specs.declared.option.Option.{Option}
use Rattle.obs_store.specs.declared.values.Value.{Value}
use Rattle.rinex_head.specs.declared.place.Flaw.{Flaw}
use Rattle.obs_fields.specs.declared.layout.Layout.TheVariants.{Rinex2}
use Rattle.obs_fields.specs.declared.types.KeptType.{KeptType}
use Rattle.obs_fields.specs.SatFields.{values_in}

-- how many lines each satellite has: the last one has the value of the last type
abbrev pub rows_of : List (List ℕ) → ℕ
rows_of types = suc ((length types - 1) / 5)

-- how many further lines a number of names needs, twelve in a line
abbrev pub further_lines_of : ℕ → ℕ
further_lines_of count = (count - 1) / 12

-- the values of a satellite of GPS with those of its line of that number, from 0; of another system none are read
unfoldable pub row_of : List KeptType → Option ℕ → ℕ → List ℕ → List (Option Value) → Result (List (Option Value)) Flaw
row_of kept None at line values = Ok values
row_of kept (Some number) at line values = values_in Rinex2 at kept line values
