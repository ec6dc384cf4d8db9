-- Fields of the line of an epoch or an event.
use Rattle.std.specs.Prelude.{ℕ, ℤ, pos, negsuc, nat_lt, Bool, true, List, unwrap_or, Result, Ok, None, Some, if◌then◌else◌}
use Rattle.std.specs.declared.option.Option.{Option}
use Rattle.gps_time.specs.declared.Tick.{Tick}
use Rattle.gps_time.specs.Ticks.{is_moment, ticks_since}
use Rattle.rinex_head.specs.declared.place.Flaw.{Flaw}
use Rattle.rinex_head.specs.declared.place.What.TheVariants.{BadDate}
use Rattle.rinex_head.specs.Places.{and_then, flawed}
use Rattle.rinex_head.specs.Columns.{columns}
use Rattle.rinex_head.specs.Fields.{whole_of}
use Rattle.obs_fields.specs.declared.layout.Layout.{Layout}
use Rattle.obs_fields.specs.Layouts.{count_column_of, date_column_of}

-- how many lines follow; a blank count is 0
unfoldable pub count_in : Layout → List ℕ → Result ℕ Flaw
count_in layout bytes = and_then (whole_of (count_column_of layout) (columns bytes (count_column_of layout) 3)) (λ n. Ok (unwrap_or n 0))

-- the tag of a date and a time, with the ticks within its minute
unfoldable pub moment_of : Layout → ℕ → ℕ → ℕ → ℕ → ℕ → ℤ → Result Tick Flaw
moment_of layout year month day hour minute (pos part) =
    if is_moment year month day hour minute part then Ok (record { 0 = ticks_since year month day hour minute part })
    else flawed (date_column_of layout) BadDate
moment_of layout year month day hour minute (negsuc n) = flawed (date_column_of layout) BadDate

-- later than the last tag, if there is one
abbrev pub is_later : Option Tick → Tick → Bool
is_later None tag = true
is_later (Some last) tag = nat_lt last.0 tag.0
