-- The lines of the body: the first line of a record, and its further lines.
use Rattle.std.specs.Prelude.{ℕ, pos, ◌*◌, ◌&&◌, ◌||◌, ◌==◌, nat_le, Bool, true, false, List, Result, Ok, Err, None, Some, if◌then◌else◌}
use Rattle.std.specs.declared.option.Option.{Option}
use Rattle.decimal_text.specs.Fixed.{are_blank}
use Rattle.decimal_text.specs.declared.exponent.Dec.{Dec}
use Rattle.gps_time.specs.declared.Tick.{Tick}
use Rattle.gps_time.specs.Ticks.{is_moment, ticks_since}
use Rattle.rinex_head.specs.declared.place.Flaw.{Flaw}
use Rattle.rinex_head.specs.declared.place.What.TheVariants.{BadField, BadDate, BadSat, TooMany, Truncated}
use Rattle.rinex_head.specs.declared.system.System.{System}
use Rattle.rinex_head.specs.Systems.{letter_of, last_number_of}
use Rattle.rinex_head.specs.Places.{and_then, flawed}
use Rattle.rinex_head.specs.Columns.{column, columns}
use Rattle.rinex_head.specs.Fields.{whole_of, filled_of, exponent_in}
use Rattle.rinex_nav.specs.declared.record_lines.Start.{Start}
use Rattle.rinex_nav.specs.declared.record_lines.Quad.{Quad}
use Rattle.rinex_nav.specs.declared.record_lines.BodyLine.{BodyLine}
use Rattle.rinex_nav.specs.declared.record_lines.BodyLine.TheVariants.{Passed, Other, Record}

-- the number with an exponent in the 19 columns from one on
unfoldable pub number_in : List ℕ → ℕ → Result Dec Flaw
number_in line first = exponent_in line first 19

-- a number from 1 to the last one of the system
abbrev pub satellite_of : System → Result (Option ℕ) Flaw → Result ℕ Flaw
satellite_of system (Ok (Some n)) = if nat_le 1 n && nat_le n (last_number_of system) then Ok n else flawed 1 BadSat
satellite_of system (Ok None) = flawed 1 BadSat
satellite_of system (Err flaw) = flawed 1 BadSat

unfoldable pub satellite_in : System → List ℕ → Result ℕ Flaw
satellite_in system line = satellite_of system (whole_of 2 (columns line 2 2))

-- the tick of a date and a time
unfoldable pub moment_of : ℕ → ℕ → ℕ → ℕ → ℕ → ℕ → Result Tick Flaw
moment_of year month day hour minute second =
    if is_moment year month day hour minute (second * 10_000_000) then Ok (record { 0 = ticks_since year month day hour minute (second * 10_000_000) }) else flawed 5 BadDate

unfoldable pub toc_in : List ℕ → Result Tick Flaw
toc_in line =
    and_then (filled_of 5 (columns line 5 4)) (λ year.
    and_then (filled_of 10 (columns line 10 2)) (λ month.
    and_then (filled_of 13 (columns line 13 2)) (λ day.
    and_then (filled_of 16 (columns line 16 2)) (λ hour.
    and_then (filled_of 19 (columns line 19 2)) (λ minute.
    and_then (filled_of 22 (columns line 22 2)) (λ second. moment_of year month day hour minute second))))))

-- the first line of a record of the system
unfoldable pub start_in : System → List ℕ → Result Start Flaw
start_in system line =
    and_then (satellite_in system line) (λ sat.
    and_then (toc_in line) (λ toc.
    and_then (number_in line 24) (λ af0.
    and_then (number_in line 43) (λ af1.
    and_then (number_in line 62) (λ af2. Ok (record { sat = sat; toc = toc; af0 = af0; af1 = af1; af2 = af2 }))))))

-- the same after a number of records of the system
abbrev pub record_line_of : System → ℕ → List ℕ → Result BodyLine Flaw
record_line_of system count line = if nat_le 4096 count then flawed 1 TooMany else and_then (start_in system line) (λ start. Ok (Record start))

-- where a record may begin after a number of records of the system, the last record of another system or not
unfoldable pub body_line_of : System → ℕ → Bool → List ℕ → Result BodyLine Flaw
body_line_of system count skipping line =
    if column line 1 == 32 then (if skipping || are_blank line then Ok Passed else flawed 1 BadField)
    else (if column line 1 == letter_of system then record_line_of system count line else Ok Other)

-- which of the four numbers are read in each of the seven further lines, counted from 0
abbrev pub reads_first : ℕ → Bool
reads_first place = nat_le 1 place && nat_le place 4

abbrev pub reads_second : ℕ → Bool
reads_second place = nat_le place 3 || (place == 5)

abbrev pub reads_third : ℕ → Bool
reads_third place = nat_le place 4

abbrev pub reads_fourth : ℕ → Bool
reads_fourth place = nat_le place 3

-- a number that isn't read is 0
abbrev pub number_if : Bool → List ℕ → ℕ → Result Dec Flaw
number_if true line first = number_in line first
number_if false line first = Ok (record { mant = pos 0; exp = pos 0 })

unfoldable pub quad_in : ℕ → List ℕ → Result Quad Flaw
quad_in place line =
    and_then (number_if (reads_first place) line 5) (λ a.
    and_then (number_if (reads_second place) line 24) (λ b.
    and_then (number_if (reads_third place) line 43) (λ c.
    and_then (number_if (reads_fourth place) line 62) (λ d. Ok (record { first = a; second = b; third = c; fourth = d })))))

-- a further line of a record
unfoldable pub continuation_of : ℕ → List ℕ → Result Quad Flaw
continuation_of place line = if column line 1 == 32 then quad_in place line else flawed 1 Truncated
