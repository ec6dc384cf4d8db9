-- The line of an epoch or an event.
use Rattle.std.specs.Prelude.{ℕ, ◌+◌, ◌||◌, ◌==◌, nat_le, Bool, true, false, List, length, Result, Ok, if◌then◌else◌}
use Rattle.decimal_text.specs.Fixed.{are_blank}
use Rattle.gps_time.specs.declared.Tick.{Tick}
use Rattle.obs_store.specs.declared.series.Epoch.{Epoch}
use Rattle.obs_store.specs.Epochs.{last_tag_of}
use Rattle.rinex_head.specs.declared.place.Flaw.{Flaw}
use Rattle.rinex_head.specs.declared.place.What.TheVariants.{BadField, Order, Flag, Moving, TooMany}
use Rattle.rinex_head.specs.Places.{and_then, flawed}
use Rattle.rinex_head.specs.Columns.{column, columns}
use Rattle.rinex_head.specs.Fields.{filled_of, fixed_in}
use Rattle.obs_fields.specs.declared.layout.Layout.TheVariants.{Rinex2}
use Rattle.obs_fields.specs.EpochFields.{count_in, moment_of, is_later}
use Rattle.rinex2_obs.specs.SatNames.{first_names_of}
use Rattle.rinex2_obs.specs.declared.epoch_lines.EpochLine.{EpochLine}
use Rattle.rinex2_obs.specs.declared.epoch_lines.EpochLine.TheVariants as line

-- the year of its last two digits: from 1980 to 2079
abbrev pub year_of : ℕ → ℕ
year_of digits = if nat_le 80 digits then 1900 + digits else 2000 + digits

-- the tag of its date and its time
unfoldable pub tag_in : List ℕ → Result Tick Flaw
tag_in bytes =
    and_then (filled_of 2 (columns bytes 2 2)) (λ year.
    and_then (filled_of 5 (columns bytes 5 2)) (λ month.
    and_then (filled_of 8 (columns bytes 8 2)) (λ day.
    and_then (filled_of 11 (columns bytes 11 2)) (λ hour.
    and_then (filled_of 14 (columns bytes 14 2)) (λ minute.
    and_then (fixed_in bytes 16 11 7) (λ part. moment_of Rinex2 (year_of year) month day hour minute part))))))

abbrev pub event_in : List ℕ → Bool → Result EpochLine Flaw
event_in bytes changes = and_then (count_in Rinex2 bytes) (λ n. Ok (line.Event changes n))

abbrev pub slips_in : List ℕ → Result EpochLine Flaw
slips_in bytes = and_then (count_in Rinex2 bytes) (λ n. Ok (line.Slips n))

-- its count, and the names that the line has
abbrev pub named_epoch : List ℕ → Bool → Tick → Result EpochLine Flaw
named_epoch bytes power tag =
    and_then (count_in Rinex2 bytes) (λ n. and_then (first_names_of bytes n) (λ list. Ok (line.Epoch tag power list)))

-- an epoch after these ones
unfoldable pub epoch_in : List Epoch → List ℕ → Bool → Result EpochLine Flaw
epoch_in epochs bytes power =
    if nat_le 20_000 (length epochs) then flawed 1 TooMany
    else and_then (tag_in bytes) (λ tag. if is_later (last_tag_of epochs) tag then named_epoch bytes power tag else flawed 2 Order)

-- Flag 0 is an epoch, flag 1 one before which power failed. With 2 and 3 the antenna moves. After 4 the header may
-- change; 5 is another event. 6 has cycle slips of a number of satellites, in the form of an epoch.
abbrev pub by_flag : List Epoch → List ℕ → ℕ → Result EpochLine Flaw
by_flag epochs bytes flag =
    if flag == 48 then epoch_in epochs bytes false else
    (if flag == 49 then epoch_in epochs bytes true else
    (if (flag == 50) || (flag == 51) then flawed 29 Moving else
    (if flag == 52 then event_in bytes true else
    (if flag == 53 then event_in bytes false else
    (if flag == 54 then slips_in bytes else flawed 29 Flag)))))

-- where an epoch's line is expected after these epochs
unfoldable pub epoch_line_of : List Epoch → List ℕ → Result EpochLine Flaw
epoch_line_of epochs bytes =
    if are_blank bytes then Ok line.Blank
    else (if column bytes 1 == 32 then by_flag epochs bytes (column bytes 29) else flawed 1 BadField)
