-- What each line of an observation file must be in its place.
use Rattle.std.specs.Prelude.{ℕ, zero, suc, ◌+◌, ◌-◌, ◌*◌, nat_lt, Bool, false, List, [], ◌∷◌, ◌++◌, Result, Ok, None, Some, if◌then◌else◌}
use Rattle.std.specs.declared.option.Option.{Option}
use Rattle.gps_time.specs.declared.Tick.{Tick}
use Rattle.obs_store.specs.declared.file.ObsFile.{ObsFile}
use Rattle.obs_store.specs.declared.series.Epoch.{Epoch}
use Rattle.obs_store.specs.declared.values.Value.{Value}
use Rattle.obs_store.specs.declared.values.SatObs.{SatObs}
use Rattle.obs_store.specs.Missing.{missing_values}
use Rattle.obs_store.specs.Satellites.{satellite_of}
use Rattle.obs_store.specs.Epochs.{epoch_of}
use Rattle.rinex_head.specs.declared.place.At.{At}
use Rattle.rinex_head.specs.declared.place.Flaw.{Flaw}
use Rattle.rinex_head.specs.declared.place.What.TheVariants.{Truncated}
use Rattle.rinex_head.specs.declared.system.System.TheVariants.{Gps}
use Rattle.rinex_head.specs.Places.{and_then, flawed}
use Rattle.rinex_head.specs.LineRules.{Rules, text_gives}
use Rattle.obs_fields.specs.HeaderRules.{InHeader, First, AfterLine, Inside, Whole, admit_header, missing_line}
use Rattle.obs_fields.specs.declared.layout.Layout.TheVariants.{Rinex2}
use Rattle.obs_fields.specs.Labels.{event_line_of}
use Rattle.rinex2_obs.specs.Profile.{kept_of, listed_of}
use Rattle.rinex2_obs.specs.SatNames.{further_mark_of, further_names_of}
use Rattle.rinex2_obs.specs.EpochLines.{epoch_line_of}
use Rattle.rinex2_obs.specs.Rows.{rows_of, further_lines_of, row_of}
use Rattle.obs_fields.specs.declared.header.Header.{Header}
use Rattle.rinex2_obs.specs.declared.epoch_lines.EpochLine.{EpochLine}
use Rattle.rinex2_obs.specs.declared.epoch_lines.EpochLine.TheVariants as line

-- the file of a header and its epochs
abbrev pub file_of : Header → List Epoch → ObsFile
file_of h epochs = record { hundredths = h.hundredths; position = h.position; delta = h.delta; listed = listed_of (kept_of h.types); epochs = epochs }

-- What may be expected: a line of the header; an epoch or an event after these epochs; further names of an epoch's satellites, in a
-- further line of names; the line of that number, from 0, of one of them, after which stand the lines of others; further lines of
-- names and then lines of satellites, after flag 6; lines of an event. What is due stands with its number.
pub data Expected : Type 0 where
  Head : InHeader → Expected
  Body : Header → List Epoch → Expected
  Names : Header → List Epoch → Tick → Bool → List (Option ℕ) → ℕ → Expected
  Row : Header → List Epoch → Tick → Bool → List SatObs → Option ℕ → List (Option ℕ) → ℕ → List (Option Value) → Expected
  Further : Header → List Epoch → ℕ → ℕ → Expected
  Skip : Header → List Epoch → Bool → ℕ → Expected

-- after these satellites of an epoch, where those of the names are still due
abbrev pub more_sats : Header → List Epoch → Tick → Bool → List SatObs → List (Option ℕ) → Expected
more_sats h epochs tag power sats [] = Body h (epochs ++ epoch_of tag power sats ∷ [])
more_sats h epochs tag power sats (name ∷ names) = Row h epochs tag power sats name names 0 missing_values

-- after a line of names, by the number of names that are still due
abbrev pub more_names : Header → List Epoch → Tick → Bool → List (Option ℕ) → ℕ → Expected
more_names h epochs tag power names zero = more_sats h epochs tag power [] names
more_names h epochs tag power names (suc n) = Names h epochs tag power names (suc n)

-- a satellite of another system is skipped
abbrev pub with_satellite : List SatObs → Option ℕ → List (Option Value) → List SatObs
with_satellite sats None values = sats
with_satellite sats (Some number) values = sats ++ satellite_of number values ∷ []

-- before the line of that number of a satellite, if it has such a line, where its values so far are these
abbrev pub more_rows : Header → List Epoch → Tick → Bool → List SatObs → Option ℕ → List (Option ℕ) → ℕ → List (Option Value) → Expected
more_rows h epochs tag power sats name names at values =
    if nat_lt at (rows_of h.types) then Row h epochs tag power sats name names at values
    else more_sats h epochs tag power (with_satellite sats name values) names

-- after an event's line, by the number of lines that follow
abbrev pub more_lines : Header → List Epoch → Bool → ℕ → Expected
more_lines h epochs changes zero = Body h epochs
more_lines h epochs changes (suc n) = Skip h epochs changes (suc n)

-- after flag 6, by the numbers of further lines of names and of lines of satellites that follow
abbrev pub more_slips : Header → List Epoch → ℕ → ℕ → Expected
more_slips h epochs zero rows = more_lines h epochs false rows
more_slips h epochs (suc n) rows = Further h epochs (suc n) rows

-- after a line of the header
abbrev pub after_header : AfterLine → Expected
after_header (Inside s) = Head s
after_header (Whole h) = Body h []

abbrev pub after_epoch : Header → List Epoch → EpochLine → Expected
after_epoch h epochs line.Blank = Body h epochs
after_epoch h epochs (line.Event changes n) = more_lines h epochs changes n
after_epoch h epochs (line.Slips n) = more_slips h epochs (further_lines_of n) (n * rows_of h.types)
after_epoch h epochs (line.Epoch tag power list) = more_names h epochs tag power list.names list.left

abbrev pub admit : Expected → List ℕ → Result Expected Flaw
admit (Head s) bytes = and_then (admit_header Rinex2 s bytes) (λ l. Ok (after_header l))
admit (Body h epochs) bytes = and_then (epoch_line_of epochs bytes) (λ l. Ok (after_epoch h epochs l))
admit (Names h epochs tag power names n) bytes = and_then (further_names_of bytes names n) (λ list. Ok (more_names h epochs tag power list.names list.left))
admit (Row h epochs tag power sats name names at values) bytes =
    and_then (row_of (kept_of h.types) name at bytes values) (λ set. Ok (more_rows h epochs tag power sats name names (at + 1) set))
admit (Further h epochs n rows) bytes = and_then (further_mark_of bytes) (λ u. Ok (more_slips h epochs (n - 1) rows))
admit (Skip h epochs changes n) bytes = and_then (event_line_of Rinex2 changes bytes) (λ u. Ok (more_lines h epochs changes (n - 1)))

abbrev pub finish : Expected → Result ObsFile Flaw
finish (Head s) = flawed 1 (missing_line s)
finish (Body h epochs) = Ok (file_of h epochs)
finish (Names h epochs tag power names n) = flawed 1 Truncated
finish (Row h epochs tag power sats name names at values) = flawed 1 Truncated
finish (Further h epochs n rows) = flawed 1 Truncated
finish (Skip h epochs changes n) = flawed 1 Truncated

abbrev pub obs2_rules : Rules Expected ObsFile
obs2_rules = record { start = Head (First Gps); admit = admit; finish = finish }

-- the file that a text of these lines stands for, or its first failing place
abbrev pub obs2_of : List (List ℕ) → Result ObsFile At
obs2_of lines = text_gives obs2_rules lines
