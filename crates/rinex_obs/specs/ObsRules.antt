-- What each line of an observation file must be in its place.
use Rattle.std.specs.Prelude.{ℕ, zero, suc, ◌-◌, Bool, List, [], ◌∷◌, ◌++◌, Result, Ok, None, Some}
use Rattle.std.specs.declared.option.Option.{Option}
use Rattle.gps_time.specs.declared.Tick.{Tick}
use Rattle.obs_store.specs.declared.file.ObsFile.{ObsFile}
use Rattle.obs_store.specs.declared.series.Epoch.{Epoch}
use Rattle.obs_store.specs.declared.values.SatObs.{SatObs}
use Rattle.obs_store.specs.Epochs.{epoch_of}
use Rattle.rinex_head.specs.declared.place.At.{At}
use Rattle.rinex_head.specs.declared.place.Flaw.{Flaw}
use Rattle.rinex_head.specs.declared.place.What.TheVariants.{Truncated}
use Rattle.rinex_head.specs.declared.system.System.{System}
use Rattle.rinex_head.specs.Places.{and_then, flawed}
use Rattle.rinex_head.specs.LineRules.{Rules, text_gives}
use Rattle.obs_fields.specs.Types.{kept_from, listed_of}
use Rattle.obs_fields.specs.HeaderRules.{InHeader, First, AfterLine, Inside, Whole, admit_header, missing_line}
use Rattle.obs_fields.specs.declared.layout.Layout.TheVariants.{Rinex3}
use Rattle.obs_fields.specs.declared.types.KeptType.{KeptType}
use Rattle.obs_fields.specs.Labels.{event_line_of}
use Rattle.rinex_obs.specs.EpochLines.{epoch_line_of}
use Rattle.rinex_obs.specs.SatLines.{satellite_line_of}
use Rattle.obs_fields.specs.declared.header.Header.{Header}
use Rattle.rinex_obs.specs.declared.epoch_lines.EpochLine.{EpochLine}
use Rattle.rinex_obs.specs.declared.epoch_lines.EpochLine.TheVariants as line

-- the file of a header and its epochs
abbrev pub file_of : Header → List Epoch → ObsFile
file_of h epochs = record { hundredths = h.hundredths; position = h.position; delta = h.delta; listed = listed_of h.system h.types; epochs = epochs }

-- What may be expected: a line of the header; an epoch or an event after these epochs; lines of an epoch's satellites, or of an event, by
-- their number.
pub data Expected : Type 0 where
  Head : InHeader → Expected
  Body : Header → List Epoch → Expected
  Sats : Header → List Epoch → Tick → Bool → List SatObs → ℕ → Expected
  Skip : Header → List Epoch → Bool → ℕ → Expected

-- after an epoch's line, by the number of lines that follow
abbrev pub more_sats : Header → List Epoch → Tick → Bool → List SatObs → ℕ → Expected
more_sats h epochs tag power sats zero = Body h (epochs ++ epoch_of tag power sats ∷ [])
more_sats h epochs tag power sats (suc n) = Sats h epochs tag power sats (suc n)

-- after an event's line, by the number of lines that follow
abbrev pub more_lines : Header → List Epoch → Bool → ℕ → Expected
more_lines h epochs changes zero = Body h epochs
more_lines h epochs changes (suc n) = Skip h epochs changes (suc n)

-- after a line of the header
abbrev pub after_header : AfterLine → Expected
after_header (Inside s) = Head s
after_header (Whole h) = Body h []

abbrev pub after_epoch : Header → List Epoch → EpochLine → Expected
after_epoch h epochs line.Blank = Body h epochs
after_epoch h epochs (line.Event changes n) = more_lines h epochs changes n
after_epoch h epochs (line.Epoch tag power n) = more_sats h epochs tag power [] n

-- a satellite of another system is skipped
abbrev pub with_satellite : List SatObs → Option SatObs → List SatObs
with_satellite sats None = sats
with_satellite sats (Some s) = sats ++ s ∷ []

-- the satellites of an epoch after one more line
abbrev pub sats_with : System → List KeptType → List SatObs → List ℕ → Result (List SatObs) Flaw
sats_with system kept sats bytes = and_then (satellite_line_of system kept sats bytes) (λ s. Ok (with_satellite sats s))

abbrev pub admit : Expected → List ℕ → Result Expected Flaw
admit (Head s) bytes = and_then (admit_header Rinex3 s bytes) (λ l. Ok (after_header l))
admit (Body h epochs) bytes = and_then (epoch_line_of epochs bytes) (λ l. Ok (after_epoch h epochs l))
admit (Sats h epochs tag power sats n) bytes = and_then (satellite_line_of h.system (kept_from h.system 0 h.types) sats bytes) (λ s. Ok (more_sats h epochs tag power (with_satellite sats s) (n - 1)))
admit (Skip h epochs changes n) bytes = and_then (event_line_of Rinex3 changes bytes) (λ u. Ok (more_lines h epochs changes (n - 1)))

abbrev pub finish : Expected → Result ObsFile Flaw
finish (Head s) = flawed 1 (missing_line s)
finish (Body h epochs) = Ok (file_of h epochs)
finish (Sats h epochs tag power sats n) = flawed 1 Truncated
finish (Skip h epochs changes n) = flawed 1 Truncated

-- of the satellites of one system
abbrev pub obs_rules : System → Rules Expected ObsFile
obs_rules system = record { start = Head (First system); admit = admit; finish = finish }

-- the file that a text of these lines stands for, or its first failing place
abbrev pub obs_of : System → List (List ℕ) → Result ObsFile At
obs_of system lines = text_gives (obs_rules system) lines
