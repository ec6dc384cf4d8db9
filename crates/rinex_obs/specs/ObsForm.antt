-- An observation file as a grammar over the whole list of its lines: a header, then blank lines, epochs and events.
use Rattle.std.specs.Prelude.{◌≡◌, ℕ, ◌≤◌, List, [], ◌∷◌, ◌++◌, length, Bool, Ok, None, Some}
use Rattle.std.specs.declared.option.Option.{Option}
use Rattle.gps_time.specs.declared.Tick.{Tick}
use Rattle.obs_store.specs.declared.file.ObsFile.{ObsFile}
use Rattle.obs_store.specs.declared.series.Epoch.{Epoch}
use Rattle.obs_store.specs.declared.values.SatObs.{SatObs}
use Rattle.obs_store.specs.Epochs.{epoch_of}
use Rattle.obs_fields.specs.HeaderForm.{IsHeader}
use Rattle.obs_fields.specs.Types.{kept_from}
use Rattle.rinex_head.specs.declared.system.System.{System}
use Rattle.obs_fields.specs.declared.layout.Layout.TheVariants.{Rinex3}
use Rattle.obs_fields.specs.Events.{EventPart, IsEventPart}
use Rattle.rinex_obs.specs.EpochLines.{epoch_line_of}
use Rattle.rinex_obs.specs.SatLines.{satellite_line_of}
use Rattle.rinex_obs.specs.ObsRules.{file_of}
use Rattle.obs_fields.specs.declared.types.KeptType.{KeptType}
use Rattle.obs_fields.specs.declared.header.Header.{Header}
use Rattle.rinex_obs.specs.declared.epoch_lines.EpochLine.TheVariants as line

-- ---- the body

-- an epoch's line, and the lines of its satellites with what each gives: a satellite of the system, or nothing
pub record EpochPart : Type 0 where
  pub bytes : List ℕ
  pub tag : Tick
  pub power : Bool
  pub sat_lines : List (List ℕ)
  pub found : List (Option SatObs)

pub data Part : Type 0 where
  Blank : List ℕ → Part
  Event : EventPart → Part
  Epoch_ : EpochPart → Part

-- the satellites among what the lines give
abbrev pub satellites_of : List (Option SatObs) → List SatObs
satellites_of [] = []
satellites_of (None ∷ found) = satellites_of found
satellites_of (Some s ∷ found) = s ∷ satellites_of found

-- each line gives this after the satellites before it
abbrev pub AreSatLines : System → List KeptType → List SatObs → List (List ℕ) → List (Option SatObs) → Type 0
AreSatLines system kept before [] [] = Unit {0}
AreSatLines system kept before [] (f ∷ found) = ⊥
AreSatLines system kept before (bytes ∷ lines) [] = ⊥
AreSatLines system kept before (bytes ∷ lines) (None ∷ found) =
    (length bytes ≤ 4096) × (satellite_line_of system kept before bytes ≡ Ok None) × AreSatLines system kept before lines found
AreSatLines system kept before (bytes ∷ lines) (Some s ∷ found) =
    (length bytes ≤ 4096) × (satellite_line_of system kept before bytes ≡ Ok (Some s)) × AreSatLines system kept (before ++ s ∷ []) lines found

-- after these epochs
pub record IsEpochPart (system : System) (kept : List KeptType) (epochs : List Epoch) (p : EpochPart) : Type 0 where
  pub short : length p.bytes ≤ 4096
  pub is_read : epoch_line_of epochs p.bytes ≡ Ok (line.Epoch p.tag p.power (length p.sat_lines))
  pub sats : AreSatLines system kept [] p.sat_lines p.found

-- what the line of an event says
abbrev pub SaysEvent : List Epoch → List ℕ → Bool → ℕ → Type 0
SaysEvent epochs bytes changes count = epoch_line_of epochs bytes ≡ Ok (line.Event changes count)

abbrev pub epoch_in_part : EpochPart → Epoch
epoch_in_part p = epoch_of p.tag p.power (satellites_of p.found)

-- the parts of a body after these epochs
abbrev pub AreParts : System → List KeptType → List Epoch → List Part → Type 0
AreParts system kept epochs [] = Unit {0}
AreParts system kept epochs (Blank bytes ∷ parts) = (length bytes ≤ 4096) × (epoch_line_of epochs bytes ≡ Ok line.Blank) × AreParts system kept epochs parts
AreParts system kept epochs (Event p ∷ parts) = IsEventPart Rinex3 (SaysEvent epochs) p × AreParts system kept epochs parts
AreParts system kept epochs (Epoch_ p ∷ parts) = IsEpochPart system kept epochs p × AreParts system kept (epochs ++ epoch_in_part p ∷ []) parts

abbrev pub epochs_of : List Part → List Epoch
epochs_of [] = []
epochs_of (Blank bytes ∷ parts) = epochs_of parts
epochs_of (Event p ∷ parts) = epochs_of parts
epochs_of (Epoch_ p ∷ parts) = epoch_in_part p ∷ epochs_of parts

abbrev pub lines_of_part : Part → List (List ℕ)
lines_of_part (Blank bytes) = bytes ∷ []
lines_of_part (Event p) = p.bytes ∷ p.event_lines
lines_of_part (Epoch_ p) = p.bytes ∷ p.sat_lines

abbrev pub body_lines : List Part → List (List ℕ)
body_lines [] = []
body_lines (p ∷ parts) = lines_of_part p ++ body_lines parts

-- ---- the file

-- the lines are a header and a body, and the file is theirs: what they say of the system
pub record IsObsFile (system : System) (lines : List (List ℕ)) (file : ObsFile) : Type 0 where
  pub header_lines : List (List ℕ)
  pub header : Header
  pub parts : List Part
  pub lines_are : lines ≡ header_lines ++ body_lines parts
  pub is_header : IsHeader Rinex3 header_lines header
  pub of_system : header.system ≡ system
  pub are_parts : AreParts system (kept_from system 0 header.types) [] parts
  pub file_is : file ≡ file_of header (epochs_of parts)

-- the lines are those of some file
abbrev pub HasObsFile : System → List (List ℕ) → Type 0
HasObsFile system lines = (file : ObsFile) × IsObsFile system lines file
