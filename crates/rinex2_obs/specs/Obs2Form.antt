-- A RINEX 2 observation file as a grammar over the whole list of its lines: a header, then blank lines, epochs and events.
use Rattle.std.specs.Prelude.{◌≡◌, ℕ, ◌<◌, ◌≤◌, ◌+◌, ◌*◌, List, [], ◌∷◌, ◌++◌, length, map, Bool, Ok, None, Some}
use Rattle.std.specs.declared.option.Option.{Option}
use Rattle.gps_time.specs.declared.Tick.{Tick}
use Rattle.obs_store.specs.declared.file.ObsFile.{ObsFile}
use Rattle.obs_store.specs.declared.series.Epoch.{Epoch}
use Rattle.obs_store.specs.declared.values.Value.{Value}
use Rattle.obs_store.specs.declared.values.SatObs.{SatObs}
use Rattle.obs_store.specs.Missing.{missing_values}
use Rattle.obs_store.specs.Satellites.{satellite_of}
use Rattle.obs_store.specs.Epochs.{epoch_of}
use Rattle.rinex_head.specs.declared.system.System.TheVariants.{Gps}
use Rattle.obs_fields.specs.HeaderForm.{IsHeader}
use Rattle.obs_fields.specs.declared.layout.Layout.TheVariants.{Rinex2}
use Rattle.obs_fields.specs.Events.{EventPart, IsEventPart}
use Rattle.obs_fields.specs.declared.types.KeptType.{KeptType}
use Rattle.rinex2_obs.specs.Profile.{kept_of}
use Rattle.rinex2_obs.specs.SatNames.{further_mark_of, further_names_of}
use Rattle.rinex2_obs.specs.EpochLines.{epoch_line_of}
use Rattle.rinex2_obs.specs.Rows.{rows_of, further_lines_of, row_of}
use Rattle.rinex2_obs.specs.Obs2Rules.{file_of}
use Rattle.rinex2_obs.specs.declared.sat_names.NameList.{NameList}
use Rattle.obs_fields.specs.declared.header.Header.{Header}
use Rattle.rinex2_obs.specs.declared.epoch_lines.EpochLine.TheVariants as line

-- ---- the body

-- a satellite of an epoch, which has a number if it is of GPS, with its lines and its values
pub record SatPart : Type 0 where
  pub number : Option ℕ
  pub rows : List (List ℕ)
  pub values : List (Option Value)

-- an epoch's line, its further lines of names, and its satellites
pub record EpochPart : Type 0 where
  pub bytes : List ℕ
  pub tag : Tick
  pub power : Bool
  pub list : NameList
  pub further : List (List ℕ)
  pub sats : List SatPart

-- the line of the cycle slips with the number of its satellites, the further lines of their names, and their own lines
pub record SlipsPart : Type 0 where
  pub bytes : List ℕ
  pub count : ℕ
  pub further : List (List ℕ)
  pub rows : List (List ℕ)

pub data Part : Type 0 where
  Blank : List ℕ → Part
  Event : EventPart → Part
  Slips : SlipsPart → Part
  Epoch_ : EpochPart → Part

-- the further lines of an epoch's names, after which all its names are there
abbrev pub AreFurtherNames : List (List ℕ) → List (Option ℕ) → ℕ → List (Option ℕ) → Type 0
AreFurtherNames [] names left all = (left ≡ 0) × (names ≡ all)
AreFurtherNames (bytes ∷ lines) names left all =
    (0 < left) × (length bytes ≤ 4096) × ((list : NameList) × (further_names_of bytes names left ≡ Ok list) × AreFurtherNames lines list.names list.left all)

-- the lines of a satellite from that number on, which give it these values
abbrev pub AreRows : List KeptType → Option ℕ → ℕ → List (List ℕ) → List (Option Value) → List (Option Value) → Type 0
AreRows kept number at [] before after = before ≡ after
AreRows kept number at (bytes ∷ rows) before after =
    (length bytes ≤ 4096) × ((set : List (Option Value)) × (row_of kept number at bytes before ≡ Ok set) × AreRows kept number (at + 1) rows set after)

pub record IsSat (types : List (List ℕ)) (p : SatPart) : Type 0 where
  pub count : length p.rows ≡ rows_of types
  pub rows : AreRows (kept_of types) p.number 0 p.rows missing_values p.values

abbrev pub AreSats : List (List ℕ) → List SatPart → Type 0
AreSats types [] = Unit {0}
AreSats types (p ∷ ps) = IsSat types p × AreSats types ps

abbrev pub numbers_of : List SatPart → List (Option ℕ)
numbers_of sats = map (λ p. p.number) sats

abbrev pub sat_lines : List SatPart → List (List ℕ)
sat_lines [] = []
sat_lines (p ∷ ps) = p.rows ++ sat_lines ps

-- those of GPS
abbrev pub if_of_gps : Option ℕ → List (Option Value) → List SatObs
if_of_gps None values = []
if_of_gps (Some number) values = satellite_of number values ∷ []

abbrev pub satellites_of : List SatPart → List SatObs
satellites_of [] = []
satellites_of (p ∷ ps) = if_of_gps p.number p.values ++ satellites_of ps

-- after these epochs
pub record IsEpochPart (types : List (List ℕ)) (epochs : List Epoch) (p : EpochPart) : Type 0 where
  pub short : length p.bytes ≤ 4096
  pub is_read : epoch_line_of epochs p.bytes ≡ Ok (line.Epoch p.tag p.power p.list)
  pub names : AreFurtherNames p.further p.list.names p.list.left (numbers_of p.sats)
  pub sats : AreSats types p.sats

-- what the line of an event says
abbrev pub SaysEvent : List Epoch → List ℕ → Bool → ℕ → Type 0
SaysEvent epochs bytes changes count = epoch_line_of epochs bytes ≡ Ok (line.Event changes count)

-- lines of names that aren't read
abbrev pub AreMarked : List (List ℕ) → Type 0
AreMarked [] = Unit {0}
AreMarked (bytes ∷ lines) = (length bytes ≤ 4096) × (further_mark_of bytes ≡ Ok tt) × AreMarked lines

abbrev pub AreShort : List (List ℕ) → Type 0
AreShort [] = Unit {0}
AreShort (bytes ∷ lines) = (length bytes ≤ 4096) × AreShort lines

pub record IsSlipsPart (types : List (List ℕ)) (epochs : List Epoch) (p : SlipsPart) : Type 0 where
  pub short : length p.bytes ≤ 4096
  pub is_read : epoch_line_of epochs p.bytes ≡ Ok (line.Slips p.count)
  pub further_count : length p.further ≡ further_lines_of p.count
  pub further : AreMarked p.further
  pub rows_count : length p.rows ≡ p.count * rows_of types
  pub rows : AreShort p.rows

abbrev pub epoch_in_part : EpochPart → Epoch
epoch_in_part p = epoch_of p.tag p.power (satellites_of p.sats)

-- the parts of a body after these epochs
abbrev pub AreParts : List (List ℕ) → List Epoch → List Part → Type 0
AreParts types epochs [] = Unit {0}
AreParts types epochs (Blank bytes ∷ parts) = (length bytes ≤ 4096) × (epoch_line_of epochs bytes ≡ Ok line.Blank) × AreParts types epochs parts
AreParts types epochs (Event p ∷ parts) = IsEventPart Rinex2 (SaysEvent epochs) p × AreParts types epochs parts
AreParts types epochs (Slips p ∷ parts) = IsSlipsPart types epochs p × AreParts types epochs parts
AreParts types epochs (Epoch_ p ∷ parts) = IsEpochPart types epochs p × AreParts types (epochs ++ epoch_in_part p ∷ []) parts

abbrev pub epochs_of : List Part → List Epoch
epochs_of [] = []
epochs_of (Blank bytes ∷ parts) = epochs_of parts
epochs_of (Event p ∷ parts) = epochs_of parts
epochs_of (Slips p ∷ parts) = epochs_of parts
epochs_of (Epoch_ p ∷ parts) = epoch_in_part p ∷ epochs_of parts

abbrev pub lines_of_part : Part → List (List ℕ)
lines_of_part (Blank bytes) = bytes ∷ []
lines_of_part (Event p) = p.bytes ∷ p.event_lines
lines_of_part (Slips p) = p.bytes ∷ (p.further ++ p.rows)
lines_of_part (Epoch_ p) = p.bytes ∷ (p.further ++ sat_lines p.sats)

abbrev pub body_lines : List Part → List (List ℕ)
body_lines [] = []
body_lines (p ∷ parts) = lines_of_part p ++ body_lines parts

-- ---- the file

-- the lines are a header and a body, and the file is theirs: what they say of GPS
pub record IsObs2File (lines : List (List ℕ)) (file : ObsFile) : Type 0 where
  pub header_lines : List (List ℕ)
  pub header : Header
  pub parts : List Part
  pub lines_are : lines ≡ header_lines ++ body_lines parts
  pub is_header : IsHeader Rinex2 header_lines header
  pub of_gps : header.system ≡ Gps
  pub are_parts : AreParts header.types [] parts
  pub file_is : file ≡ file_of header (epochs_of parts)

-- the lines are those of some file
abbrev pub HasObs2File : List (List ℕ) → Type 0
HasObs2File lines = (file : ObsFile) × IsObs2File lines file
