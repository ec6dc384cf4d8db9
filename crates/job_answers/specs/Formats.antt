-- An observation file of either format, for the satellites of one system: files of RINEX 2 are read for GPS alone.
use Rattle.std.specs.Prelude.{◌⊎◌, ◌&&◌, ℕ, ℤ, pos, negsuc, nat_le, Bool, false, List, [], ◌∷◌, codes, Result, Ok, Err, if◌then◌else◌}
use Rattle.std.specs.Str.{bytes_eq}
use Rattle.decimal_text.specs.declared.fixed.NumberFault.{NumberFault}
use Rattle.decimal_text.specs.Fixed.{fixed_of}
use Rattle.obs_store.specs.declared.file.ObsFile.{ObsFile}
use Rattle.rinex_head.specs.declared.place.At.{At}
use Rattle.rinex_head.specs.declared.system.System.{System}
use Rattle.rinex_head.specs.declared.system.System.TheVariants.{Gps, Galileo}
use Rattle.rinex_head.specs.Columns.{columns}
use Rattle.rinex_head.specs.Head.{label_of}
use Rattle.rinex_obs.specs.ObsForm.{IsObsFile}
use Rattle.rinex_obs.specs.ObsRules.{obs_of}
use Rattle.rinex2_obs.specs.Obs2Form.{IsObs2File}
use Rattle.rinex2_obs.specs.Obs2Rules.{obs2_of}

-- a version from 2.00 to 2.99
abbrev pub is_version_2 : Result ℤ NumberFault → Bool
is_version_2 (Ok (pos hundredths)) = nat_le 200 hundredths && nat_le hundredths 299
is_version_2 (Ok (negsuc n)) = false
is_version_2 (Err fault) = false

-- the first line of a file of RINEX 2: the label, and such a version in columns 1 to 9
unfoldable pub begins_2 : List ℕ → Bool
begins_2 line = bytes_eq (label_of line) (codes "RINEX VERSION / TYPE") && is_version_2 (fixed_of (columns line 1 9) 2)

-- the lines are those of RINEX 2, by the first of them
abbrev pub is_two : List (List ℕ) → Bool
is_two [] = false
is_two (line ∷ lines) = begins_2 line

-- the file that a text of these lines stands for, or its first failing place
abbrev pub any_of : System → List (List ℕ) → Result ObsFile At
any_of Gps lines = if is_two lines then obs2_of lines else obs_of Gps lines
any_of Galileo lines = obs_of Galileo lines

-- the lines are a file of one of the formats, and it says this of the system
abbrev pub IsObservation : System → List (List ℕ) → ObsFile → Type 0
IsObservation Gps lines file = IsObsFile Gps lines file ⊎ IsObs2File lines file
IsObservation Galileo lines file = IsObsFile Galileo lines file

-- the lines are those of some file
abbrev pub HasObservation : System → List (List ℕ) → Type 0
HasObservation system lines = (file : ObsFile) × IsObservation system lines file
