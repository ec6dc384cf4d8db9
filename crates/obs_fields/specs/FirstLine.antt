-- The first line of an observation file: a version of the format, the kind `O`, and in column 41 the letter of the system or `M`, in RINEX 2 also a blank.
use Rattle.std.specs.Prelude.{ℕ, ℤ, pos, negsuc, ◌&&◌, ◌||◌, ◌==◌, nat_le, Bool, List, codes, Result, Ok, Err, if◌then◌else◌}
use Rattle.std.specs.Str.{bytes_eq}
use Rattle.decimal_text.specs.declared.fixed.NumberFault.{NumberFault}
use Rattle.decimal_text.specs.Fixed.{fixed_of}
use Rattle.rinex_head.specs.declared.head.Version.{Version}
use Rattle.rinex_head.specs.declared.place.Flaw.{Flaw}
use Rattle.rinex_head.specs.declared.place.What.TheVariants.{ObsVersion, Kind}
use Rattle.rinex_head.specs.declared.system.System.{System}
use Rattle.rinex_head.specs.Systems.{letter_of, bad_version}
use Rattle.rinex_head.specs.Columns.{column, columns}
use Rattle.rinex_head.specs.Places.{flawed}
use Rattle.rinex_head.specs.Head.{label_of, version_in}
use Rattle.obs_fields.specs.declared.layout.Layout.{Layout}
use Rattle.obs_fields.specs.declared.layout.Layout.TheVariants.{Rinex2, Rinex3}

-- version 2.10 or 2.11, with the kind and the system of the line
abbrev pub version_2_number : List ℕ → Result ℤ NumberFault → Result Version Flaw
version_2_number line (Ok (pos n)) =
    if nat_le 210 n && nat_le n 211 then Ok (record { hundredths = n; kind = column line 21; system = column line 41 }) else flawed 1 ObsVersion
version_2_number line (Ok (negsuc n)) = flawed 1 ObsVersion
version_2_number line (Err fault) = flawed 1 ObsVersion

abbrev pub version_2_in : List ℕ → Result Version Flaw
version_2_in line =
    if bytes_eq (label_of line) (codes "RINEX VERSION / TYPE") then version_2_number line (fixed_of (columns line 1 9) 2) else flawed 1 ObsVersion

-- the version, the kind and the system of a first line of the format
abbrev pub version_by : Layout → List ℕ → Result Version Flaw
version_by Rinex2 line = version_2_in line
version_by Rinex3 line = version_in line

-- The letter is that of the system or of several ones. RINEX 2 is read for GPS alone, for which a blank stands.
abbrev pub names_system : Layout → System → ℕ → Bool
names_system Rinex2 system letter = (letter == letter_of system) || ((letter == 77) || (letter == 32))
names_system Rinex3 system letter = (letter == letter_of system) || (letter == 77)

abbrev pub hundredths_of : Layout → System → Version → Result ℕ Flaw
hundredths_of layout system v = if v.kind == 79 then (if names_system layout system v.system then Ok v.hundredths else flawed 41 Kind) else flawed 21 Kind

-- another version is refused for the system's reason
abbrev pub of_version : Layout → System → Result Version Flaw → Result ℕ Flaw
of_version layout system (Ok v) = hundredths_of layout system v
of_version layout system (Err flaw) = flawed 1 (bad_version system)

-- the version in hundredths
unfoldable pub first_line_of : Layout → System → List ℕ → Result ℕ Flaw
first_line_of layout system line = of_version layout system (version_by layout line)
