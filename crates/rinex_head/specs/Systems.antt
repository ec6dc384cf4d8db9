-- What the formats say of each satellite system.
use Rattle.std.specs.Prelude.{ℕ, ◌||◌, ◌==◌, Bool, List, codes, if◌then◌else◌}
use Rattle.std.specs.Str.{bytes_eq}
use Rattle.rinex_head.specs.declared.system.System.{System}
use Rattle.rinex_head.specs.declared.system.System.TheVariants.{Gps, Galileo}
use Rattle.rinex_head.specs.declared.place.What.{What}
use Rattle.rinex_head.specs.declared.place.What.TheVariants.{NoGps, NoGal, Scale, GalScale, Version, ObsVersion}

-- `G` and `E`
abbrev pub letter_of : System → ℕ
letter_of Gps = 71
letter_of Galileo = 69

-- the system of a letter, GPS for all but Galileo's
abbrev pub system_of : ℕ → System
system_of letter = if letter == 69 then Galileo else Gps

-- numbers of satellites are 1 to this one
abbrev pub last_number_of : System → ℕ
last_number_of Gps = 32
last_number_of Galileo = 36

-- the time system of its observations; blank is the system's own
abbrev pub names_time : System → List ℕ → Bool
names_time Gps name = bytes_eq name (codes "GPS") || bytes_eq name (codes "   ")
names_time Galileo name = bytes_eq name (codes "GAL") || (bytes_eq name (codes "GPS") || bytes_eq name (codes "   "))

-- no list of its types
abbrev pub none_listed : System → What
none_listed Gps = NoGps
none_listed Galileo = NoGal

-- a scale factor of its values
abbrev pub scaled : System → What
scaled Gps = Scale
scaled Galileo = GalScale

-- the version of an observation file, where GPS has files of RINEX 2 too
abbrev pub bad_version : System → What
bad_version Gps = ObsVersion
bad_version Galileo = Version
