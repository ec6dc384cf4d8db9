-- An observation file of RINEX 3.04, on 2024-01-01.
use Rattle.std.specs.Prelude.{ℕ, ℤ, pos, ◌+◌, ◌*◌, ◌/◌, ◌%◌, ◌^◌, ◌≤ℤ◌, ◌<ℤ◌, List, [], ◌∷◌, ◌++◌, length, codes}
use Rattle.decimal_text.specs.Write.{last_digits}
use Rattle.sim_session.specs.declared.signals.Signals.{Signals}
use Rattle.sim_session.specs.declared.signals.Tracking.{Tracking}
use Rattle.sim_session.specs.declared.signals.Tracking.TheVariants.{GpsL1L2, GpsL1L2L5, GalileoE1E5a}
use Rattle.sim_session.specs.Columns.{fixed_in}
use Rattle.sim_session.specs.Tracked.{system_letter, amounts_of}

unfoldable pub version_line : Tracking → List ℕ
version_line t = codes "     3.04           OBSERVATION DATA    " ++ system_letter t ∷ codes "                   RINEX VERSION / TYPE\n"

-- the system's types: a code and a phase on each band
unfoldable pub types_line : Tracking → List ℕ
types_line GpsL1L2 = codes "G    4 C1C L1C C2W L2W                                      SYS / # / OBS TYPES\n"
types_line GpsL1L2L5 = codes "G    6 C1C L1C C2W L2W C5Q L5Q                              SYS / # / OBS TYPES\n"
types_line GalileoE1E5a = codes "E    4 C1C L1C C5Q L5Q                                      SYS / # / OBS TYPES\n"

-- the header: the base's position (6378137 m, 0, 0), no offset of the antenna, the types and GPS time
unfoldable pub header_text : Tracking → List ℕ
header_text t =
    version_line t
    ++ (codes "  6378137.0000        0.0000        0.0000                  APPROX POSITION XYZ\n"
    ++ (codes "        0.0000        0.0000        0.0000                  ANTENNA: DELTA H/E/N\n"
    ++ (types_line t
    ++ (codes "  2024     1     1     0     0    0.0000000     GPS         TIME OF FIRST OBS\n"
    ++ codes "                                                            END OF HEADER\n"))))

-- an epoch of flag 0, `seconds` seconds after midnight, with the number of its satellites
unfoldable pub epoch_line : ℕ → ℕ → List ℕ
epoch_line seconds sats =
    codes "> 2024 01 01 " ++ (last_digits 2 (seconds / 3600) ++ (codes " " ++ (last_digits 2 (seconds / 60 % 60)
    ++ (fixed_in 11 (pos (seconds % 60 * 10000000)) 7 ++ (codes "  0" ++ (fixed_in 3 (pos sats) 0 ++ codes "\n"))))))

-- amounts in thousandths, each in 14 columns; the two columns between them, for loss of lock and signal strength, are blank
abbrev pub further_fields : List ℤ → List ℕ
further_fields [] = []
further_fields (z ∷ zs) = codes "  " ++ (fixed_in 14 z 3 ++ further_fields zs)

abbrev pub fields_text : List ℤ → List ℕ
fields_text [] = []
fields_text (z ∷ zs) = fixed_in 14 z 3 ++ further_fields zs

-- a satellite's number with two digits after the system's letter, and its amounts
unfoldable pub satellite_line : Tracking → ℕ → Signals → List ℕ
satellite_line t number s = system_letter t ∷ (last_digits 2 number ++ (fields_text (amounts_of t s) ++ codes "\n"))

-- the satellites that follow number n
abbrev pub satellite_lines : Tracking → ℕ → List Signals → List ℕ
satellite_lines t n [] = []
satellite_lines t n (s ∷ sats) = satellite_line t (n + 1) s ++ satellite_lines t (n + 1) sats

abbrev pub epoch_text : Tracking → ℕ → List Signals → List ℕ
epoch_text t seconds sats = epoch_line seconds (length sats) ++ satellite_lines t 0 sats

-- epochs from number i on, which are `step` seconds apart
abbrev pub epochs_text : Tracking → ℕ → ℕ → List (List Signals) → List ℕ
epochs_text t step i [] = []
epochs_text t step i (sats ∷ epochs) = epoch_text t (step * i) sats ++ epochs_text t step (i + 1) epochs

abbrev pub observation_text : Tracking → ℕ → List (List Signals) → List ℕ
observation_text t step epochs = header_text t ++ epochs_text t step 0 epochs

-- a number from 0 on that has room in 14 columns with three places
abbrev pub IsInColumns : ℤ → Type 0
IsInColumns z = (pos 0 ≤ℤ z) × (z <ℤ pos (10 ^ 13))

pub record AreInColumns (s : Signals) : Type 0 where
  pub code : IsInColumns s.code
  pub l1 : IsInColumns s.l1
  pub l2 : IsInColumns s.l2
  pub l5 : IsInColumns s.l5
