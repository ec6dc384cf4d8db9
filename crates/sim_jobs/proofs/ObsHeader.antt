-- The header, read again.
use Rattle.std.proofs.Common.{◌≡◌, ℕ, pos, ◌≤◌, true, List, [], ◌∷◌, ◌++◌, length, map, Ok, Some, refl, ap, ◌∙◌, arith}
use Rattle.std.specs.Prelude.{codes}
use Rattle.line_source.specs.Lines.{lines_of}
use Rattle.obs_store.specs.Kinds.{name_of}
use Rattle.rinex_head.specs.Columns.{padded}
use Rattle.rinex_head.specs.Head.{trimmed}
use Rattle.rinex_head.specs.Fields.{fixed_in}
use Rattle.obs_fields.specs.declared.layout.Layout.TheVariants.{Rinex3}
use Rattle.obs_fields.specs.Labels.{label_in}
use Rattle.obs_fields.specs.Offsets.{position_in, offset_in, delta_in}
use Rattle.obs_fields.specs.Types.{is_listed, names_from, first_types_of, type_list, kept_from}
use Rattle.obs_fields.specs.FirstLine.{first_line_of}
use Rattle.obs_fields.specs.HeaderLines.{header_line_of}
use Rattle.obs_fields.specs.HeaderForm.{IsHeader}
use Rattle.obs_fields.specs.declared.header.Header.{Header}
use Rattle.obs_fields.specs.declared.header_lines.HeaderLine.TheVariants as header
use Rattle.sim_session.specs.declared.signals.Tracking.{Tracking}
use Rattle.sim_session.specs.declared.signals.Tracking.TheVariants.{GpsL1L2, GpsL1L2L5, GalileoE1E5a}
use Rattle.sim_session.specs.Tracked.{system_letter}
use Rattle.sim_session.specs.ObservationText.{version_line, types_line, header_text}
use Rattle.sim_jobs.specs.Printed.{are_printed}
use Rattle.sim_jobs.proofs.Printed.{line_first}
use Rattle.sim_jobs.specs.ObsFiles.{system_in, types_of}
use Rattle.sim_jobs.proofs.ObsSatellites.{the_kept}

line_1 : Tracking → List ℕ
line_1 t = codes "     3.04           OBSERVATION DATA    " ++ system_letter t ∷ codes "                   RINEX VERSION / TYPE"

line_2 : List ℕ
line_2 = codes "  6378137.0000        0.0000        0.0000                  APPROX POSITION XYZ"

line_3 : List ℕ
line_3 = codes "        0.0000        0.0000        0.0000                  ANTENNA: DELTA H/E/N"

line_4 : Tracking → List ℕ
line_4 GpsL1L2 = codes "G    4 C1C L1C C2W L2W                                      SYS / # / OBS TYPES"
line_4 GpsL1L2L5 = codes "G    6 C1C L1C C2W L2W C5Q L5Q                              SYS / # / OBS TYPES"
line_4 GalileoE1E5a = codes "E    4 C1C L1C C5Q L5Q                                      SYS / # / OBS TYPES"

line_5 : List ℕ
line_5 = codes "  2024     1     1     0     0    0.0000000     GPS         TIME OF FIRST OBS"

line_6 : List ℕ
line_6 = codes "                                                            END OF HEADER"

pub lines : Tracking → List (List ℕ)
lines t = line_1 t ∷ line_2 ∷ line_3 ∷ line_4 t ∷ line_5 ∷ line_6 ∷ []

text_is : (t : Tracking) (rest : List ℕ) → header_text t ++ rest ≡ line_1 t ++ 10 ∷ (line_2 ++ 10 ∷ (line_3 ++ 10 ∷ (line_4 t ++ 10 ∷ (line_5 ++ 10 ∷ (line_6 ++ 10 ∷ rest)))))
unfolding header_text version_line types_line line_1 line_2 line_3 line_4 line_5 line_6
text_is GpsL1L2 rest = refl
text_is GpsL1L2L5 rest = refl
text_is GalileoE1E5a rest = refl

printed_1 : (t : Tracking) → are_printed (line_1 t) ≡ true
unfolding line_1
printed_1 GpsL1L2 = refl
printed_1 GpsL1L2L5 = refl
printed_1 GalileoE1E5a = refl

printed_4 : (t : Tracking) → are_printed (line_4 t) ≡ true
unfolding line_4
printed_4 GpsL1L2 = refl
printed_4 GpsL1L2L5 = refl
printed_4 GalileoE1E5a = refl

read_2 : (rest : List ℕ) → lines_of (line_2 ++ 10 ∷ rest) ≡ line_2 ∷ lines_of rest
unfolding line_2
read_2 rest = line_first line_2 rest refl

read_3 : (rest : List ℕ) → lines_of (line_3 ++ 10 ∷ rest) ≡ line_3 ∷ lines_of rest
unfolding line_3
read_3 rest = line_first line_3 rest refl

read_5 : (rest : List ℕ) → lines_of (line_5 ++ 10 ∷ rest) ≡ line_5 ∷ lines_of rest
unfolding line_5
read_5 rest = line_first line_5 rest refl

read_6 : (rest : List ℕ) → lines_of (line_6 ++ 10 ∷ rest) ≡ line_6 ∷ lines_of rest
unfolding line_6
read_6 rest = line_first line_6 rest refl

pub header_read : (t : Tracking) (rest : List ℕ) → lines_of (header_text t ++ rest) ≡ lines t ++ lines_of rest
unfolding lines
header_read t rest =
    ap lines_of (text_is t rest)
    ∙ line_first (line_1 t) (line_2 ++ 10 ∷ (line_3 ++ 10 ∷ (line_4 t ++ 10 ∷ (line_5 ++ 10 ∷ (line_6 ++ 10 ∷ rest))))) (printed_1 t)
    ∙ ap (λ (l : List (List ℕ)). line_1 t ∷ l) (read_2 (line_3 ++ 10 ∷ (line_4 t ++ 10 ∷ (line_5 ++ 10 ∷ (line_6 ++ 10 ∷ rest))))
    ∙ ap (λ (l : List (List ℕ)). line_2 ∷ l) (read_3 (line_4 t ++ 10 ∷ (line_5 ++ 10 ∷ (line_6 ++ 10 ∷ rest)))
    ∙ ap (λ (l : List (List ℕ)). line_3 ∷ l) (line_first (line_4 t) (line_5 ++ 10 ∷ (line_6 ++ 10 ∷ rest)) (printed_4 t)
    ∙ ap (λ (l : List (List ℕ)). line_4 t ∷ l) (read_5 (line_6 ++ 10 ∷ rest)
    ∙ ap (λ (l : List (List ℕ)). line_5 ∷ l) (read_6 rest)))))

unfoldable pub names : Tracking → List (List ℕ)
names t = map name_of (types_of t)

unfoldable pub the_header : Tracking → Header
the_header t = record { system = system_in t; hundredths = 304; position = Some (pos 63781370000 ∷ pos 0 ∷ pos 0 ∷ []); delta = pos 0 ∷ pos 0 ∷ pos 0 ∷ []; types = names t }

pub system_is : (t : Tracking) → (the_header t).system ≡ system_in t
unfolding the_header
system_is t = refl

pub kept_are : (t : Tracking) → kept_from (system_in t) 0 (the_header t).types ≡ the_kept t
unfolding the_header names the_kept kept_from
kept_are GpsL1L2 = refl
kept_are GpsL1L2L5 = refl
kept_are GalileoE1E5a = refl

version_is : (t : Tracking) → first_line_of Rinex3 (system_in t) (line_1 t) ≡ Ok 304
unfolding line_1 first_line_of padded trimmed
version_is GpsL1L2 = refl
version_is GpsL1L2L5 = refl
version_is GalileoE1E5a = refl

position_is : (t : Tracking) → header_line_of Rinex3 (system_in t) line_2 ≡ Ok (header.Position (Some (pos 63781370000 ∷ pos 0 ∷ pos 0 ∷ [])))
unfolding line_2 header_line_of label_in position_in fixed_in padded trimmed
position_is t = refl

delta_is : (t : Tracking) → header_line_of Rinex3 (system_in t) line_3 ≡ Ok (header.Delta (pos 0 ∷ pos 0 ∷ pos 0 ∷ []))
unfolding line_3 header_line_of label_in delta_in offset_in padded trimmed
delta_is t = refl

types_are : (t : Tracking) → header_line_of Rinex3 (system_in t) (line_4 t) ≡ Ok header.Types
unfolding line_4 header_line_of label_in padded trimmed
types_are GpsL1L2 = refl
types_are GpsL1L2L5 = refl
types_are GalileoE1E5a = refl

names_are : (t : Tracking) → first_types_of Rinex3 (line_4 t) ≡ Ok (type_list (names t) 0)
unfolding line_4 names names_from is_listed padded
names_are GpsL1L2 = refl
names_are GpsL1L2L5 = refl
names_are GalileoE1E5a = refl

time_is : (t : Tracking) → header_line_of Rinex3 (system_in t) line_5 ≡ Ok header.Skipped
unfolding line_5 header_line_of label_in padded trimmed
time_is GpsL1L2 = refl
time_is GpsL1L2L5 = refl
time_is GalileoE1E5a = refl

ends_is : (t : Tracking) → header_line_of Rinex3 (system_in t) line_6 ≡ Ok header.End
unfolding line_6 header_line_of label_in padded trimmed
ends_is t = refl

short_1 : (t : Tracking) → length (line_1 t) ≤ 4096
unfolding line_1
short_1 t = omega arith

short_2 : length line_2 ≤ 4096
unfolding line_2
short_2 = omega arith

short_3 : length line_3 ≤ 4096
unfolding line_3
short_3 = omega arith

short_4 : (t : Tracking) → length (line_4 t) ≤ 4096
unfolding line_4
short_4 GpsL1L2 = omega arith
short_4 GpsL1L2L5 = omega arith
short_4 GalileoE1E5a = omega arith

short_5 : length line_5 ≤ 4096
unfolding line_5
short_5 = omega arith

short_6 : length line_6 ≤ 4096
unfolding line_6
short_6 = omega arith

pub header_is : (t : Tracking) → IsHeader Rinex3 (lines t) (the_header t)
unfolding lines the_header
header_is t = record {
  first = line_1 t;
  before = record { bytes = line_2; meaning = header.Position (Some (pos 63781370000 ∷ pos 0 ∷ pos 0 ∷ [])) } ∷ record { bytes = line_3; meaning = header.Delta (pos 0 ∷ pos 0 ∷ pos 0 ∷ []) } ∷ [];
  list = line_4 t;
  further = [];
  after = record { bytes = line_5; meaning = header.Skipped } ∷ [];
  last = line_6;
  lines_are = refl;
  first_short = short_1 t;
  version = version_is t;
  before_are = (short_2, position_is t, tt, (short_3, delta_is t, tt, tt));
  types = record { short = short_4 t; begins = types_are t; list = type_list (names t) 0; first = names_are t; others = (refl, refl) };
  after_are = (short_5, time_is t, tt, tt);
  last_short = short_6;
  ends = ends_is t;
  position = refl;
  delta = refl;
}
