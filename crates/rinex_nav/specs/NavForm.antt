-- A navigation file as a grammar over the whole list of its lines: a header, then blank lines and records.
use Rattle.std.specs.Prelude.{◌≡◌, ◌≢◌, ℕ, ◌≤◌, true, false, List, [], ◌∷◌, ◌++◌, length, All, Ok}
use Rattle.decimal_text.specs.Fixed.{are_blank}
use Rattle.eph_store.specs.declared.record.Raw.{Raw}
use Rattle.rinex_head.specs.declared.system.System.{System}
use Rattle.rinex_head.specs.Systems.{letter_of}
use Rattle.rinex_head.specs.Columns.{column}
use Rattle.rinex_nav.specs.FirstLine.{first_line_of, ends_header}
use Rattle.rinex_nav.specs.RecordLines.{satellite_in, toc_in, number_in}

-- The header: the first line, lines that don't end it, and END OF HEADER.
pub record IsHeader (system : System) (lines : List (List ℕ)) : Type 0 where
  pub first : List ℕ
  pub between : List (List ℕ)
  pub last : List ℕ
  pub lines_are : lines ≡ first ∷ (between ++ last ∷ [])
  pub version : first_line_of system first ≡ Ok tt
  pub goes_on : All (λ line. ends_header line ≡ false) between
  pub ends : ends_header last ≡ true

-- column 1 is blank, as in each line of a record after its first one
abbrev pub IsFurther : List ℕ → Type 0
IsFurther line = column line 1 ≡ 32

-- the lines of a record of another system: column 1 of the first one is neither blank nor the system's letter
pub record IsOtherRecord (system : System) (first : List ℕ) (further : List (List ℕ)) : Type 0 where
  pub begins : column first 1 ≢ 32
  pub other : column first 1 ≢ letter_of system
  pub behind : All IsFurther further

-- the lines of a record of the system
pub record EightLines : Type 0 where
  pub first : List ℕ
  pub second : List ℕ
  pub third : List ℕ
  pub fourth : List ℕ
  pub fifth : List ℕ
  pub sixth : List ℕ
  pub seventh : List ℕ
  pub eighth : List ℕ

abbrev pub further_of : EightLines → List (List ℕ)
further_of l = l.second ∷ l.third ∷ l.fourth ∷ l.fifth ∷ l.sixth ∷ l.seventh ∷ l.eighth ∷ []

-- The lines are a record of the system, and these are its numbers, each in the columns from one on. Fields that aren't named
-- hold anything.
pub record IsRecord (system : System) (l : EightLines) (r : Raw) : Type 0 where
  pub letter : column l.first 1 ≡ letter_of system
  pub behind : All IsFurther (further_of l)
  pub sat : satellite_in system l.first ≡ Ok r.sat
  pub toc : toc_in l.first ≡ Ok r.toc
  pub af0 : number_in l.first 24 ≡ Ok r.af0
  pub af1 : number_in l.first 43 ≡ Ok r.af1
  pub af2 : number_in l.first 62 ≡ Ok r.af2
  pub crs : number_in l.second 24 ≡ Ok r.crs
  pub dn : number_in l.second 43 ≡ Ok r.dn
  pub m0 : number_in l.second 62 ≡ Ok r.m0
  pub cuc : number_in l.third 5 ≡ Ok r.cuc
  pub ecc : number_in l.third 24 ≡ Ok r.ecc
  pub cus : number_in l.third 43 ≡ Ok r.cus
  pub root_a : number_in l.third 62 ≡ Ok r.root_a
  pub toe_s : number_in l.fourth 5 ≡ Ok r.toe_s
  pub cic : number_in l.fourth 24 ≡ Ok r.cic
  pub node : number_in l.fourth 43 ≡ Ok r.node
  pub cis : number_in l.fourth 62 ≡ Ok r.cis
  pub incl : number_in l.fifth 5 ≡ Ok r.incl
  pub crc : number_in l.fifth 24 ≡ Ok r.crc
  pub peri : number_in l.fifth 43 ≡ Ok r.peri
  pub node_rate : number_in l.fifth 62 ≡ Ok r.node_rate
  pub incl_rate : number_in l.sixth 5 ≡ Ok r.incl_rate
  pub week : number_in l.sixth 43 ≡ Ok r.week
  pub health : number_in l.seventh 24 ≡ Ok r.health

-- a blank line; a record of another system, with its further lines; a record of the system, which is read
pub data Part : Type 0 where
  Blank : List ℕ → Part
  Other : List ℕ → List (List ℕ) → Part
  Read : EightLines → Raw → Part

abbrev pub IsPart : System → Part → Type 0
IsPart system (Blank line) = are_blank line ≡ true
IsPart system (Other first further) = IsOtherRecord system first further
IsPart system (Read lines raw) = IsRecord system lines raw

abbrev pub lines_of_part : Part → List (List ℕ)
lines_of_part (Blank line) = line ∷ []
lines_of_part (Other first further) = first ∷ further
lines_of_part (Read lines raw) = lines.first ∷ further_of lines

abbrev pub body_lines : List Part → List (List ℕ)
body_lines [] = []
body_lines (p ∷ parts) = lines_of_part p ++ body_lines parts

-- the records of the system
abbrev pub records_of : List Part → List Raw
records_of [] = []
records_of (Blank line ∷ parts) = records_of parts
records_of (Other first further ∷ parts) = records_of parts
records_of (Read lines raw ∷ parts) = raw ∷ records_of parts

-- No line is too long, the lines are a header and a body, and its records of the system are these, at most 4,096.
pub record IsNavFile (system : System) (lines : List (List ℕ)) (records : List Raw) : Type 0 where
  pub header : List (List ℕ)
  pub parts : List Part
  pub short : All (λ line. length line ≤ 4096) lines
  pub lines_are : lines ≡ header ++ body_lines parts
  pub is_header : IsHeader system header
  pub are_parts : All (IsPart system) parts
  pub records_are : records ≡ records_of parts
  pub few : length records ≤ 4096

-- the lines are those of some file
abbrev pub HasNavFile : System → List (List ℕ) → Type 0
HasNavFile system lines = (records : List Raw) × IsNavFile system lines records
