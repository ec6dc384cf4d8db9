-- A header as a grammar over the list of its lines.
use Rattle.std.specs.Prelude.{◌≡◌, ℕ, ℤ, pos, ◌<◌, ◌≤◌, List, [], ◌∷◌, ◌++◌, length, Ok, None}
use Rattle.std.specs.declared.option.Option.{Option}
use Rattle.rinex_head.specs.declared.system.System.{System}
use Rattle.obs_fields.specs.FirstLine.{first_line_of}
use Rattle.obs_fields.specs.HeaderLines.{header_line_of}
use Rattle.obs_fields.specs.Types.{first_types_of, further_types_of}
use Rattle.obs_fields.specs.declared.header.Header.{Header}
use Rattle.obs_fields.specs.declared.header_lines.HeaderLine.{HeaderLine}
use Rattle.obs_fields.specs.declared.header_lines.HeaderLine.TheVariants as header
use Rattle.obs_fields.specs.declared.layout.Layout.{Layout}
use Rattle.obs_fields.specs.declared.types.TypeList.{TypeList}

-- ---- lines outside the list of types

-- a line of the header, and what it says
pub record HeadPart : Type 0 where
  pub bytes : List ℕ
  pub meaning : HeaderLine

-- a position, a delta, or nothing that counts
abbrev pub IsPlain : HeaderLine → Type 0
IsPlain header.End = ⊥
IsPlain (header.Position p) = Unit {0}
IsPlain (header.Delta d) = Unit {0}
IsPlain header.Types = ⊥
IsPlain header.Skipped = Unit {0}

abbrev pub AreHeadParts : Layout → System → List HeadPart → Type 0
AreHeadParts layout system [] = Unit {0}
AreHeadParts layout system (p ∷ ps) = (length p.bytes ≤ 4096) × (header_line_of layout system p.bytes ≡ Ok p.meaning) × IsPlain p.meaning × AreHeadParts layout system ps

abbrev pub head_lines : List HeadPart → List (List ℕ)
head_lines [] = []
head_lines (p ∷ ps) = p.bytes ∷ head_lines ps

-- the last position and the last delta of such lines, or those before them
abbrev pub position_by : Option (List ℤ) → HeaderLine → Option (List ℤ)
position_by before header.End = before
position_by before (header.Position p) = p
position_by before (header.Delta d) = before
position_by before header.Types = before
position_by before header.Skipped = before

abbrev pub delta_by : List ℤ → HeaderLine → List ℤ
delta_by before header.End = before
delta_by before (header.Position p) = before
delta_by before (header.Delta d) = d
delta_by before header.Types = before
delta_by before header.Skipped = before

abbrev pub last_position : Option (List ℤ) → List HeadPart → Option (List ℤ)
last_position before [] = before
last_position before (p ∷ ps) = last_position (position_by before p.meaning) ps

abbrev pub last_delta : List ℤ → List HeadPart → List ℤ
last_delta before [] = before
last_delta before (p ∷ ps) = last_delta (delta_by before p.meaning) ps

-- ---- the list of types

-- the further lines of a list of types, after which all its names are there
abbrev pub AreFurther : Layout → List (List ℕ) → List (List ℕ) → ℕ → List (List ℕ) → Type 0
AreFurther layout [] names left all = (left ≡ 0) × (names ≡ all)
AreFurther layout (bytes ∷ lines) names left all =
    (0 < left) × (length bytes ≤ 4096) × ((list : TypeList) × (further_types_of layout bytes names left ≡ Ok list) × AreFurther layout lines list.names list.left all)

-- the lines of the list of types
pub record IsTypeList (layout : Layout) (system : System) (bytes : List ℕ) (further : List (List ℕ)) (types : List (List ℕ)) : Type 0 where
  pub short : length bytes ≤ 4096
  pub begins : header_line_of layout system bytes ≡ Ok header.Types
  pub list : TypeList
  pub first : first_types_of layout bytes ≡ Ok list
  pub others : AreFurther layout further list.names list.left types

-- ---- the header

-- The header: the first line, then lines among which the system's list of types stands once, then END OF HEADER.
pub record IsHeader (layout : Layout) (lines : List (List ℕ)) (h : Header) : Type 0 where
  pub first : List ℕ
  pub before : List HeadPart
  pub list : List ℕ
  pub further : List (List ℕ)
  pub after : List HeadPart
  pub last : List ℕ
  pub lines_are : lines ≡ first ∷ (head_lines before ++ (list ∷ (further ++ (head_lines after ++ (last ∷ [])))))
  pub first_short : length first ≤ 4096
  pub version : first_line_of layout h.system first ≡ Ok h.hundredths
  pub before_are : AreHeadParts layout h.system before
  pub types : IsTypeList layout h.system list further h.types
  pub after_are : AreHeadParts layout h.system after
  pub last_short : length last ≤ 4096
  pub ends : header_line_of layout h.system last ≡ Ok header.End
  pub position : h.position ≡ last_position (last_position None before) after
  pub delta : h.delta ≡ last_delta (last_delta (pos 0 ∷ pos 0 ∷ pos 0 ∷ []) before) after
