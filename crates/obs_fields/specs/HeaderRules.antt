-- What each line of a header must be in its place.
use Rattle.std.specs.Prelude.{ℕ, ℤ, pos, zero, suc, List, [], ◌∷◌, Result, Ok, None, Some}
use Rattle.std.specs.declared.option.Option.{Option}
use Rattle.rinex_head.specs.declared.place.Flaw.{Flaw}
use Rattle.rinex_head.specs.declared.place.What.{What}
use Rattle.rinex_head.specs.declared.place.What.TheVariants.{NoEnd, Types}
use Rattle.rinex_head.specs.declared.system.System.{System}
use Rattle.rinex_head.specs.Systems.{none_listed, bad_version}
use Rattle.rinex_head.specs.Places.{and_then, flawed}
use Rattle.obs_fields.specs.declared.layout.Layout.{Layout}
use Rattle.obs_fields.specs.declared.layout.Layout.TheVariants.{Rinex2, Rinex3}
use Rattle.obs_fields.specs.FirstLine.{first_line_of}
use Rattle.obs_fields.specs.HeaderLines.{header_line_of}
use Rattle.obs_fields.specs.Types.{first_types_of, further_types_of}
use Rattle.obs_fields.specs.declared.header.Header.{Header}
use Rattle.obs_fields.specs.declared.header_lines.HeaderLine.{HeaderLine}
use Rattle.obs_fields.specs.declared.header_lines.HeaderLine.TheVariants as header

-- what the lines of a header have said so far
pub record HeaderSoFar : Type 0 where
  pub system : System
  pub hundredths : ℕ
  pub position : Option (List ℤ)
  pub delta : List ℤ
  pub types : Option (List (List ℕ))

abbrev pub so_far : System → ℕ → Option (List ℤ) → List ℤ → Option (List (List ℕ)) → HeaderSoFar
so_far system hundredths position delta types = record { system = system; hundredths = hundredths; position = position; delta = delta; types = types }

-- a header of which nothing was read but its first line
abbrev pub bare_header : System → ℕ → HeaderSoFar
bare_header system hundredths = so_far system hundredths None (pos 0 ∷ pos 0 ∷ pos 0 ∷ []) None

abbrev pub with_position : HeaderSoFar → Option (List ℤ) → HeaderSoFar
with_position h position = so_far h.system h.hundredths position h.delta h.types

abbrev pub with_delta : HeaderSoFar → List ℤ → HeaderSoFar
with_delta h delta = so_far h.system h.hundredths h.position delta h.types

abbrev pub with_types : HeaderSoFar → List (List ℕ) → HeaderSoFar
with_types h types = so_far h.system h.hundredths h.position h.delta (Some types)

abbrev pub whole_header : HeaderSoFar → List (List ℕ) → Header
whole_header h types = record { system = h.system; hundredths = h.hundredths; position = h.position; delta = h.delta; types = types }

-- What may be expected in a header: the first line, with which the reading of a system's satellites begins; the next line; further types, in a
-- further line of the list, by their number.
pub data InHeader : Type 0 where
  First : System → InHeader
  Next : HeaderSoFar → InHeader
  More : HeaderSoFar → List (List ℕ) → ℕ → InHeader

-- after a line of the header: more of it is expected, or it is whole
pub data AfterLine : Type 0 where
  Inside : InHeader → AfterLine
  Whole : Header → AfterLine

-- after a list's line, by the number of types that are still due
abbrev pub more_types : HeaderSoFar → List (List ℕ) → ℕ → InHeader
more_types h names zero = Next (with_types h names)
more_types h names (suc n) = More h names (suc n)

-- the list of the system's types must stand once
abbrev pub begun_list : Layout → HeaderSoFar → List ℕ → Option (List (List ℕ)) → Result AfterLine Flaw
begun_list layout h bytes None = and_then (first_types_of layout bytes) (λ list. Ok (Inside (more_types h list.names list.left)))
begun_list layout h bytes (Some types) = flawed 1 Types

-- where it is missing
abbrev pub missing_list : Layout → System → What
missing_list Rinex2 system = Types
missing_list Rinex3 system = none_listed system

abbrev pub ended_header : Layout → HeaderSoFar → Option (List (List ℕ)) → Result AfterLine Flaw
ended_header layout h None = flawed 1 (missing_list layout h.system)
ended_header layout h (Some types) = Ok (Whole (whole_header h types))

abbrev pub after_line : Layout → HeaderSoFar → List ℕ → HeaderLine → Result AfterLine Flaw
after_line layout h bytes header.End = ended_header layout h h.types
after_line layout h bytes (header.Position p) = Ok (Inside (Next (with_position h p)))
after_line layout h bytes (header.Delta d) = Ok (Inside (Next (with_delta h d)))
after_line layout h bytes header.Types = begun_list layout h bytes h.types
after_line layout h bytes header.Skipped = Ok (Inside (Next h))

abbrev pub admit_header : Layout → InHeader → List ℕ → Result AfterLine Flaw
admit_header layout (First system) bytes = and_then (first_line_of layout system bytes) (λ hundredths. Ok (Inside (Next (bare_header system hundredths))))
admit_header layout (Next h) bytes = and_then (header_line_of layout h.system bytes) (λ l. after_line layout h bytes l)
admit_header layout (More h names n) bytes = and_then (further_types_of layout bytes names n) (λ list. Ok (Inside (more_types h list.names list.left)))

-- why a text that ends there is refused
abbrev pub missing_line : InHeader → What
missing_line (First system) = bad_version system
missing_line (Next h) = NoEnd
missing_line (More h names n) = NoEnd
