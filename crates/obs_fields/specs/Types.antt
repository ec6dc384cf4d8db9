-- The list of the observation types of a system.
use Rattle.std.specs.Prelude.{ℕ, zero, suc, ◌+◌, ◌-◌, ◌&&◌, nat_le, min, Bool, true, false, List, [], ◌∷◌, ◌++◌, map, Result, Ok, Err, None, Some, if◌then◌else◌}
use Rattle.std.specs.declared.option.Option.{Option}
use Rattle.std.specs.Str.{bytes_eq}
use Rattle.std.specs.List.{list_any}
use Rattle.obs_store.specs.declared.kinds.ObsType.{ObsType}
use Rattle.obs_store.specs.declared.kinds.ObsType.TheVariants.{C1C, C1X, L1C, L1X, C5Q, C5X, C5I, L5Q, L5X, L5I, C1W, C1S, C1L, L1W, L1S, L1L, C2W, C2X, C2L, C2S, C2C, L2W, L2X, L2L, L2S, L2C}
use Rattle.obs_store.specs.Kinds.{kept_types, name_of, kept_type_of}
use Rattle.rinex_head.specs.declared.place.Flaw.{Flaw}
use Rattle.rinex_head.specs.declared.place.What.TheVariants.{Types}
use Rattle.rinex_head.specs.Places.{and_then, flawed}
use Rattle.decimal_text.specs.Fixed.{are_blank}
use Rattle.rinex_head.specs.declared.system.System.{System}
use Rattle.rinex_head.specs.declared.system.System.TheVariants.{Gps, Galileo}
use Rattle.rinex_head.specs.Fields.{whole_of}
use Rattle.obs_fields.specs.Labels.{label_in}
use Rattle.obs_fields.specs.Layouts.{first_name_of, name_step_of, names_in_line_of, name_in, types_column_of, types_count_in, further_mark_in}
use Rattle.obs_fields.specs.declared.layout.Layout.{Layout}
use Rattle.obs_fields.specs.declared.labels.Label.{Label}
use Rattle.obs_fields.specs.declared.labels.Label.TheVariants as label
use Rattle.obs_fields.specs.declared.types.TypeList.{TypeList}
use Rattle.obs_fields.specs.declared.types.KeptType.{KeptType}
use Rattle.obs_fields.specs.declared.types.TheConstants.{MOST_TYPES}

-- a name of three bytes is among these
unfoldable pub is_listed : List (List ℕ) → List ℕ → Bool
is_listed names name = list_any (λ n. bytes_eq n name) names

-- a number of further names, from this column on; none twice
unfoldable pub names_from : Layout → List ℕ → ℕ → ℕ → List (List ℕ) → Result (List (List ℕ)) Flaw
names_from layout line first zero names = Ok names
names_from layout line first (suc n) names =
    if is_listed names (name_in layout line first) then flawed first Types
    else names_from layout line (first + name_step_of layout) n (names ++ name_in layout line first ∷ [])

abbrev pub type_list : List (List ℕ) → ℕ → TypeList
type_list names left = record { names = names; left = left }

-- a line has as many of the names that are due as it has room for
abbrev pub with_line : Layout → List ℕ → List (List ℕ) → ℕ → Result TypeList Flaw
with_line layout line names left =
    and_then (names_from layout line (first_name_of layout) (min (names_in_line_of layout) left) names) (λ all. Ok (type_list all (left - names_in_line_of layout)))

-- how many types are listed, in a field that begins at this column: 1 to 200
abbrev pub count_from : ℕ → Result (Option ℕ) Flaw → Result ℕ Flaw
count_from first (Ok (Some n)) = if nat_le 1 n && nat_le n MOST_TYPES then Ok n else flawed first Types
count_from first (Ok None) = flawed first Types
count_from first (Err flaw) = flawed first Types

abbrev pub first_types_of : Layout → List ℕ → Result TypeList Flaw
first_types_of layout line =
    and_then (count_from (types_column_of layout) (whole_of (types_column_of layout) (types_count_in layout line))) (λ n. with_line layout line [] n)

-- where further names are due: a comment, or a line with the same label and a blank mark
abbrev pub further_by : Layout → List ℕ → List (List ℕ) → ℕ → Label → Result TypeList Flaw
further_by layout line names left label.Comment = Ok (type_list names left)
further_by layout line names left label.Types = if are_blank (further_mark_in layout line) then with_line layout line names left else flawed 1 Types
further_by layout line names left label.End = flawed 1 Types
further_by layout line names left label.Position = flawed 1 Types
further_by layout line names left label.Delta = flawed 1 Types
further_by layout line names left label.Factor = flawed 1 Types
further_by layout line names left label.FirstObs = flawed 1 Types
further_by layout line names left label.Other = flawed 1 Types

abbrev pub further_types_of : Layout → List ℕ → List (List ℕ) → ℕ → Result TypeList Flaw
further_types_of layout line names left = further_by layout line names left (label_in layout line)

-- whether a type is kept of a system: of Galileo the ones of E1 and E5a
abbrev pub keeps : System → ObsType → Bool
keeps Gps kind = true
keeps Galileo C1C = true
keeps Galileo C1W = false
keeps Galileo C1X = true
keeps Galileo C1S = false
keeps Galileo C1L = false
keeps Galileo L1C = true
keeps Galileo L1W = false
keeps Galileo L1X = true
keeps Galileo L1S = false
keeps Galileo L1L = false
keeps Galileo C2W = false
keeps Galileo C2X = false
keeps Galileo C2L = false
keeps Galileo C2S = false
keeps Galileo C2C = false
keeps Galileo L2W = false
keeps Galileo L2X = false
keeps Galileo L2L = false
keeps Galileo L2S = false
keeps Galileo L2C = false
keeps Galileo C5Q = true
keeps Galileo C5X = true
keeps Galileo C5I = true
keeps Galileo L5Q = true
keeps Galileo L5X = true
keeps Galileo L5I = true

abbrev pub if_kept : System → Option ObsType → Option ObsType
if_kept system None = None
if_kept system (Some kind) = if keeps system kind then Some kind else None

-- the type of that name that is kept of the system
abbrev pub kept_type_in : System → List ℕ → Option ObsType
kept_type_in system name = if_kept system (kept_type_of name)

-- the kept types of a list that begins with this number, each with its number
abbrev pub kept_at : ℕ → Option ObsType → List KeptType
kept_at number None = []
kept_at number (Some kind) = record { number = number; kind = kind } ∷ []

unfoldable pub kept_from : System → ℕ → List (List ℕ) → List KeptType
kept_from system number [] = []
kept_from system number (name ∷ names) = kept_at number (kept_type_in system name) ++ kept_from system (number + 1) names

abbrev pub is_kept_name : System → List (List ℕ) → ObsType → Bool
is_kept_name system names kind = keeps system kind && is_listed names (name_of kind)

-- whether each type is listed and kept, in the order of the slots
unfoldable pub listed_of : System → List (List ℕ) → List Bool
listed_of system names = map (λ kind. is_kept_name system names kind) kept_types
