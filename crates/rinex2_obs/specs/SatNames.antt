-- The names of the satellites of an epoch, twelve in a line.
use Rattle.std.specs.Prelude.{ℕ, zero, suc, ◌+◌, ◌-◌, min, true, List, [], ◌∷◌, ◌++◌, Result, Ok, None, Some, if◌then◌else◌}
use Rattle.std.specs.declared.option.Option.{Option}
use Rattle.decimal_text.specs.Fixed.{are_blank}
use Rattle.rinex_head.specs.declared.place.Flaw.{Flaw}
use Rattle.rinex_head.specs.declared.place.What.TheVariants.{BadField, Twice}
use Rattle.rinex_head.specs.declared.system.System.TheVariants.{Gps}
use Rattle.rinex_head.specs.Columns.{columns}
use Rattle.rinex_head.specs.Places.{and_then, flawed}
use Rattle.obs_fields.specs.SatFields.{satellite_at}
use Rattle.rinex2_obs.specs.SatNumbers.{is_named}
use Rattle.rinex2_obs.specs.declared.sat_names.NameList.{NameList}

abbrev pub once : ℕ → List (Option ℕ) → Option ℕ → Result (Option ℕ) Flaw
once first names None = Ok None
once first names (Some n) = if is_named n names then flawed first Twice else Ok (Some n)

-- the number of the satellite whose name begins at this column, after these ones, or nothing at one of another system
abbrev pub name_in : List ℕ → ℕ → List (Option ℕ) → Result (Option ℕ) Flaw
name_in line first names = and_then (satellite_at Gps true line first) (λ number. once first names number)

-- a number of further names, from this column on
unfoldable pub names_from : List ℕ → ℕ → ℕ → List (Option ℕ) → Result (List (Option ℕ)) Flaw
names_from line first zero names = Ok names
names_from line first (suc n) names = and_then (name_in line first names) (λ name. names_from line (first + 3) n (names ++ name ∷ []))

abbrev pub name_list : List (Option ℕ) → ℕ → NameList
name_list names left = record { names = names; left = left }

-- a line has as many of the names that are due as it has room for
abbrev pub with_line : List ℕ → List (Option ℕ) → ℕ → Result NameList Flaw
with_line line names left = and_then (names_from line 33 (min 12 left) names) (λ all. Ok (name_list all (left - 12)))

-- the names in the line of an epoch, by the number of its satellites
abbrev pub first_names_of : List ℕ → ℕ → Result NameList Flaw
first_names_of line count = with_line line [] count

-- the columns before the names of a further line are blank
unfoldable pub further_mark_of : List ℕ → Result (Unit {0}) Flaw
further_mark_of line = if are_blank (columns line 1 32) then Ok tt else flawed 1 BadField

abbrev pub further_names_of : List ℕ → List (Option ℕ) → ℕ → Result NameList Flaw
further_names_of line names left = and_then (further_mark_of line) (λ u. with_line line names left)
