-- What the two formats of observation files place differently.
use Rattle.std.specs.Prelude.{ℕ, ◌+◌, ◌*◌, ◌/◌, ◌%◌, ◌==◌, List, [], ◌∷◌, ◌++◌, codes, None, Some, if◌then◌else◌}
use Rattle.std.specs.declared.option.Option.{Option}
use Rattle.rinex_head.specs.Columns.{columns}
use Rattle.obs_fields.specs.declared.layout.Layout.{Layout}
use Rattle.obs_fields.specs.declared.layout.Layout.TheVariants.{Rinex2, Rinex3}

-- the names of types in a line: the column of the first one, the step to the next, and how many there are
abbrev pub first_name_of : Layout → ℕ
first_name_of Rinex2 = 11
first_name_of Rinex3 = 8

abbrev pub name_step_of : Layout → ℕ
name_step_of Rinex2 = 6
name_step_of Rinex3 = 4

abbrev pub names_in_line_of : Layout → ℕ
names_in_line_of Rinex2 = 9
names_in_line_of Rinex3 = 13

-- a name of two letters has a blank after it
abbrev pub name_in : Layout → List ℕ → ℕ → List ℕ
name_in Rinex2 line first = columns line first 2 ++ 32 ∷ []
name_in Rinex3 line first = columns line first 3

-- the count of types: its first column, and its columns
abbrev pub types_column_of : Layout → ℕ
types_column_of Rinex2 = 1
types_column_of Rinex3 = 4

abbrev pub types_count_in : Layout → List ℕ → List ℕ
types_count_in Rinex2 line = columns line 1 6
types_count_in Rinex3 line = columns line 4 3

-- the columns that are blank in a further line of a list of types
abbrev pub further_mark_in : Layout → List ℕ → List ℕ
further_mark_in Rinex2 line = columns line 1 6
further_mark_in Rinex3 line = columns line 1 1

-- the line of an epoch or an event: the column of its count, and that at which a bad date is refused
abbrev pub count_column_of : Layout → ℕ
count_column_of Rinex2 = 30
count_column_of Rinex3 = 33

abbrev pub date_column_of : Layout → ℕ
date_column_of Rinex2 = 2
date_column_of Rinex3 = 3

-- the column of the value of type number k from 0, if it stands in line number at, from 0, of its satellite
abbrev pub value_column : Layout → ℕ → ℕ → Option ℕ
value_column Rinex2 at k = if k / 5 == at then Some (1 + 16 * (k % 5)) else None
value_column Rinex3 at k = Some (4 + 16 * k)

-- the labels of a list of types, and of the factors of the values
abbrev pub types_label_of : Layout → List ℕ
types_label_of Rinex2 = codes "# / TYPES OF OBSERV"
types_label_of Rinex3 = codes "SYS / # / OBS TYPES"

abbrev pub factor_label_of : Layout → List ℕ
factor_label_of Rinex2 = codes "WAVELENGTH FACT L1/2"
factor_label_of Rinex3 = codes "SYS / SCALE FACTOR"
