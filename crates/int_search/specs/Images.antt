-- Vectors under a map.
use Rattle.std.specs.Prelude.{ℕ, ◌^◌, List, take, ℤ}
use Rattle.quadratic_form.specs.Maps.{apply}
use Rattle.quadratic_form.specs.Matrices.{EntriesBelow}
use Rattle.quadratic_form.specs.Tables.{HasShape}
use Rattle.quadratic_form.specs.declared.sizes.TheConstants.{MOST_INTEGERS}

-- the vector v of n entries under the map whose n rows of n entries stand in the table
abbrev pub image_of : List (List ℤ) → ℕ → List ℤ → List ℤ
image_of map n v = apply (take n map) v

-- a table of a map, each entry below 2^30 in size
pub record IsMap (map : List (List ℤ)) : Type 0 where
  pub shape : HasShape MOST_INTEGERS MOST_INTEGERS map
  pub entries : EntriesBelow (2 ^ 30) map
