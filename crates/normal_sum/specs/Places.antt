-- The places of integers, and a write at one.
use Rattle.std.specs.Prelude.{◌≡◌, ℕ, ◌+◌, ◌*◌, ◌<◌, if◌then◌else◌, ℤ, List, length, Option, Some, None, set, slice_get, slice_index_or}
use Rattle.std.specs.Option.{option_map}
use Rattle.obs_rows.specs.declared.arcs.Arc.{Arc}
use Rattle.obs_rows.specs.declared.rows.Row.{Row}
use Rattle.obs_rows.specs.Arcs.{free_before}
use Rattle.obs_rows.specs.Integers.{is_some_free, integer_place}

-- the place of the first integer of arc k, where each free arc has as many as there are phases; a datum has none
abbrev pub first_place : List Arc → ℕ → ℕ → Option ℕ
first_place arcs n k = if is_some_free (slice_get arcs k) then Some (n * free_before arcs k) else None

-- the place of an integer, from that of its arc's first and of its phase among the phases
abbrev pub place_from : Option ℕ → Option ℕ → Option ℕ
place_from (Some first) phase = option_map (λ j. first + j) phase
place_from None phase = None

-- for each row the place of its integer as signal s sees it
abbrev pub ArePlaces : List Arc → List ℕ → ℕ → List Row → List (Option ℕ) → Type 0
ArePlaces arcs ss s rows places = (k : ℕ) (d : Row) → k < length rows → slice_index_or places k None ≡ integer_place arcs ss (slice_index_or rows k d).arc s

-- the same from the place of the first integer of each row's arc, and that of the signal among the phases
abbrev pub ArePlacesFrom : List Arc → List ℕ → ℕ → List Row → List (Option ℕ) → Option ℕ → Type 0
ArePlacesFrom arcs ss s rows firsts phase = (k : ℕ) (d : Row) → k < length rows → place_from (slice_index_or firsts k None) phase ≡ integer_place arcs ss (slice_index_or rows k d).arc s

-- no row has an integer as signal s sees it
abbrev pub SeesNone : List Arc → List ℕ → ℕ → List Row → Type 0
SeesNone arcs ss s rows = (k : ℕ) (d : Row) → k < length rows → integer_place arcs ss (slice_index_or rows k d).arc s ≡ None

-- the value at the column of integer i, after the three columns of the baseline
abbrev pub put_at : List ℤ → Option ℕ → ℤ → List ℤ
put_at values (Some i) value = set values (3 + i) value
put_at values None value = values
