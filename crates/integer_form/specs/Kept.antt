-- What the types of the forms keep.
use Rattle.std.specs.Prelude.{◌≡◌, ◌⊎◌, ℕ, suc, ◌-◌, ◌^◌, ◌<◌, ◌≤◌, List, [], ◌∷◌, ℤ, pos, ◌≤ℤ◌, Ok, slice_index_or}
use Rattle.quadratic_form.specs.Forms.{Column}
use Rattle.quadratic_form.specs.Elimination.{steps}
use Rattle.quadratic_form.specs.Places.{form_from}
use Rattle.quadratic_form.specs.Tables.{entry}
use Rattle.integer_form.specs.Factors.{stored}

-- the form of the first n columns of a table
abbrev pub form_of_table : List (List ℤ) → ℕ → List Column
form_of_table p n = form_from (entry p) 0 n

-- a form of one column, the constant
abbrev pub constant_form : ℤ → List Column
constant_form g = record { own = g; others = [] } ∷ []

-- the steps of the integer columns, from the form of the table p, give exactly the stored factors and leave g
abbrev pub IsEliminated : ℕ → List ℤ → List (List ℤ) → ℤ → List (List ℤ) → Type 0
IsEliminated columns d l g p = steps 3 (columns - 4) (form_of_table p (columns - 3)) ≡ Ok (stored d l columns 3 (columns - 4), constant_form g)

-- what is kept of the pivot of each integer column is from 1 to 2^52
abbrev pub AreKept : ℕ → List ℤ → Type 0
AreKept columns d = (j : ℕ) → 3 ≤ j → suc j < columns → (pos 1 ≤ℤ slice_index_or d j (pos 0)) × (slice_index_or d j (pos 0) ≤ℤ pos (2 ^ 52))

-- nothing but zeros from place n on
abbrev pub IsZeroFrom : ℕ → List ℤ → Type 0
IsZeroFrom n s = (i : ℕ) → n ≤ i → slice_index_or s i (pos 0) ≡ pos 0

-- nothing but zeros on the diagonal, after it, and from row n on
abbrev pub IsBelowDiagonal : ℕ → List (List ℤ) → Type 0
IsBelowDiagonal n t = (i j : ℕ) → (i ≤ j) ⊎ (n ≤ i) → entry t i j ≡ pos 0
