-- A form of n integers and the constant in the coordinates of a map.
use Rattle.std.specs.Prelude.{◌≡◌, ℕ, nat_lt, nat_eq, true, false, ◌+◌, ◌-◌, ◌<◌, ◌^◌, List, ℤ, pos, ◌*ℤ◌, unsigned_abs}
use Rattle.quadratic_form.specs.Forms.{Column}
use Rattle.quadratic_form.specs.Places.{form_from}
use Rattle.quadratic_form.specs.Tables.{entry, IsZeroOutside}
use Rattle.quadratic_form.specs.Matrices.{EntriesBelow}
use Rattle.integer_form.specs.declared.front_form.FrontForm.{FrontForm}
use Rattle.integer_form.specs.Kept.{form_of_table}
use Rattle.int_search.specs.Sums.{total}

-- the map of n integers, and 1 for the constant
abbrev pub with_constant : ℕ → (ℕ → ℕ → ℤ) → ℕ → ℕ → ℤ
with_constant n m i j = elim (nat_lt i n) [
  | true ↦ elim (nat_lt j n) [ true ↦ m i j | false ↦ pos 0 ]
  | false ↦ elim (nat_eq i j) [ true ↦ pos 1 | false ↦ pos 0 ]
]

-- the entry in row a and column j of the matrix p times the map
abbrev pub half_entry : ℕ → (ℕ → ℕ → ℤ) → (ℕ → ℕ → ℤ) → ℕ → ℕ → ℤ
half_entry n m p a j = total (λ b. with_constant n m b j *ℤ p a b) 0 (n + 1)

-- the entry in row i and column j of the turned map times the matrix h
abbrev pub whole_entry : ℕ → (ℕ → ℕ → ℤ) → (ℕ → ℕ → ℤ) → ℕ → ℕ → ℤ
whole_entry n m h i j = total (λ a. h a j *ℤ with_constant n m a i) 0 (n + 1)

-- the entry in row i and column j of the matrix p in the coordinates of the map
abbrev pub transformed_entry : ℕ → (ℕ → ℕ → ℤ) → (ℕ → ℕ → ℤ) → ℕ → ℕ → ℤ
transformed_entry n m p i j = whole_entry n m (half_entry n m p) i j

-- the form with this matrix, where the map and the form stand in tables
abbrev pub transformed_form : ℕ → List (List ℤ) → List (List ℤ) → List Column
transformed_form n map p = form_from (transformed_entry n (entry map) (entry p)) 0 (n + 1)

abbrev pub AreWholesSmall : ℕ → (ℕ → ℕ → ℤ) → (ℕ → ℕ → ℤ) → Type 0
AreWholesSmall n m h = (i j : ℕ) → i < n + 1 → j < n + 1 → unsigned_abs (whole_entry n m h i j) < 2 ^ 52

-- the table p has these entries, all small, and zeros outside
pub record AreWholes (n : ℕ) (m h : ℕ → ℕ → ℤ) (p : List (List ℤ)) : Type 0 where
  pub same : (i j : ℕ) → i < n + 1 → j < n + 1 → entry p i j ≡ whole_entry n m h i j
  pub entries : EntriesBelow (2 ^ 52) p
  pub outside : IsZeroOutside (n + 1) (n + 1) p

-- each entry of the matrix p in the coordinates of the map is below 2^52 in size
abbrev pub IsTransformedSmall : ℕ → List (List ℤ) → List (List ℤ) → Type 0
IsTransformedSmall n map p = AreWholesSmall n (entry map) (half_entry n (entry map) (entry p))

-- r is the form p of n integers in the coordinates of the map
pub record IsTransformed (n : ℕ) (map p : List (List ℤ)) (r : FrontForm) : Type 0 where
  pub columns : r.columns ≡ n + 4
  pub small : IsTransformedSmall n map p
  pub form : form_of_table r.p (r.columns - 3) ≡ transformed_form n map p
