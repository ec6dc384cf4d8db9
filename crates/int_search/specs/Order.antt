-- The order of integer vectors that a search finds the two least of: by the form's value, then by the entries that they have in the coordinates of the answer.
use Rattle.std.specs.Prelude.{◌≡◌, ◌⊎◌, ℕ, List, length, ℤ, ◌<ℤ◌}
use Rattle.quadratic_form.specs.Rows.{value}
use Rattle.quadratic_form.specs.TwoLeast.{Before}
use Rattle.int_search.specs.Suffixes.{SearchForm}

-- image gives the vector in the coordinates of the answer
abbrev pub IsLess : SearchForm → (List ℤ → List ℤ) → List ℤ → List ℤ → Type 0
IsLess f image v w = (value f.p v <ℤ value f.p w) ⊎ ((value f.p v ≡ value f.p w) × Before (image v) (image w))

-- of all vectors v is the least, and w the least of the others
pub record AreTwoLeast (f : SearchForm) (image : List ℤ → List ℤ) (v w : List ℤ) : Type 0 where
  pub first_size : length v ≡ f.size
  pub second_size : length w ≡ f.size
  pub ordered : IsLess f image v w
  pub others : (u : List ℤ) → length u ≡ f.size → (u ≡ v) ⊎ ((u ≡ w) ⊎ IsLess f image w u)

-- what the coordinates of an answer keep: the number of entries, and that different vectors stay different
pub record IsOneToOne (n : ℕ) (image : List ℤ → List ℤ) : Type 0 where
  pub entries : (v : List ℤ) → length v ≡ n → length (image v) ≡ n
  pub apart : (v w : List ℤ) → length v ≡ n → length w ≡ n → image v ≡ image w → v ≡ w
