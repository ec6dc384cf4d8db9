-- What a turn leaves of the factors in a table.
use Rattle.std.specs.Prelude.{◌≡◌, ◌≢◌, ◌⊎◌, ℕ, ◌+◌, ◌<◌, ◌≤◌, ◌^◌, List, ℤ}
use Rattle.quadratic_form.specs.Tables.{entry}
use Rattle.quadratic_form.specs.Matrices.{EntriesBelow}
use Rattle.decorrelate.specs.Turning.{AreFactorsTurned}

-- the rows of the two after both took what was left of them or of each other before j, and q between them
pub record AreRowsPermuted (j : ℕ) (q : ℤ) (t : ℕ → ℤ) (old new : List (List ℤ)) : Type 0 where
  pub first : (m : ℕ) → m < j → entry new j m ≡ t m
  pub second : (m : ℕ) → m < j → entry new (j + 1) m ≡ entry old j m
  pub between : entry new (j + 1) j ≡ q
  pub others : (i m : ℕ) → i ≢ j → i ≢ j + 1 → entry new i m ≡ entry old i m
  pub later : (i m : ℕ) → j ≤ m → (i ≢ j + 1) ⊎ (m ≢ j) → entry new i m ≡ entry old i m

pub record ArePermuted (n j : ℕ) (r q : ℤ) (t : ℕ → ℤ) (old new : List (List ℤ)) : Type 0 where
  pub turned : AreFactorsTurned n j r q t (entry old) (entry new)
  pub small : EntriesBelow (2 ^ 52) new
