-- What the Gauss transformations leave of an integer's factors, and the multiples that they take.
use Rattle.std.specs.Prelude.{◌≡◌, ℕ, ◌≤◌, ◌^◌, ℤ, unsigned_abs}
use Rattle.quadratic_form.specs.Tables.{item}
use Rattle.decorrelate.specs.GaussSteps.{multiple, left_at, GaussSmall}
use Rattle.decorrelate.specs.declared.gauss.ReducedRow.{ReducedRow}

pub record IsReducedRow (l : ℕ → ℕ → ℤ) (j : ℕ) (f : ReducedRow) : Type 0 where
  pub multiples : (i : ℕ) → i ≤ j → item f.multiples i ≡ multiple l j i
  pub sizes : (i : ℕ) → i ≤ j → unsigned_abs (item f.multiples i) ≤ 2 ^ 33
  pub left : (m : ℕ) → m ≤ j → item f.left m ≡ left_at l j m
  pub small : GaussSmall l j
