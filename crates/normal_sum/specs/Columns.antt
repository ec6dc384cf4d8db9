-- The columns in which a row has a coefficient.
use Rattle.std.specs.Prelude.{◌≡◌, ◌≢◌, ℕ, ◌<◌, ◌≤◌, List, ℤ, pos, length, All, slice_index, slice_index_or}
use Rattle.std.specs.List.Sorted.{IsStrictlyIncreasing}
use Rattle.quadratic_form.specs.declared.sizes.TheConstants.{BASELINE_COLUMNS, MOST_COLUMNS}

-- each column once, in order, those of the baseline among them, and the values are 0 in all others
pub record AreColumnsOf (values : List ℤ) (columns : List ℕ) : Type 0 where
  pub baseline : (k : ℕ) → k < BASELINE_COLUMNS → slice_index columns k ≡ k
  pub enough : BASELINE_COLUMNS ≤ length columns
  pub inside : All (λ c. c < MOST_COLUMNS) columns
  pub rising : IsStrictlyIncreasing columns
  pub others : (j : ℕ) → ((k : ℕ) → k < length columns → slice_index columns k ≢ j) → slice_index_or values j (pos 0) ≡ pos 0

-- the same of the columns from `row` on, without those of the baseline
pub record AreColumnsFrom (row : ℕ) (values : List ℤ) (columns : List ℕ) : Type 0 where
  pub inside : All (λ c. c < MOST_COLUMNS) columns
  pub from : All (λ c. row ≤ c) columns
  pub behind : All (λ c. BASELINE_COLUMNS ≤ c) columns
  pub rising : IsStrictlyIncreasing columns
  pub others : (j : ℕ) → row ≤ j → BASELINE_COLUMNS ≤ j → ((k : ℕ) → k < length columns → slice_index columns k ≢ j) → slice_index_or values j (pos 0) ≡ pos 0
