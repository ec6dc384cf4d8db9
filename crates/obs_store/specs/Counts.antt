-- A count of the satellites of some epochs.
use Rattle.std.specs.Prelude.{◌≡◌, ℕ, zero, suc, ◌≤◌, slice_index, List, [], ◌∷◌, ◌++◌, All, length, map}
use Rattle.obs_store.specs.declared.series.Epoch.{Epoch}
use Rattle.obs_store.specs.Seen.{first_seen, all_numbers, epochs_with}

-- the numbers seen after one more epoch, which has the number n; the first argument says how many had it before
abbrev pub with_number : ℕ → ℕ → List ℕ → List ℕ
with_number zero n order = order ++ n ∷ []
with_number (suc before) n order = order

-- these numbers, each with its count
abbrev pub numbered : List ℕ → List ℕ → List (ℕ × ℕ)
numbered counts order = map (λ n. (n, slice_index counts n)) order

-- the numbers of these epochs, each where it is seen first, and of each number up to 36 how many epochs have it
pub record IsCountOf (epochs : List Epoch) (order counts : List ℕ) : Type 0 where
  pub order_is : order ≡ first_seen (all_numbers epochs)
  pub inside : All (λ n. n ≤ 36) order
  pub as_many : length counts ≡ 37
  pub counts_are : (n : ℕ) → n ≤ 36 → slice_index counts n ≡ epochs_with n epochs
