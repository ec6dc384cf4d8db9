-- Which satellites a file has, in the order in which they are seen first, and each in how many epochs.
use Rattle.std.specs.Prelude.{ℕ, ◌==◌, not, List, [], ◌∷◌, map, filter, count_by}
use Rattle.std.specs.List.{flat_map}
use Rattle.obs_store.specs.declared.values.SatObs.{SatObs}
use Rattle.obs_store.specs.declared.series.Epoch.{Epoch}
use Rattle.obs_store.specs.Satellites.{has_satellite}

-- the numbers, each where it stands first
abbrev pub first_seen : List ℕ → List ℕ
first_seen [] = []
first_seen (n ∷ ns) = n ∷ filter (λ m. not (n == m)) (first_seen ns)

abbrev pub numbers_of : List SatObs → List ℕ
numbers_of sats = map (λ s. s.number) sats

-- the numbers of all satellites, epoch by epoch
abbrev pub all_numbers : List Epoch → List ℕ
all_numbers epochs = flat_map (λ e. numbers_of e.sats) epochs

-- how many epochs have the satellite
abbrev pub epochs_with : ℕ → List Epoch → ℕ
epochs_with number epochs = count_by (λ e. has_satellite number e.sats) epochs

-- each satellite with its number of epochs
abbrev pub seen_in : List Epoch → List (ℕ × ℕ)
seen_in epochs = map (λ n. (n, epochs_with n epochs)) (first_seen (all_numbers epochs))
