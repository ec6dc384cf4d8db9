-- The satellites of an epoch.
use Rattle.std.specs.Prelude.{◌≢◌, ℕ, ◌≤◌, ◌==◌, Bool, List, All, AllPairs}
use Rattle.std.specs.declared.option.Option.{Option}
use Rattle.std.specs.List.{list_any}
use Rattle.obs_store.specs.declared.values.Value.{Value}
use Rattle.obs_store.specs.declared.values.SatObs.{SatObs}

abbrev pub satellite_of : ℕ → List (Option Value) → SatObs
satellite_of number values = record { number = number; values = values }

-- some satellite has that number
abbrev pub has_satellite : ℕ → List SatObs → Bool
has_satellite number sats = list_any (λ s. number == s.number) sats

-- a number that a satellite may have
abbrev pub IsNumber : SatObs → Type 0
IsNumber s = (1 ≤ s.number) × (s.number ≤ 36)

-- numbers 1 to 36, each at most once
pub record AreSatellites (sats : List SatObs) : Type 0 where
  pub numbers : All IsNumber sats
  pub once : AllPairs (λ s t. s.number ≢ t.number) sats
