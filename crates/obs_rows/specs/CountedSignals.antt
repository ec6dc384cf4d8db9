-- What holds of each list of signals that count.
use Rattle.std.specs.Prelude.{ℕ, ◌<◌, ◌≤◌, List, map, length, All}
use Rattle.obs_rows.specs.declared.units.TheConstants.{SIGNALS, PHASES}
use Rattle.obs_rows.specs.Signals.{band, phases}

-- the bands of the phases among these signals: the places of their shifts
abbrev pub phase_bands : List ℕ → List ℕ
phase_bands ss = map band (phases ss)

-- what every list of signals that count keeps
pub record AreCounted (ss : List ℕ) : Type 0 where
  pub few : length ss ≤ SIGNALS
  pub small : All (λ s. s < SIGNALS) ss
  pub phases_few : length (phases ss) ≤ PHASES
