-- The numbers of the satellites of an epoch, in the order of their names; one of another system has none here.
use Rattle.std.specs.Prelude.{◌≡◌, ℕ, ◌≤◌, ◌==◌, Bool, false, List, [], ◌∷◌, ◌++◌, None, Some}
use Rattle.std.specs.declared.option.Option.{Option}
use Rattle.std.specs.List.{list_any}
use Rattle.obs_store.specs.declared.values.SatObs.{SatObs}
use Rattle.obs_store.specs.Satellites.{has_satellite}

abbrev pub has_number : ℕ → Option ℕ → Bool
has_number number None = false
has_number number (Some n) = number == n

-- a satellite of GPS of that number is among these
abbrev pub is_named : ℕ → List (Option ℕ) → Bool
is_named number names = list_any (λ name. has_number number name) names

-- numbers from 1 to 32, each at most once
abbrev pub AreNames : List (Option ℕ) → Type 0
AreNames [] = Unit {0}
AreNames (None ∷ names) = AreNames names
AreNames (Some n ∷ names) = (1 ≤ n) × (n ≤ 32) × (is_named n names ≡ false) × AreNames names

-- such a name after these ones
abbrev pub FitsBehind : List (Option ℕ) → Option ℕ → Type 0
FitsBehind names None = Unit {0}
FitsBehind names (Some n) = (1 ≤ n) × (n ≤ 32) × (is_named n names ≡ false)

-- none of the numbers is that of one of the satellites
abbrev pub AreNew : List SatObs → List (Option ℕ) → Type 0
AreNew sats [] = Unit {0}
AreNew sats (None ∷ names) = AreNew sats names
AreNew sats (Some n ∷ names) = (has_satellite n sats ≡ false) × AreNew sats names

-- after some satellites stands the one of a name, or none where it is of another system
abbrev pub IsWith : Option ℕ → List SatObs → List SatObs → Type 0
IsWith None before after = after ≡ before
IsWith (Some n) before after = (s : SatObs) × (s.number ≡ n) × (after ≡ before ++ s ∷ [])
