-- How the satellites of an epoch are stored: the values that are there, one satellite's after another's.
use Rattle.std.specs.Prelude.{ℕ, ℤ, ◌≡◌, List, [], ◌∷◌, ◌++◌, take, drop, length, slice_set, sum_by, Some}
use Rattle.std.specs.declared.option.Option.{Option}
use Rattle.std.specs.Int.{w64, cast_signed, from_le_bytes}
use Rattle.obs_store.specs.declared.values.Value.{Value}
use Rattle.obs_store.specs.declared.values.SatObs.{SatObs}
use Rattle.obs_store.specs.declared.stored.StoredSat.{StoredSat}
use Rattle.obs_store.specs.declared.stored.StoredValue.{StoredValue}
use Rattle.obs_store.specs.Kinds.{slot_of}
use Rattle.obs_store.specs.Missing.{missing_values}
use Rattle.obs_store.specs.Satellites.{AreSatellites}

abbrev pub amount_in : List ℕ → ℤ
amount_in bytes = cast_signed w64 (from_le_bytes w64 bytes)

abbrev pub value_in : StoredValue → Value
value_in v = record { amount = amount_in v.amount; lock = v.lock }

-- values into which the stored ones are set, each in the slot of its type
abbrev pub values_with : List (Option Value) → List StoredValue → List (Option Value)
values_with values [] = values
values_with values (v ∷ vs) = values_with (slice_set values (slot_of v.kind) (Some (value_in v))) vs

-- a satellite whose values stand first among these
abbrev pub first_satellite : StoredSat → List StoredValue → SatObs
first_satellite s values = record { number = s.number; values = values_with missing_values (take s.count values) }

-- the satellites whose values these are, one satellite's after another's
abbrev pub satellites_in : List StoredSat → List StoredValue → List SatObs
satellites_in [] values = []
satellites_in (s ∷ sats) values = first_satellite s values ∷ satellites_in sats (drop s.count values)

-- how many values satellites have
abbrev pub count_of : List StoredSat → ℕ
count_of sats = sum_by (λ s. s.count) sats

-- each value belongs to a satellite
pub record AreStored (sats : List StoredSat) (values : List StoredValue) : Type 0 where
  pub all : count_of sats ≡ length values
  pub satellites : AreSatellites (satellites_in sats values)

-- after the old ones stand `count` more, which are those of a satellite's values that are there
pub record AreStoredBehind (old new : List StoredValue) (count : ℕ) (values : List (Option Value)) : Type 0 where
  pub added : List StoredValue
  pub new_are : new ≡ old ++ added
  pub as_many : length added ≡ count
  pub values_are : values_with missing_values added ≡ values
