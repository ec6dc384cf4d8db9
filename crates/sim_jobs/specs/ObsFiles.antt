-- The observation file that a made text is read as.
use Rattle.std.specs.Prelude.{ℕ, ℤ, pos, ◌+◌, ◌*◌, ◌≤◌, ◌==◌, Bool, false, List, [], ◌∷◌, length, map, Some, None, if◌then◌else◌}
use Rattle.std.specs.declared.option.Option.{Option}
use Rattle.std.specs.List.{All, list_any}
use Rattle.gps_time.specs.declared.Tick.{Tick}
use Rattle.obs_store.specs.declared.file.ObsFile.{ObsFile}
use Rattle.obs_store.specs.declared.kinds.ObsType.{ObsType}
use Rattle.obs_store.specs.declared.kinds.ObsType.TheVariants.{C1C, L1C, C2W, L2W, C5Q, L5Q}
use Rattle.obs_store.specs.declared.series.Epoch.{Epoch}
use Rattle.obs_store.specs.declared.values.Value.{Value}
use Rattle.obs_store.specs.declared.values.SatObs.{SatObs}
use Rattle.obs_store.specs.Kinds.{kept_types, slot_of}
use Rattle.obs_fields.specs.SatFields.{unless_zero}
use Rattle.rinex_head.specs.declared.system.System.{System}
use Rattle.rinex_head.specs.declared.system.System.TheVariants.{Gps, Galileo}
use Rattle.sim_session.specs.declared.signals.Signals.{Signals}
use Rattle.sim_session.specs.declared.signals.Tracking.{Tracking}
use Rattle.sim_session.specs.declared.signals.Tracking.TheVariants.{GpsL1L2, GpsL1L2L5, GalileoE1E5a}
use Rattle.sim_session.specs.ObservationText.{AreInColumns}
use Rattle.sim_session.specs.Tracked.{amounts_of}

-- the system of the satellites
abbrev pub system_in : Tracking → System
system_in GpsL1L2 = Gps
system_in GpsL1L2L5 = Gps
system_in GalileoE1E5a = Galileo

-- the types of the amounts, in their order
abbrev pub types_of : Tracking → List ObsType
types_of GpsL1L2 = C1C ∷ L1C ∷ C2W ∷ L2W ∷ []
types_of GpsL1L2L5 = C1C ∷ L1C ∷ C2W ∷ L2W ∷ C5Q ∷ L5Q ∷ []
types_of GalileoE1E5a = C1C ∷ L1C ∷ C5Q ∷ L5Q ∷ []

-- a number of thousandths with no loss of lock; 0 is a missing value
abbrev pub with_no_lock : Option ℤ → Option Value
with_no_lock None = None
with_no_lock (Some z) = Some (record { amount = z; lock = 0 })

abbrev pub value_of : ℤ → Option Value
value_of z = with_no_lock (unless_zero z)

-- the value of a type: the amount at its place among these types, if it is one of them
abbrev pub value_among : List ObsType → List ℤ → ObsType → Option Value
value_among [] amounts kind = None
value_among (own ∷ types) [] kind = None
value_among (own ∷ types) (z ∷ amounts) kind = if slot_of own == slot_of kind then value_of z else value_among types amounts kind

-- those of all kept types
abbrev pub values_of : Tracking → Signals → List (Option Value)
values_of t s = map (value_among (types_of t) (amounts_of t s)) kept_types

-- the satellites that follow number n
abbrev pub satellites_of : Tracking → ℕ → List Signals → List SatObs
satellites_of t n [] = []
satellites_of t n (s ∷ sats) = record { number = n + 1; values = values_of t s } ∷ satellites_of t (n + 1) sats

-- a number of seconds after 2024-01-01 00:00:00
abbrev pub tick_at : ℕ → Tick
tick_at seconds = record { 0 = 13_881_024_000_000_000 + seconds * 10_000_000 }

-- epochs from number i on, which are a step of seconds apart
abbrev pub epochs_of : Tracking → ℕ → ℕ → List (List Signals) → List Epoch
epochs_of t step i [] = []
epochs_of t step i (sats ∷ epochs) = record { tag = tick_at (step * i); power = false; sats = satellites_of t 0 sats } ∷ epochs_of t step (i + 1) epochs

-- which kept types are among these
abbrev pub are_listed : List ObsType → List Bool
are_listed types = map (λ kind. list_any (λ own. slot_of own == slot_of kind) types) kept_types

-- version 3.04, the base's position, no offset of the antenna, and the types
abbrev pub file_of : Tracking → ℕ → List (List Signals) → ObsFile
file_of t step epochs = record {
  hundredths = 304;
  position = Some (pos 63781370000 ∷ pos 0 ∷ pos 0 ∷ []);
  delta = pos 0 ∷ pos 0 ∷ pos 0 ∷ [];
  listed = are_listed (types_of t);
  epochs = epochs_of t step 0 epochs;
}

-- satellites 1 to 32 at most, with numbers that have room
pub record HaveRoom (sats : List Signals) : Type 0 where
  pub few : length sats ≤ 32
  pub columns : All AreInColumns sats
