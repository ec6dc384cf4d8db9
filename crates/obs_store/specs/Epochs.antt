-- The epochs of a file.
use Rattle.std.specs.Prelude.{ℕ, ◌≤◌, Bool, List, [], ◌∷◌, map, length, All, None, Some}
use Rattle.std.specs.List.Sorted.{IsStrictlyIncreasing}
use Rattle.std.specs.declared.option.Option.{Option}
use Rattle.gps_time.specs.declared.Tick.{Tick}
use Rattle.obs_store.specs.declared.values.SatObs.{SatObs}
use Rattle.obs_store.specs.declared.series.Epoch.{Epoch}
use Rattle.obs_store.specs.Satellites.{AreSatellites}

abbrev pub epoch_of : Tick → Bool → List SatObs → Epoch
epoch_of tag power sats = record { tag = tag; power = power; sats = sats }

abbrev pub tags_of : List Epoch → List ℕ
tags_of epochs = map (λ e. e.tag.0) epochs

-- the tag of the last epoch, if there is one
abbrev pub last_tag_of : List Epoch → Option Tick
last_tag_of [] = None
last_tag_of (e ∷ []) = Some e.tag
last_tag_of (e ∷ f ∷ es) = last_tag_of (f ∷ es)

-- at most 20,000 epochs whose tags rise, each with satellites 1 to 36, each at most once
pub record AreEpochs (epochs : List Epoch) : Type 0 where
  pub few : length epochs ≤ 20_000
  pub rising : IsStrictlyIncreasing (tags_of epochs)
  pub sats : All (λ e. AreSatellites e.sats) epochs
