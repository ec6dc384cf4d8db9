-- The used satellites of each taken pair, and their boxes.
use Rattle.std.specs.Prelude.{◌≡◌, ℕ, zero, suc, ◌<◌, ◌≤◌, ◌⊎◌, ℤ, Bool, false, ◌==◌, Option, Some, None, List, length, All, AllPairs, slice_get, [], ◌∷◌, pos}
use Rattle.std.specs.List.{list_any}
use Rattle.obs_rows.specs.declared.bands.Signals.{Signals}
use Rattle.obs_store.specs.declared.file.ObsFile.{ObsFile}
use Rattle.obs_store.specs.declared.series.Epoch.{Epoch}
use Rattle.eph_store.specs.File.{Records}
use Rattle.orbit_model.specs.Solution.{Quantities}
use Rattle.orbit_model.specs.Elements.{Constants}
use Rattle.obs_rows.specs.ReceiverPoints.{IsReceiverPoint}
use Rattle.sv_orbit.specs.Solutions.{HoldsSolution}
use Rattle.obs_store.specs.Epochs.{tags_of}
use Rattle.epoch_pair.specs.declared.pairs.PairOf.{PairOf}
use Rattle.epoch_pair.specs.Pairs.{IsNearPair, Follows}
use Rattle.obs_rows.specs.declared.used.UsedSat.{UsedSat}
use Rattle.obs_rows.specs.declared.used.UsedPair.{UsedPair}
use Rattle.obs_rows.specs.declared.limits.TheConstants.{MOST_PAIRS, MOST_SATELLITES}
use Rattle.orbit_model.specs.SeenPlaces.{place_at}
use Rattle.screening.specs.declared.sv_pair.SvPair.{SvPair}
use Rattle.screening.specs.BaseRanges.{HoldsRange}
use Rattle.screening.specs.Amounts.{types_of, differences, phase_differences}
use Rattle.screening.specs.Marks.{Passed, passed, power_failed, lost_lock}
use Rattle.screening.specs.Sightings.{Setting, ObservedSat, IsObservedSat, MayBeKept, MayBeLeftOut, Sent, WasSent, code_of}

-- the header gives a position from 6,000 km to 7,000 km from the Earth's centre
abbrev pub HasPosition : Option (List ℤ) → Type 0
HasPosition None = ⊥
HasPosition (Some p) = IsReceiverPoint p

-- the position of a header, and no matter what where it gives none
abbrev pub position_of : Option (List ℤ) → List ℤ
position_of None = pos 0 ∷ pos 0 ∷ pos 0 ∷ []
position_of (Some p) = p

abbrev pub setting_of : ObsFile → Records → Signals → ℕ → Constants → Setting
setting_of base nav signals mask world = record {
  types = types_of signals;
  records = nav.fit;
  world = world;
  mask = mask;
  point = place_at (position_of base.position);
}

-- the pairs that may be screened: at most 3,600 of epochs that rise in both files, with tags at most half a second apart
pub record ArePairsOf (base rover : List Epoch) (pairs : List PairOf) : Type 0 where
  pub few : length pairs ≤ MOST_PAIRS
  pub near : All (IsNearPair 5_000_000 (tags_of base) (tags_of rover)) pairs
  pub rises : AllPairs Follows pairs

-- what a pair says of a satellite that it uses: its phases, and whether lock was lost up to the pair
pub record IsUsedSat (setting : Setting) (base rover : Epoch) (epochs : Passed) (u : UsedSat) : Type 0 where
  pub sighting : ObservedSat
  pub seen : IsObservedSat setting base rover u.sat sighting
  pub kept : MayBeKept setting base.tag.0 sighting
  pub phase : u.phase ≡ phase_differences sighting.base sighting.rover
  pub lost : u.lost ≡ lost_lock setting.types u.sat epochs

abbrev pub is_among : ℕ → List UsedSat → Bool
is_among sat sats = list_any (λ u. u.sat == sat) sats

-- fifteen satellites of lower numbers are used
abbrev pub AreEnoughBelow : ℕ → List UsedSat → Type 0
AreEnoughBelow sat sats = (length sats ≡ MOST_SATELLITES) × All (λ u. u.sat < sat) sats

-- the used satellites of a pair, in rising number: of those that it sees and that the mask keeps the fifteen of lowest numbers.
-- One that it sees is missing only where the mask may leave it out, or after fifteen others
pub record AreUsedSats (setting : Setting) (base rover : Epoch) (epochs : Passed) (sats : List UsedSat) : Type 0 where
  pub few : length sats ≤ MOST_SATELLITES
  pub rising : AllPairs (λ u v. u.sat < v.sat) sats
  pub each : All (IsUsedSat setting base rover epochs) sats
  pub others : (sat : ℕ) (g : ObservedSat) → IsObservedSat setting base rover sat g → is_among sat sats ≡ false → MayBeLeftOut setting base.tag.0 g ⊎ AreEnoughBelow sat sats

-- the epochs of a pair
pub record AreEpochsOf (base rover : List Epoch) (p : PairOf) (b r : Epoch) : Type 0 where
  pub of_base : slice_get base p.base ≡ Some b
  pub of_rover : slice_get rover p.rover ≡ Some r

pub record IsUsedPair (setting : Setting) (base rover : List Epoch) (before : Option PairOf) (p : PairOf) (u : UsedPair) : Type 0 where
  pub base_epoch : Epoch
  pub rover_epoch : Epoch
  pub epochs : AreEpochsOf base rover p base_epoch rover_epoch
  pub power : u.power ≡ power_failed (passed base rover before p)
  pub sats : AreUsedSats setting base_epoch rover_epoch (passed base rover before p) u.sats.items

-- the taken pair before pair k
abbrev pub pair_before : List PairOf → ℕ → Option PairOf
pair_before pairs zero = None
pair_before pairs (suc k) = slice_get pairs k

-- each taken pair with its used satellites and its mark of power
pub record AreUsedPairs (setting : Setting) (base rover : List Epoch) (pairs : List PairOf) (used : List UsedPair) : Type 0 where
  pub count : length used ≡ length pairs
  pub each : (k : ℕ) (p : PairOf) (u : UsedPair) → slice_get pairs k ≡ Some p → slice_get used k ≡ Some u → IsUsedPair setting base rover (pair_before pairs k) p u

-- the entry of a satellite that two epochs see: its boxes hold every solution at each receiver's own tag and L1 code, and there is one,
-- and its range is that from the base
pub record IsEntry (setting : Setting) (base rover : Epoch) (b : SvPair) : Type 0 where
  pub sighting : ObservedSat
  pub seen : IsObservedSat setting base rover b.sat sighting
  pub kept : MayBeKept setting base.tag.0 sighting
  pub tag : b.tag ≡ base.tag
  pub observed : b.observed ≡ differences sighting.base sighting.rover
  pub base_holds : (q : Quantities) → Sent setting sighting.eph base.tag.0 (code_of sighting.base) q → HoldsSolution b.base q
  pub rover_holds : (q : Quantities) → Sent setting sighting.eph rover.tag.0 (code_of sighting.rover) q → HoldsSolution b.rover q
  pub base_sent : WasSent setting sighting.eph base.tag.0 (code_of sighting.base)
  pub rover_sent : WasSent setting sighting.eph rover.tag.0 (code_of sighting.rover)
  pub range : HoldsRange setting.point b

-- an entry of the pair that it names
pub record IsSvPair (setting : Setting) (base rover : List Epoch) (pairs : List PairOf) (b : SvPair) : Type 0 where
  pub pair : PairOf
  pub base_epoch : Epoch
  pub rover_epoch : Epoch
  pub pair_is : slice_get pairs b.pair ≡ Some pair
  pub epochs : AreEpochsOf base rover pair base_epoch rover_epoch
  pub entry : IsEntry setting base_epoch rover_epoch b

-- the entry of that satellite for that pair
pub record IsEntryAt (setting : Setting) (base rover : Epoch) (pair sat : ℕ) (b : SvPair) : Type 0 where
  pub pair_is : b.pair ≡ pair
  pub sat_is : b.sat ≡ sat
  pub entry : IsEntry setting base rover b

-- where the epochs see the satellite, the mask may leave it out
abbrev pub IsLeftOut : Setting → Epoch → Epoch → ℕ → Type 0
IsLeftOut setting base rover sat = (g : ObservedSat) → IsObservedSat setting base rover sat g → MayBeLeftOut setting base.tag.0 g
