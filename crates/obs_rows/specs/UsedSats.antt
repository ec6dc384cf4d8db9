-- The ranges of what a pair says of its satellites.
use Rattle.std.specs.Prelude.{◌<◌, ◌≤◌, ◌^◌, length, All, AllPairs, unsigned_abs}
use Rattle.obs_rows.specs.declared.used.UsedSat.{UsedSat}
use Rattle.obs_rows.specs.declared.used.UsedPair.{UsedPair}
use Rattle.obs_rows.specs.declared.limits.TheConstants.{MOST_SATELLITES}

-- each phase is below 2^50 in size
abbrev pub IsSmall : UsedSat → Type 0
IsSmall u = All (λ z. unsigned_abs z < 2 ^ 50) u.phase

-- a pair has at most 15 satellites in rising number, and each phase is below 2^50 in size
pub record IsInRange (p : UsedPair) : Type 0 where
  pub few : length p.sats.items ≤ MOST_SATELLITES
  pub rising : AllPairs (λ u v. u.sat < v.sat) p.sats.items
  pub small : All IsSmall p.sats.items
