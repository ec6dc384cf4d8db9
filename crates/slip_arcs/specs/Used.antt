-- Which satellites a pair uses, and where there is a cut.
use Rattle.std.specs.Prelude.{ℕ, zero, suc, ℤ, ◌+◌, ◌*◌, ◌-ℤ◌, ◌*ℤ◌, Bool, false, not, ◌&&◌, ◌||◌, ◌==◌, nat_lt, Option, Some, None, is_some, List, [], ◌∷◌, find, unsigned_abs}
use Rattle.std.specs.List.{list_any}
use Rattle.obs_rows.specs.Signals.{wavelength}
use Rattle.obs_rows.specs.Data.{number_at}
use Rattle.obs_rows.specs.declared.used.UsedSat.{UsedSat}
use Rattle.obs_rows.specs.declared.used.UsedPair.{UsedPair}
use Rattle.obs_rows.specs.BandSets.{phase_of}
use Rattle.slip_arcs.specs.declared.phase.TheConstants.{KAPPA}

-- the satellites that pair i uses
abbrev pub sats_at : List UsedPair → ℕ → List UsedSat
sats_at [] i = []
sats_at (p ∷ ps) zero = p.sats.items
sats_at (p ∷ ps) (suc i) = sats_at ps i

-- an epoch of pair i, or one since the pair before, has flag 1
abbrev pub power_at : List UsedPair → ℕ → Bool
power_at [] i = false
power_at (p ∷ ps) zero = p.power
power_at (p ∷ ps) (suc i) = power_at ps i

-- what a pair's satellites say of one of them
abbrev pub entry_in : List UsedSat → ℕ → Option UsedSat
entry_in sats sat = find (λ u. u.sat == sat) sats

-- what pair i says of the satellite
abbrev pub entry : List UsedPair → ℕ → ℕ → Option UsedSat
entry used sat i = entry_in (sats_at used i) sat

-- the satellite is used in pair i
abbrev pub is_used : List UsedPair → ℕ → ℕ → Bool
is_used used sat i = is_some (entry used sat i)

-- by how much the phase on a band grows
abbrev pub change : ℕ → UsedSat → UsedSat → ℤ
change b before now = number_at now.phase b -ℤ number_at before.phase b

-- λ·Δ, in thousandths of ι
abbrev pub growth : ℕ → UsedSat → UsedSat → ℤ
growth b before now = wavelength (phase_of b) *ℤ change b before now

-- |λ·Δ − λ'·Δ'| of the phases on two bands
abbrev pub jump_of : ℕ → ℕ → UsedSat → UsedSat → ℕ
jump_of b c before now = unsigned_abs (growth b before now -ℤ growth c before now)

-- one κ in thousandths of ι
abbrev pub kappa : ℕ
kappa = KAPPA

-- the phase on one of these bands jumps against that on L1 by more than `jump` κ. L1's own never does
abbrev pub does_jump : ℕ → List ℕ → UsedSat → UsedSat → Bool
does_jump jump bands before now = list_any (λ b. nat_lt (kappa * jump) (jump_of 0 b before now)) bands

-- there is a cut between a satellite's entries in one pair and in the next, at which the power may have failed
abbrev pub is_cut : List ℕ → ℕ → Bool → UsedSat → UsedSat → Bool
is_cut bands jump power before now = power || (now.lost || does_jump jump bands before now)

abbrev pub is_cut_where_used : List ℕ → ℕ → Bool → Option UsedSat → Option UsedSat → Bool
is_cut_where_used bands jump power (Some before) (Some now) = is_cut bands jump power before now
is_cut_where_used bands jump power (Some before) None = false
is_cut_where_used bands jump power None now = false

-- there is a cut before pair i + 1, for a satellite that is used in pairs i and i + 1
abbrev pub is_cut_after : List ℕ → ℕ → List UsedPair → ℕ → ℕ → Bool
is_cut_after bands jump used sat i = is_cut_where_used bands jump (power_at used (i + 1)) (entry used sat i) (entry used sat (i + 1))

-- the satellite is used in pairs i and i + 1, without a cut between them
abbrev pub goes_on : List ℕ → ℕ → List UsedPair → ℕ → ℕ → Bool
goes_on bands jump used sat i = is_used used sat i && (is_used used sat (i + 1) && not (is_cut_after bands jump used sat i))
