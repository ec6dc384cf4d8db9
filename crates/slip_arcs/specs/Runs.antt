-- Arcs as maximal runs, all of them in order, and those that are kept.
use Rattle.std.specs.Prelude.{◌≡◌, ℕ, ℤ, ◌+◌, ◌-◌, ◌<◌, ◌≤◌, ◌⊎◌, Bool, true, false, not, nat_le, max, pos, List, [], ◌∷◌, ◌++◌, map, filter, count_by, All, AllPairs, Contains}
use Rattle.obs_rows.specs.declared.used.UsedPair.{UsedPair}
use Rattle.obs_rows.specs.declared.arcs.Arc.{Arc}
use Rattle.slip_arcs.specs.Used.{is_used, is_cut_after}

-- a satellite and the pairs from first to last
pub record Run : Type 0 where
  pub sat : ℕ
  pub first : ℕ
  pub last : ℕ

-- the satellite is used in each pair of the run, without a cut between two of them
pub record IsRun (bands : List ℕ) (jump : ℕ) (used : List UsedPair) (r : Run) : Type 0 where
  pub order : r.first ≤ r.last
  pub used_in : (i : ℕ) → r.first ≤ i → i ≤ r.last → is_used used r.sat i ≡ true
  pub uncut : (i : ℕ) → r.first ≤ i → i < r.last → is_cut_after bands jump used r.sat i ≡ false

-- a run that no longer run of the satellite holds
pub record IsArc (bands : List ℕ) (jump : ℕ) (used : List UsedPair) (r : Run) : Type 0 where
  pub run : IsRun bands jump used r
  pub maximal : (s : Run) → IsRun bands jump used s → s.sat ≡ r.sat → s.first ≤ r.first → r.last ≤ s.last → (s.first ≡ r.first) × (s.last ≡ r.last)

-- by first pair, then by satellite
abbrev pub Precedes : Run → Run → Type 0
Precedes r s = (r.first < s.first) ⊎ ((r.first ≡ s.first) × (r.sat < s.sat))

-- exactly the arcs, in order
pub record AreArcs (bands : List ℕ) (jump : ℕ) (used : List UsedPair) (runs : List Run) : Type 0 where
  pub each : All (IsArc bands jump used) runs
  pub complete : (r : Run) → IsArc bands jump used r → Contains runs r
  pub order : AllPairs Precedes runs

-- the run has at least `least` pairs
abbrev pub is_long : ℕ → Run → Bool
is_long least r = nat_le least (r.last + 1 - r.first)

abbrev pub run_of : Arc → Run
run_of a = record { sat = a.sat; first = a.first; last = a.last }

-- of the arcs those that are long enough, in order, and the number of the others
pub record AreKept (bands : List ℕ) (jump least : ℕ) (used : List UsedPair) (kept : List Arc) (short : ℕ) : Type 0 where
  pub runs : List Run
  pub all : AreArcs bands jump used runs
  pub kept_are : map run_of kept ≡ filter (is_long least) runs
  pub short_is : short ≡ count_by (λ r. not (is_long least r)) runs

-- the shift of an arc from which no cycles are taken off: 0 on each band
abbrev pub no_shift : List ℤ
no_shift = pos 0 ∷ pos 0 ∷ pos 0 ∷ []

-- a long run gains an arc, which is a datum where all earlier ones end before it, and any other is counted
pub record IsAdded (least : ℕ) (r : Run) (kept kept' : List Arc) (short short' reach reach' : ℕ) : Type 0 where
  pub long : is_long least r ≡ true
      → (kept' ≡ kept ++ record { sat = r.sat; first = r.first; last = r.last; datum = nat_le reach r.first; shift = no_shift } ∷ []) × (short' ≡ short) ×
      (reach' ≡ max reach (r.last + 1))
  pub brief : is_long least r ≡ false → (kept' ≡ kept) × (short' ≡ short + 1) × (reach' ≡ reach)
