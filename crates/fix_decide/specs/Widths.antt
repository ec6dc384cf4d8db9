-- Where the upper sum is too wide to be computed.
use Rattle.std.specs.Prelude.{ℕ, ◌^◌, List, Any, ℤ, pos, ◌≤ℤ◌}
use Rattle.obs_rows.specs.declared.arcs.Arc.{Arc}
use Rattle.obs_rows.specs.declared.rows.Row.{Row}
use Rattle.obs_rows.specs.declared.pair_rows.PairRows.{PairRows}
use Rattle.fix_decide.specs.Reaches.{extent}
use Rattle.fix_decide.specs.UpperSums.{reach_of}

-- |S| + rad of some row is 2^33 or more, as this signal sees it
abbrev pub IsWideFor : List Arc → List ℕ → List ℤ → List ℤ → List Row → ℕ → Type 0
IsWideFor arcs ss z m rows s = Any (λ r. pos (2 ^ 33) ≤ℤ extent (reach_of arcs ss z m s r)) rows

-- the same, as some signal that counts sees it
abbrev pub IsWide : List Arc → List ℕ → List ℤ → List ℤ → PairRows → Type 0
IsWide arcs ss z m p = Any (IsWideFor arcs ss z m p.rows) ss

-- the same of some pair
abbrev pub AreWide : List Arc → List ℕ → List PairRows → List ℤ → List ℤ → Type 0
AreWide arcs ss pairs z m = Any (IsWide arcs ss z m) pairs
