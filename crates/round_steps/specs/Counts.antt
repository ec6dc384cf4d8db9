-- Whether there are arcs enough for a baseline, and few enough for a form.
use Rattle.std.specs.Prelude.{ℕ, ◌<◌, ◌⊎◌, Bool, ◌&&◌, nat_le, List, length, count_by}
use Rattle.obs_rows.specs.declared.arcs.Arc.{Arc}
use Rattle.obs_rows.specs.Arcs.{free_count}
use Rattle.obs_rows.specs.declared.units.TheConstants.{MOST_FREE_ARCS}
use Rattle.obs_rows.specs.declared.limits.TheConstants.{MOST_ARCS}

-- the arc holds the pair of this number
abbrev pub holds : ℕ → Arc → Bool
holds number a = nat_le a.first number && nat_le number a.last

-- how many of the arcs hold the pair, which is how many satellites the pair has in them
abbrev pub held : List Arc → ℕ → ℕ
held arcs number = count_by (holds number) arcs

-- none of the first `pairs` pairs has four satellites in the arcs
abbrev pub AreFew : ℕ → List Arc → Type 0
AreFew pairs arcs = (number : ℕ) → number < pairs → held arcs number < 4

-- over 20 arcs are free, or there are over 200
abbrev pub AreMany : List Arc → Type 0
AreMany arcs = (MOST_FREE_ARCS < free_count arcs) ⊎ (MOST_ARCS < length arcs)
