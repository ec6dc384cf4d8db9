-- What the sum of the fronts of pairs is over, what its table holds, and why it isn't made.
use Rattle.std.specs.Prelude.{◌≡◌, ℕ, ◌+◌, ◌<◌, ◌≤◌, List, length, map, get_or, ℤ}
use Rattle.obs_rows.specs.declared.arcs.Arc.{Arc}
use Rattle.obs_rows.specs.declared.pair_rows.PairRows.{PairRows}
use Rattle.obs_rows.specs.Integers.{integer_count}
use Rattle.quadratic_form.specs.Tables.{entry}
use Rattle.integer_form.specs.declared.front_form.FrontForm.{FrontForm}
use Rattle.track_form.specs.Fronts.{track_entry}
use Rattle.track_form.specs.PairFronts.{IsFrontOfPair, AreFronts, IsFirstRefused, brief}
use Rattle.track_form.specs.declared.sums.NoSum.{NoSum}
use Rattle.track_form.specs.declared.sums.NoSum.TheVariants.{Refused, Over}

-- the exponents of all fronts
abbrev pub AreAtMost : List Arc → List ℕ → List PairRows → ℕ → Type 0
AreAtMost arcs signals pairs most = (k : ℕ) → k < length pairs → (d : PairRows) (f : FrontForm) → IsFrontOfPair arcs signals (get_or pairs k d) f → f.h ≤ most

-- the table of the fronts, over 2^h
abbrev pub HoldsSums : List Arc → List ℕ → List PairRows → ℕ → List (List ℤ) → Type 0
HoldsSums arcs signals pairs h t = (fs : List FrontForm) → AreFronts arcs signals pairs fs → (r c : ℕ) → r ≤ c → c < 1 + integer_count arcs signals →
    entry t (3 + r) (3 + c) ≡ track_entry (1 + integer_count arcs signals) h (map brief fs) r c

-- the sum isn't made: some pair has no front, the first with this fault, or Q holds
abbrev pub IsStopped : List Arc → List ℕ → List PairRows → Type 0 → NoSum → Type 0
IsStopped arcs signals pairs Q (Refused fault) = IsFirstRefused arcs signals pairs fault
IsStopped arcs signals pairs Q Over = Q
