use Rattle.std.proofs.Common.{◌≡◌, ℕ, ◌<◌, length, slice_index_or, None}
use Rattle.normal_sum.specs.declared.places.TheConstants.{MOST_ROWS}
use Rattle.normal_sum.specs.Places.{place_from}
use Rattle.normal_sum.proofs.places.places_of.Given as goal

abbrev pub invariant-loop-k : goal.invariant-loop-k
invariant-loop-k l = record {
  full : length l.places ≡ MOST_ROWS;
  done : (j : ℕ) → j < l.k → slice_index_or l.places j None ≡ place_from (slice_index_or l.firsts j None) l.fn.phase;
}
