-- Where a receiver may be.
use Rattle.std.specs.Prelude.{◌*◌, List, ℤ, pos, ◌≤ℤ◌}
use Rattle.whole_math.specs.Vectors.{squared_norm}
use Rattle.obs_rows.specs.declared.limits.TheConstants.{LEAST_DISTANCE, MOST_DISTANCE}

-- from 6,000 km to 7,000 km from the Earth's centre, in 0.1 mm
abbrev pub IsReceiverPoint : List ℤ → Type 0
IsReceiverPoint p = (pos (LEAST_DISTANCE * LEAST_DISTANCE) ≤ℤ squared_norm p) × (squared_norm p ≤ℤ pos (MOST_DISTANCE * MOST_DISTANCE))
