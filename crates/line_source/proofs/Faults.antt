-- Counts of faults.
use Rattle.std.proofs.Common.{◌≡◌, ℕ, Bool, arith}
use Rattle.line_source.specs.Causes.{next_count, Rose, StopsAtFault}

pub stop_rose : {before now : ℕ} {failed : Bool} → StopsAtFault before now failed → Rose before now
stop_rose {before} {now} {failed} stops =
    let once : now ≡ next_count before = stops.once in
    omega (arith, once)
