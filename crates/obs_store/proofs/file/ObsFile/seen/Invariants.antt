-- The epochs so far.
use Rattle.std.proofs.Common.{take}
use Rattle.obs_store.specs.Counts.{IsCountOf}
use Rattle.obs_store.proofs.file.ObsFile.seen.Given as goal

abbrev pub invariant-loop-at : goal.invariant-loop-at
invariant-loop-at l = IsCountOf (take l.at l.epochs) l.tally.order.items l.tally.counts
