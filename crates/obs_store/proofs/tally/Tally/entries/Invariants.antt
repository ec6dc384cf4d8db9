-- The numbers so far.
use Rattle.std.proofs.Common.{◌≡◌, take}
use Rattle.obs_store.specs.Counts.{numbered}
use Rattle.obs_store.proofs.tally.Tally.entries.Given as goal

abbrev pub invariant-loop-place : goal.invariant-loop-place
invariant-loop-place l = l.seen.entries ≡ numbered l.self.counts (take l.place l.self.order.items)
