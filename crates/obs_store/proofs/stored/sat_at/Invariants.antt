-- How many values stand before.
use Rattle.std.proofs.Common.{◌≡◌, take}
use Rattle.obs_store.specs.Stored.{count_of}
use Rattle.obs_store.proofs.stored.sat_at.Given as goal

abbrev pub invariant-loop-before : goal.invariant-loop-before
invariant-loop-before l = l.first ≡ count_of (take l.before l.sats)
