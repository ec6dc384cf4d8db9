-- How many values stand before, and where the search goes on.
use Rattle.std.proofs.Common.{◌≡◌, take, drop}
use Rattle.obs_store.specs.Stored.{count_of}
use Rattle.obs_store.proofs.StoredLaws.{find_from}
use Rattle.obs_store.proofs.stored.find_sat.Given as goal

abbrev pub invariant-loop-place : goal.invariant-loop-place
invariant-loop-place l = record {
  first : l.first ≡ count_of (take l.place l.sats);
  later : find_from l.number l.sats l.values ≡ find_from l.number (drop l.place l.sats) (drop l.first l.values);
}
