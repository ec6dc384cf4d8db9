-- The values that are set so far.
use Rattle.std.proofs.Common.{◌≡◌, drop, length}
use Rattle.obs_store.specs.Kinds.{slot_count}
use Rattle.obs_store.specs.Missing.{missing_values}
use Rattle.obs_store.specs.Stored.{values_with}
use Rattle.obs_store.proofs.stored.all_values.Given as goal

abbrev pub invariant-loop-one : goal.invariant-loop-one
invariant-loop-one l = record {
  value : values_with missing_values l.stored ≡ values_with l.values (drop l.one-index l.stored);
  as_many : length l.values ≡ slot_count;
}
