-- The values that are stored so far.
use Rattle.std.proofs.Common.{◌≡◌, ◌≤◌}
use Rattle.arrayvec.specs.ArrayVec.{array_vec_len}
use Rattle.obs_store.specs.Missing.{missing_values}
use Rattle.obs_store.specs.Stored.{values_with}
use Rattle.obs_store.proofs.StoredLaws.{so_many}
use Rattle.obs_store.proofs.sat_values.SatValues.of.Given as goal

abbrev pub invariant-loop-slot : goal.invariant-loop-slot
invariant-loop-slot l = record {
  stored : values_with missing_values l.stored.items ≡ so_many l.slot l.values;
  few : array_vec_len l.stored ≤ l.slot;
}
