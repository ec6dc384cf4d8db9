use Rattle.std.proofs.Common.{◌≡◌, ◌<◌, ℕ, get_or, length, false}
use Rattle.obs_store.specs.Kinds.{slot_count, kept_types}
use Rattle.obs_store.specs.declared.kinds.ObsType.TheVariants.{C1C}
use Rattle.obs_fields.specs.Types.{is_kept_name}
use Rattle.obs_fields.proofs.types.listed_types.Given as goal

abbrev pub invariant-loop-slot : goal.invariant-loop-slot
invariant-loop-slot l = record {
  so_far : (i : ℕ) → i < l.slot → get_or l.listed i false ≡ is_kept_name l.system l.names (get_or kept_types i C1C);
  as_many : length l.listed ≡ slot_count;
}
