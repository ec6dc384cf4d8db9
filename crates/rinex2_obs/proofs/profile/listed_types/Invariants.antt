use Rattle.std.proofs.Common.{◌≡◌, ◌<◌, ℕ, get_or, length, false}
use Rattle.obs_store.specs.Kinds.{slot_count, kept_types}
use Rattle.obs_store.specs.declared.kinds.ObsType.TheVariants.{C1C}
use Rattle.rinex2_obs.specs.Profile.{is_among}
use Rattle.rinex2_obs.proofs.profile.listed_types.Given as goal

abbrev pub invariant-loop-slot : goal.invariant-loop-slot
invariant-loop-slot l = record {
  so_far : (i : ℕ) → i < l.slot → get_or l.listed i false ≡ is_among l.kept (get_or kept_types i C1C);
  as_many : length l.listed ≡ slot_count;
}
