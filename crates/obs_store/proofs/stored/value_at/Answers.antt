-- One more value is in the slot, or the same as before.
use Rattle.std.proofs.Common.{[]}
use Rattle.std.specs.Option.{option_map, option_copied}
use Rattle.obs_store.specs.declared.kinds.ObsType.TheVariants.{C1C}
use Rattle.obs_store.specs.Stored.{value_in}
use Rattle.obs_store.proofs.StoredLaws.{none_yet, value_next}
use Rattle.obs_store.proofs.stored.value_at.Goals as goal

pub loop-one-init : goal.loop-one-init
loop-one-init c = none_yet c.args.stored.now c.args.slot

pub loop-one-preserved : goal.loop-one-preserved
loop-one-preserved c =
    value_next c.args.stored.now c.loop-one.one-index c.args.slot (record { kind = C1C; lock = 0; amount = [] }) (option_map value_in (option_copied c.loop-one.found))
    (option_map value_in (option_copied c.later-found.result)) c.loop-one-test.true c.requires c.loop-one.invariant c.later-found.ensures.put c.later-found.ensures.kept
