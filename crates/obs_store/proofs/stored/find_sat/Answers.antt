-- The values of the satellite are among those that are stored.
use Rattle.obs_store.proofs.StoredLaws.{stored_inside}
use Rattle.obs_store.proofs.stored.find_sat.Goals as goal

pub first-requires : goal.first-requires
first-requires c =
    stored_inside c.args.sats.now c.args.values.now c.loop-place.place c.loop-place.first (record { number = 0; count = 0 }) c.loop-place-test.true c.requires c.loop-place.invariant.first
