-- No epoch was counted.
use Rattle.std.proofs.Common.{refl}
use Rattle.obs_store.proofs.SeenLaws.{none_counted}
use Rattle.obs_store.proofs.tally.Tally.new.Goals as goal

pub returns : goal.returns
returns c = rw c.new.ensures.items (none_counted _ refl)
