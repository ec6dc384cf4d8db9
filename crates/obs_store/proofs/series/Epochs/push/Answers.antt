-- One more epoch, later than the last.
use Rattle.obs_store.proofs.EpochsLaws.{epochs_push}
use Rattle.obs_store.proofs.series.Epochs.push.Goals as goal

pub invariant_of-self-2 : goal.invariant_of-self-2
invariant_of-self-2 c =
    rw c.in_ok-push.ensures.items (epochs_push _ _ c.self.invariant c.len-count.ensures.kept (rw c.self.view_is c.requires.room) (rw c.self.view_is c.requires.later))
