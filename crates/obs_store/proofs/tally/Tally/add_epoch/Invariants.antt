-- The epochs before, and of this epoch the satellites so far.
use Rattle.std.proofs.Common.{[], ◌∷◌, ◌++◌, take, get_or}
use Rattle.obs_store.specs.declared.series.Epoch.{Epoch}
use Rattle.obs_store.specs.Counts.{IsCountOf}
use Rattle.obs_store.proofs.SeenLaws.{with_sats}
use Rattle.obs_store.proofs.tally.Tally.add_epoch.Given as goal

abbrev pub invariant-loop-place : goal.invariant-loop-place
invariant-loop-place l =
    (d : Epoch) → IsCountOf (take l.at l.epochs ++ with_sats (get_or l.epochs l.at d) (take l.place (get_or l.epochs l.at d).sats) ∷ []) l.self.order.items l.self.counts
