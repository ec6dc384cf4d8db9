-- A record more that isn't usable.
use Rattle.eph_store.proofs.FitLaws.{fit_without}
use Rattle.eph_store.proofs.records.NavFile.push.Goals as goal

pub invariant_of-self-in-Err : goal.invariant_of-self-in-Err
invariant_of-self-in-Err c =
    rw c.in_ok-push-in-Err.ensures.items (fit_without _ _ c.args.raw c.self.invariant (λ u. absurd (cc (c.in-Err.ensures.usable.1 u))))
