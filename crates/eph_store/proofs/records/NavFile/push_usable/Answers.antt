-- A usable record more in both lists.
use Rattle.eph_store.proofs.FitLaws.{fit_with}
use Rattle.eph_store.proofs.records.NavFile.push_usable.Goals as goal

pub invariant_of-self-in_default : goal.invariant_of-self-in_default
invariant_of-self-in_default c =
    rw (c.in_ok-push.ensures.items, c.in_default.ensures.items) (fit_with _ _ c.args.raw c.args.eph c.self.invariant c.requires.usable c.requires.numbers)
