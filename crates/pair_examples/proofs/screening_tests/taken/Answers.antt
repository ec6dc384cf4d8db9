use Rattle.std.proofs.Common.{List, subst, arith}
use Rattle.std.proofs.lemmas.Result.{IfOk-weaker}
use Rattle.epoch_pair.specs.declared.pairs.PairOf.{PairOf}
use Rattle.epoch_pair.specs.Pairs.{IsTaken}
use Rattle.screening.proofs.TakenLaws.{are_pairs_of}
use Rattle.pair_examples.proofs.screening_tests.taken.Goals as goal

pub returns : goal.returns
returns c = IfOk-weaker c.take.result _ _
    (λ v is. are_pairs_of c.args.base.now.epochs c.args.rover.now.epochs 100000 c.in-Ok.all.items v.items 0 c.args.step 3600 (omega arith) c.requires
    (omega arith) c.in-Ok.ensures.near c.in-Ok.ensures.rises
    (subst (λ (xs : List PairOf). IsTaken xs 0 c.args.step 3600 v.items) c.deref.ensures.value is)) c.take.ensures
