use Rattle.std.proofs.Common.{subst}
use Rattle.cert_migrate.specs.declared.old_pairs.OldPair.{OldPair}
use Rattle.cert_migrate.specs.Lifted.{IsLiftedPair}
use Rattle.cert_migrate.proofs.ListZips.{zip_more}
use Rattle.cert_migrate.proofs.lifted_rows.lifted_pairs.Goals as goal

pub loop-pair-preserved : goal.loop-pair-preserved
loop-pair-preserved c =
    zip_more IsLiftedPair c.args.pairs.now c.loop-pair.lifted.items c.push.new.self.items c.loop-pair.pair-index c.pair-item.result c.in_ok-lifted_pair.field-0 c.loop-pair.invariant
    c.loop-pair-test.true
    (subst (λ (x : OldPair). IsLiftedPair x c.in_ok-lifted_pair.field-0) c.pair-item.is c.in_ok-lifted_pair.ensures) c.in_ok-push.ensures.items
