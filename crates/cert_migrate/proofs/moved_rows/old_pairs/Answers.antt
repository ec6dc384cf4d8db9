use Rattle.std.proofs.Common.{◌<◌, ◌^◌, unsigned_abs, sym, subst}
use Rattle.obs_rows.specs.declared.pair_rows.PairRows.{PairRows}
use Rattle.cert_migrate.specs.Carriers.{IsPairOf}
use Rattle.cert_migrate.proofs.ListZips.{zip_more}
use Rattle.cert_migrate.proofs.moved_rows.old_pairs.Goals as goal

pub loop-pair-preserved : goal.loop-pair-preserved
loop-pair-preserved c =
    zip_more IsPairOf c.args.pairs.now c.loop-pair.old.items c.push.new.self.items c.loop-pair.pair-index c.pair-item.result c.in_ok-old_pair.field-0 c.loop-pair.invariant c.loop-pair-test.true
    (subst (λ (x : PairRows). IsPairOf x c.in_ok-old_pair.field-0) c.pair-item.is c.in_ok-old_pair.ensures) c.in_ok-push.ensures.items

pub old_pair-requires : goal.old_pair-requires
old_pair-requires c = subst (λ (p : PairRows). unsigned_abs p.group < 2 ^ 50) (sym c.pair-item.is) (c.requires c.loop-pair.pair-index c.pair-item.result c.loop-pair-test.true)
