use Rattle.std.proofs.Common.{subst}
use Rattle.cert_migrate.specs.declared.old_rows.OldRow.{OldRow}
use Rattle.cert_migrate.specs.Lifted.{IsLiftedRow}
use Rattle.cert_migrate.proofs.ListZips.{zip_more}
use Rattle.cert_migrate.proofs.lifted_rows.lifted_rows.Goals as goal

pub loop-row-preserved : goal.loop-row-preserved
loop-row-preserved c =
    zip_more IsLiftedRow c.args.rows.now c.loop-row.lifted.items c.push.new.self.items c.loop-row.row-index c.row-item.result c.lifted_row.result c.loop-row.invariant c.loop-row-test.true
    (subst (λ (x : OldRow). IsLiftedRow x c.lifted_row.result) c.row-item.is c.lifted_row.ensures) c.in_ok-push.ensures.items
