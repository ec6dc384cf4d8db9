use Rattle.std.proofs.Common.{subst}
use Rattle.obs_rows.specs.declared.rows.Row.{Row}
use Rattle.cert_migrate.specs.Carriers.{IsRowOf}
use Rattle.cert_migrate.proofs.ListZips.{zip_more}
use Rattle.cert_migrate.proofs.moved_rows.old_rows.Goals as goal

pub loop-row-preserved : goal.loop-row-preserved
loop-row-preserved c =
    zip_more IsRowOf c.args.rows.now c.loop-row.old.items c.push.new.self.items c.loop-row.row-index c.row-item.result c.old_row.result c.loop-row.invariant c.loop-row-test.true
    (subst (λ (x : Row). IsRowOf x c.old_row.result) c.row-item.is c.old_row.ensures) c.in_ok-push.ensures.items
