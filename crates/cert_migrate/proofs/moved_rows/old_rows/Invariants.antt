use Rattle.std.proofs.Common.{take}
use Rattle.std.specs.List.{AllZip}
use Rattle.cert_migrate.specs.Carriers.{IsRowOf}
use Rattle.cert_migrate.proofs.moved_rows.old_rows.Given as goal

abbrev pub invariant-loop-row : goal.invariant-loop-row
invariant-loop-row l = AllZip IsRowOf (take l.row-index l.rows) l.old.items
