use Rattle.std.proofs.Common.{take}
use Rattle.std.specs.List.{AllZip}
use Rattle.cert_migrate.specs.Lifted.{IsLiftedRow}
use Rattle.cert_migrate.proofs.lifted_rows.lifted_rows.Given as goal

abbrev pub invariant-loop-row : goal.invariant-loop-row
invariant-loop-row l = AllZip IsLiftedRow (take l.row-index l.rows) l.lifted.items
