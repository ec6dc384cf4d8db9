use Rattle.std.proofs.Common.{◌≡◌, ◌++◌, drop}
use Rattle.report_text.specs.Residuals.{rows_text}
use Rattle.report_text.proofs.residuals.write_rows.Given as goal

abbrev pub invariant-loop-row : goal.invariant-loop-row
invariant-loop-row l = l.out.items ++ rows_text l.arcs l.signals l.z l.moved l.pair.number l.pair.rows (drop l.row-index l.pair.rows)
    ≡ l.fn.out.items ++ rows_text l.arcs l.signals l.z l.moved l.pair.number l.pair.rows l.pair.rows
