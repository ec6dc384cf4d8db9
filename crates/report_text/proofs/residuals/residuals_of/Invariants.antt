use Rattle.std.proofs.Common.{◌≡◌, map, take}
use Rattle.report_text.specs.Residuals.{residual}
use Rattle.report_text.proofs.residuals.residuals_of.Given as goal

abbrev pub invariant-loop-signal : goal.invariant-loop-signal
invariant-loop-signal l = l.all.items ≡ map (residual l.arcs l.fn.signals l.z l.moved l.rows l.row) (take l.signal-index l.signals)
