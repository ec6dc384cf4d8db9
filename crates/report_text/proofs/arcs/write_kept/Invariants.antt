use Rattle.std.proofs.Common.{◌≡◌, ◌++◌, drop}
use Rattle.report_text.specs.ArcLines.{arc_lines}
use Rattle.report_text.proofs.arcs.write_kept.Given as goal

abbrev pub invariant-loop-arc : goal.invariant-loop-arc
invariant-loop-arc l = l.out.items ++ arc_lines l.system (drop l.arc-index l.kept) ≡ l.fn.out.items ++ arc_lines l.system l.kept
