use Rattle.std.proofs.Common.{◌≡◌, ◌++◌, drop, take, All}
use Rattle.cert_words.specs.Spelling.{text_of_lines}
use Rattle.cert_lines.specs.Lengths.{IsWholeArc}
use Rattle.cert_lines.specs.Lines.{arc_lines}
use Rattle.obs_rows.specs.Signals.{fine_signals}
use Rattle.cert_lines.proofs.write.push_arc_lines.Given as goal

abbrev pub invariant-loop-arc : goal.invariant-loop-arc
invariant-loop-arc l = record {
  text : l.out.items ++ text_of_lines (arc_lines (fine_signals l.signals) (drop l.arc-index l.arcs)) ≡ l.fn.out.items ++ text_of_lines (arc_lines (fine_signals l.signals) l.arcs);
  whole : All IsWholeArc (take l.arc-index l.arcs);
}
