use Rattle.std.proofs.Common.{◌≡◌, ◌+◌, ◌++◌, ℕ, length, All}
use Rattle.rinex_head.specs.LineRules.{rest_gives}
use Rattle.obs_rows.specs.Arcs.{IsOfPair}
use Rattle.obs_rows.specs.Rows.{AreBelow}
use Rattle.cert_lines.specs.Lines.{row_lines}
use Rattle.cert_lines.specs.Lengths.{IsWholeRow}
use Rattle.cert_text.specs.Parts.{RowsAreTaken}
use Rattle.obs_rows.specs.Signals.{fine_signals}
use Rattle.obs_rows.specs.Unused.{IsZeroOff}
use Rattle.cert_text.proofs.rows.read_rows.Given as goal

abbrev pub invariant-rows : goal.invariant-rows
invariant-rows g l = record {
  reads : (before : ℕ → ℕ → g.G.Grammar.State) (after : g.G.Grammar.State) → RowsAreTaken g.G.Grammar.rules (fine_signals l.signals) l.arcs l.head.number before after
      → rest_gives g.G.Grammar.rules l.fn.lines (before l.head.count 0) ≡ rest_gives g.G.Grammar.rules l.lines (before l.left l.least);
  took : l.fn.lines.left ≡ row_lines (fine_signals l.signals) l.pair.rows ++ l.lines.left;
  count : length l.pair.rows + l.left ≡ l.head.count;
  number : l.pair.number ≡ l.head.number;
  tag : l.pair.tag ≡ l.head.tag;
  group : l.pair.group ≡ l.head.group;
  below : AreBelow l.pair.rows l.least;
  of_pair : All (IsOfPair l.arcs l.head.number) l.pair.rows;
  used : All (λ r. IsZeroOff (fine_signals l.signals) r.y) l.pair.rows;
  whole : All IsWholeRow l.pair.rows;
}

abbrev pub decreases-rows : goal.decreases-rows
decreases-rows g l = l.left
