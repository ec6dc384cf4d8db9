use Rattle.std.proofs.Common.{◌≡◌, ◌+◌, ◌≤◌, ◌⊎◌, ◌++◌, ℕ, List, [], length, All}
use Rattle.rinex_head.specs.LineRules.{rest_gives}
use Rattle.obs_rows.specs.Arcs.{IsArcInRange, free_count}
use Rattle.obs_rows.specs.declared.units.TheConstants.{MOST_FREE_ARCS}
use Rattle.cert_lines.specs.Lines.{arc_lines}
use Rattle.cert_lines.specs.Lengths.{IsWholeArc}
use Rattle.cert_text.specs.Parts.{ArcsAreTaken}
use Rattle.obs_rows.specs.declared.arcs.Arc.{Arc}
use Rattle.obs_rows.specs.Signals.{fine_signals}
use Rattle.obs_rows.specs.Unused.{HasUsedShifts}
use Rattle.cert_lines.specs.Versions.{most_sat}
use Rattle.cert_text.proofs.arc_readers.read_arc_lines.Given as goal

abbrev pub invariant-arcs : goal.invariant-arcs
invariant-arcs g l = record {
  reads : (before : ℕ → List Arc → g.G.Grammar.State) → ArcsAreTaken g.G.Grammar.rules l.version (fine_signals l.signals) before
      → rest_gives g.G.Grammar.rules l.fn.lines (before l.count []) ≡ rest_gives g.G.Grammar.rules l.lines (before l.left l.arcs.items);
  took : l.fn.lines.left ≡ arc_lines (fine_signals l.signals) l.arcs.items ++ l.lines.left;
  count : length l.arcs.items + l.left ≡ l.count;
  free : l.free ≡ free_count l.arcs.items;
  few_free : l.free ≤ MOST_FREE_ARCS;
  some_free : (1 ≤ l.left) ⊎ (1 ≤ l.free);
  ranges : All IsArcInRange l.arcs.items;
  of_version : All (λ a. a.sat ≤ most_sat l.version) l.arcs.items;
  used : All (HasUsedShifts (fine_signals l.signals)) l.arcs.items;
  whole : All IsWholeArc l.arcs.items;
}

abbrev pub decreases-arcs : goal.decreases-arcs
decreases-arcs g l = l.left
