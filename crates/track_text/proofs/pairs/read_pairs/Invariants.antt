use Rattle.std.proofs.Common.{◌≡◌, ◌+◌, ◌<◌, ◌≤◌, ◌++◌, ◌∷◌, ℕ, length, codes, All, AllPairs}
use Rattle.obs_rows.specs.Pairs.{HasItsArcs}
use Rattle.obs_rows.specs.Ranges.{IsPoint}
use Rattle.obs_rows.specs.Signals.{fine_signals}
use Rattle.obs_rows.specs.Unused.{HasUsedRows}
use Rattle.obs_rows.specs.declared.limits.TheConstants.{MOST_PAIRS}
use Rattle.rinex_head.specs.LineRules.{rest_gives}
use Rattle.cert_lines.specs.Lengths.{IsWholePair}
use Rattle.cert_lines.specs.Lines.{count_line}
use Rattle.track_text.specs.Lengths.{AreTriples}
use Rattle.track_text.specs.Spelling.{all_placed_pairs}
use Rattle.track_text.specs.Rules.{track_rules, frame, numbers_of, before_pairs, PairCount}
use Rattle.track_text.proofs.pairs.read_pairs.Given as goal

abbrev pub invariant-pairs : goal.invariant-pairs
invariant-pairs l = record {
  reads : (budget : ℕ) → rest_gives track_rules l.fn.lines (PairCount (frame budget (fine_signals l.signals)) l.arcs)
      ≡ rest_gives track_rules l.lines (before_pairs (frame budget (fine_signals l.signals)) l.arcs l.left l.least (numbers_of l.pairs.items));
  took : l.fn.lines.left ≡ count_line (codes "pairs") (length l.pairs.items + l.left) ∷ (all_placed_pairs (fine_signals l.signals) l.pairs.items l.points.items ++ l.lines.left);
  some : 1 ≤ length l.pairs.items + l.left;
  few : length l.pairs.items + l.left ≤ MOST_PAIRS;
  each : length l.points.items ≡ length l.pairs.items;
  below : All (λ p. p.number < l.least) l.pairs.items;
  rising : AllPairs (λ p q. p.number < q.number) l.pairs.items;
  have_arcs : All (HasItsArcs l.arcs) l.pairs.items;
  used : All (HasUsedRows (fine_signals l.signals)) l.pairs.items;
  points : All IsPoint l.points.items;
  whole : All IsWholePair l.pairs.items;
  triples : AreTriples l.points.items;
}

abbrev pub decreases-pairs : goal.decreases-pairs
decreases-pairs l = l.left
