use Rattle.std.proofs.Common.{◌≡◌, ◌+◌, ◌<◌, ◌++◌, ℕ, length, unsigned_abs, All}
use Rattle.rinex_head.specs.LineRules.{rest_gives}
use Rattle.cert_text.specs.Spelling.{all_pair_lines}
use Rattle.cert_lines.specs.Lengths.{IsWholePair}
use Rattle.cert_text.specs.Rules.{cert_rules, frame, before_pairs}
use Rattle.obs_rows.specs.Heads.{KeepsHead}
use Rattle.obs_rows.specs.Signals.{fine_signals}
use Rattle.cert_lines.specs.Versions.{group_limit}
use Rattle.cert_text.proofs.pairs.read_all_pairs.Given as goal

abbrev pub invariant-pairs : goal.invariant-pairs
invariant-pairs l = record {
  reads : (budget : ℕ) → rest_gives cert_rules l.fn.lines (before_pairs (frame l.version budget (fine_signals l.fn.session.signals)) l.fn.session.arcs l.count 0)
      ≡ rest_gives cert_rules l.lines (before_pairs (frame l.version budget (fine_signals l.fn.session.signals)) l.fn.session.arcs l.left l.least);
  took : l.fn.lines.left ≡ all_pair_lines (fine_signals l.fn.session.signals) l.session.pairs ++ l.lines.left;
  count : length l.session.pairs + l.left ≡ l.count;
  below : All (λ p. p.number < l.least) l.session.pairs;
  of_version : All (λ p. unsigned_abs p.group < group_limit l.version) l.session.pairs;
  whole : All IsWholePair l.session.pairs;
  head : KeepsHead l.fn.session l.session;
}

abbrev pub decreases-pairs : goal.decreases-pairs
decreases-pairs l = l.left
