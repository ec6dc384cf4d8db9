use Rattle.std.proofs.Common.{◌≡◌, ◌≤◌, ◌++◌, length, drop, All}
use Rattle.rinex_head.specs.LineRules.{rest_gives}
use Rattle.cert_data.specs.Tails.{IsMove}
use Rattle.track_text.specs.Lengths.{AreTriples}
use Rattle.track_text.specs.Spelling.{move_lines}
use Rattle.track_text.specs.Rules.{track_rules, numbers_of, before_moves}
use Rattle.track_text.proofs.moves.read_moves.Given as goal

abbrev pub invariant-loop-pair : goal.invariant-loop-pair
invariant-loop-pair l = record {
  reads : rest_gives track_rules l.fn.lines (before_moves (numbers_of l.pairs)) ≡ rest_gives track_rules l.lines (before_moves (numbers_of (drop l.pair-index l.pairs)));
  took : l.fn.lines.left ≡ move_lines l.pairs l.moves.items ++ l.lines.left;
  each : length l.moves.items ≡ l.pair-index;
  inside : l.pair-index ≤ length l.pairs;
  in_range : All IsMove l.moves.items;
  whole : AreTriples l.moves.items;
}
