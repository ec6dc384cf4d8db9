use Rattle.std.proofs.Common.{◌≡◌, ◌++◌, drop, take}
use Rattle.cert_words.specs.Spelling.{text_of_lines}
use Rattle.track_text.specs.Lengths.{AreTriples}
use Rattle.track_text.specs.Spelling.{move_lines}
use Rattle.track_text.proofs.written_tails.push_move_lines.Given as goal

abbrev pub invariant-loop-k : goal.invariant-loop-k
invariant-loop-k l = record {
  text : l.out.items ++ text_of_lines (move_lines (drop l.k l.pairs) (drop l.k l.moves)) ≡ l.fn.out.items ++ text_of_lines (move_lines l.pairs l.moves);
  whole : AreTriples (take l.k l.moves);
}
