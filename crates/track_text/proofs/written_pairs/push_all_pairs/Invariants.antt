use Rattle.std.proofs.Common.{◌≡◌, ◌++◌, drop, take, All}
use Rattle.cert_words.specs.Spelling.{text_of_lines}
use Rattle.obs_rows.specs.Signals.{fine_signals}
use Rattle.cert_lines.specs.Lengths.{IsWholePair}
use Rattle.track_text.specs.Lengths.{AreTriples}
use Rattle.track_text.specs.Spelling.{all_placed_pairs}
use Rattle.track_text.proofs.written_pairs.push_all_pairs.Given as goal

abbrev pub invariant-loop-k : goal.invariant-loop-k
invariant-loop-k l = record {
  text : l.out.items ++ text_of_lines (all_placed_pairs (fine_signals l.signals) (drop l.k l.pairs) (drop l.k l.points))
      ≡ l.fn.out.items ++ text_of_lines (all_placed_pairs (fine_signals l.signals) l.pairs l.points);
  whole : All IsWholePair (take l.k l.pairs);
  points : AreTriples (take l.k l.points);
}
