use Rattle.std.proofs.Common.{◌≡◌, ◌++◌, drop, take, All}
use Rattle.cert_words.specs.Spelling.{text_of_lines}
use Rattle.cert_lines.specs.Lengths.{IsWholePair}
use Rattle.cert_text.specs.Spelling.{all_pair_lines}
use Rattle.obs_rows.specs.Signals.{fine_signals}
use Rattle.cert_text.proofs.parts.push_all_pair_lines.Given as goal

abbrev pub invariant-loop-pair : goal.invariant-loop-pair
invariant-loop-pair l = record {
  text : l.out.items ++ text_of_lines (all_pair_lines (fine_signals l.signals) (drop l.pair-index l.pairs)) ≡ l.fn.out.items ++ text_of_lines (all_pair_lines (fine_signals l.signals) l.pairs);
  whole : All IsWholePair (take l.pair-index l.pairs);
}
