use Rattle.std.proofs.Common.{◌≡◌, ◌++◌, length, take}
use Rattle.cert_words.specs.Spelling.{behind_blanks}
use Rattle.cert_words.proofs.short.leading_numbers.Given as goal

abbrev pub invariant-loop-k : goal.invariant-loop-k
invariant-loop-k g l = record {
  spelled : l.text ≡ behind_blanks (take l.k l.values) ++ l.left;
  size : length l.values ≡ g.row.N;
}
