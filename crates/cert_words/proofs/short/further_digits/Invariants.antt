use Rattle.std.proofs.Common.{◌≡◌, ◌+◌, ◌<◌, ◌^◌, ◌++◌, drop}
use Rattle.std.specs.Fmt.{decimal}
use Rattle.cert_words.proofs.short.further_digits.Given as goal

abbrev pub invariant-loop-k : goal.invariant-loop-k
invariant-loop-k g l = record {
  spelled : decimal l.first ++ l.text ≡ decimal l.number ++ drop l.k l.text;
  some : 0 < l.number;
  small : l.number < 10 ^ (l.k + 1);
}
