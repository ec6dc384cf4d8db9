use Rattle.std.proofs.Common.{◌≡◌, ◌+◌, length}
use Rattle.decimal_text.specs.Exp.{only_blanks}
use Rattle.decimal_text.proofs.exponent.scan_blanks.Given as goal

abbrev pub invariant-loop-rest : goal.invariant-loop-rest
invariant-loop-rest l = record {
  value : only_blanks l.rest l.at l.number ≡ only_blanks l.text l.from l.number;
  place : l.at + length l.rest ≡ l.from + length l.text;
}

abbrev pub decreases-loop-rest : goal.decreases-loop-rest
decreases-loop-rest l = length l.rest
