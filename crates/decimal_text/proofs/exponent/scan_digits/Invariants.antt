use Rattle.std.proofs.Common.{◌≡◌, ◌+◌, ◌<◌, ◌≤◌, ◌^◌, length}
use Rattle.decimal_text.specs.Exp.{power_digits}
use Rattle.decimal_text.proofs.exponent.scan_digits.Given as goal

abbrev pub invariant-loop-rest : goal.invariant-loop-rest
invariant-loop-rest l = record {
  value : power_digits l.rest l.at l.number l.count ≡ power_digits l.text l.from 0 0;
  place : l.at + length l.rest ≡ l.from + length l.text;
  few : l.count ≤ 3;
  small : l.number < 10 ^ l.count;
}

abbrev pub decreases-loop-rest : goal.decreases-loop-rest
decreases-loop-rest l = length l.rest
