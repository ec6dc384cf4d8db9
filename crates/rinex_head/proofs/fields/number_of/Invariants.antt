use Rattle.std.proofs.Common.{◌≡◌, ◌+◌, ◌≤◌, length, true}
use Rattle.decimal_text.specs.Whole.{are_digits, number_from}
use Rattle.rinex_head.proofs.fields.number_of.Given as goal

abbrev pub invariant-loop-rest : goal.invariant-loop-rest
invariant-loop-rest l = record {
  value : number_from 0 l.fn.digits ≡ number_from l.number l.rest;
  digits : are_digits l.rest ≡ true;
  fewer : length l.rest ≤ length l.fn.digits;
  before_one : length l.fn.digits ≤ length l.rest → l.number ≤ 0;
  of_one : length l.fn.digits ≤ length l.rest + 1 → l.number ≤ 9;
  of_two : length l.fn.digits ≤ length l.rest + 2 → l.number ≤ 99;
  of_three : length l.fn.digits ≤ length l.rest + 3 → l.number ≤ 999;
  of_four : length l.fn.digits ≤ length l.rest + 4 → l.number ≤ 9999;
  of_five : length l.fn.digits ≤ length l.rest + 5 → l.number ≤ 99_999;
  of_six : l.number ≤ 999_999;
}

abbrev pub decreases-loop-rest : goal.decreases-loop-rest
decreases-loop-rest l = length l.rest
