-- The digits so far.
use Rattle.std.proofs.Common.{◌≡◌, ◌+◌, ◌*◌, ◌^◌, ◌≤◌, length}
use Rattle.decimal_text.specs.Whole.{are_digits, number_from}
use Rattle.obs_fields.proofs.amounts.digits.Given as goal

abbrev pub invariant-loop-rest : goal.invariant-loop-rest
invariant-loop-rest l = record {
  value : number_from 0 l.text ≡ number_from l.number l.rest;
  digits : are_digits l.text ≡ are_digits l.rest;
  room : (l.number + 1) * 10 ^ length l.rest ≤ 10 ^ 10;
}

abbrev pub decreases-loop-rest : goal.decreases-loop-rest
decreases-loop-rest l = length l.rest
