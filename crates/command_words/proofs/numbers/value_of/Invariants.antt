use Rattle.std.proofs.Common.{◌≡◌, true, length}
use Rattle.decimal_text.specs.Whole.{are_digits, number_from}
use Rattle.command_words.proofs.numbers.value_of.Given as goal

abbrev pub invariant-loop-rest : goal.invariant-loop-rest
invariant-loop-rest l = record {
  digits : are_digits l.rest ≡ true;
  value : number_from l.n l.rest ≡ number_from 0 l.digits;
}

abbrev pub decreases-loop-rest : goal.decreases-loop-rest
decreases-loop-rest l = length l.rest
