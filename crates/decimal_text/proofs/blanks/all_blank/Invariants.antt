use Rattle.std.proofs.Common.{◌≡◌, length}
use Rattle.decimal_text.specs.Fixed.{are_blank}
use Rattle.decimal_text.proofs.blanks.all_blank.Given as goal

abbrev pub invariant-loop-rest : goal.invariant-loop-rest
invariant-loop-rest l = are_blank l.rest ≡ are_blank l.text

abbrev pub decreases-loop-rest : goal.decreases-loop-rest
decreases-loop-rest l = length l.rest
