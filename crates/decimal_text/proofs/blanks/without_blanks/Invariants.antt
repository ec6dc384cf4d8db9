use Rattle.std.proofs.Common.{◌≡◌, ◌≤◌, length}
use Rattle.decimal_text.specs.Fixed.{without_blanks}
use Rattle.decimal_text.proofs.blanks.without_blanks.Given as goal

abbrev pub invariant-loop-rest : goal.invariant-loop-rest
invariant-loop-rest l = record {
  value : without_blanks l.text ≡ without_blanks l.rest;
  shorter : length l.rest ≤ length l.text;
}

abbrev pub decreases-loop-rest : goal.decreases-loop-rest
decreases-loop-rest l = length l.rest
