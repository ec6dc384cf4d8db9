use Rattle.std.proofs.Common.{◌≡◌, ◌++◌, take, drop}
use Rattle.decimal_text.specs.Exp.{before_mark, behind_mark}
use Rattle.decimal_text.proofs.exponent.mark_place.Given as goal

abbrev pub invariant-loop-at : goal.invariant-loop-at
invariant-loop-at l = record {
  before : before_mark l.text ≡ take l.at l.text ++ before_mark (drop l.at l.text);
  behind : behind_mark l.text ≡ behind_mark (drop l.at l.text);
}
