use Rattle.std.proofs.Common.{rules, ◌∙◌, arith}
use Rattle.decimal_text.proofs.Numbers.{digits_are}
use Rattle.command_words.proofs.numbers.number_of.Goals as goal

pub returns : goal.returns
returns c = record {
  digits = search rules;
  some = grind arith;
  few = omega arith;
  value = c.value_of.ensures ∙ digits_are c.args.word.now;
}
