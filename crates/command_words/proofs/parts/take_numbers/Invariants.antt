use Rattle.std.proofs.Common.{map, take}
use Rattle.command_words.specs.Split.{TakesNumbers}
use Rattle.command_words.proofs.parts.take_numbers.Given as goal

abbrev pub invariant-loop-text : goal.invariant-loop-text
invariant-loop-text l = TakesNumbers l.setting (map (λ v. v.now) (take l.text-index l.texts)) l.fn.given.items l.given.items
