use Rattle.std.proofs.Common.{◌≡◌, map, take}
use Rattle.command_words.proofs.parts.copies_of.Given as goal

abbrev pub invariant-loop-text : goal.invariant-loop-text
invariant-loop-text l = l.copies.items ≡ map (λ v. v.now) (take l.text-index l.texts)
