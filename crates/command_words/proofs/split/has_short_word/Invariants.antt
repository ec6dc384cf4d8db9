use Rattle.std.proofs.Common.{◌≡◌, map, string_bytes, length}
use Rattle.command_words.specs.Commands.{has_short}
use Rattle.command_words.proofs.split.has_short_word.Given as goal

abbrev pub invariant-loop-rest : goal.invariant-loop-rest
invariant-loop-rest l = has_short (map (λ w. string_bytes w) l.rest) ≡ has_short (map (λ w. string_bytes w) l.words)

abbrev pub decreases-loop-rest : goal.decreases-loop-rest
decreases-loop-rest l = length l.rest
