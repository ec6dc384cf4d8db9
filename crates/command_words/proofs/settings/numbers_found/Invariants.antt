use Rattle.std.proofs.Common.{◌≡◌, length}
use Rattle.command_words.specs.Settings.{numbers_for, with_seen}
use Rattle.command_words.proofs.settings.numbers_found.Given as goal

abbrev pub invariant-loop-rest : goal.invariant-loop-rest
invariant-loop-rest l = with_seen l.seen (numbers_for l.setting l.rest) ≡ numbers_for l.setting l.given

abbrev pub decreases-loop-rest : goal.decreases-loop-rest
decreases-loop-rest l = length l.rest
