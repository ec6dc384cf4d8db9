use Rattle.std.proofs.Common.{◌≡◌, length}
use Rattle.command_words.specs.Settings.{are_of_sim}
use Rattle.command_words.proofs.settings.are_of_sim.Given as goal

abbrev pub invariant-loop-rest : goal.invariant-loop-rest
invariant-loop-rest l = are_of_sim l.rest ≡ are_of_sim l.given

abbrev pub decreases-loop-rest : goal.decreases-loop-rest
decreases-loop-rest l = length l.rest
