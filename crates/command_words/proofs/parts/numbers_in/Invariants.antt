use Rattle.clap.specs.Matches.{found_of}
use Rattle.clap.specs.Walk.{rows_of}
use Rattle.command_words.proofs.GivenLaws.{HasUpTo}
use Rattle.command_words.proofs.parts.numbers_in.Given as goal

abbrev pub invariant-loop-place : goal.invariant-loop-place
invariant-loop-place l = HasUpTo (rows_of (found_of l.matches)) l.given.items l.place
