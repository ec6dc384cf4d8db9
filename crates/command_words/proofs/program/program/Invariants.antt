use Rattle.std.proofs.Common.{◌≡◌, fold, take}
use Rattle.clap.specs.Simple.{app_of}
use Rattle.command_words.specs.Commands.{bare_app}
use Rattle.command_words.specs.Split.{all_commands}
use Rattle.command_words.proofs.ProgramLaws.{with_one}
use Rattle.command_words.proofs.program.program.Given as goal

abbrev pub invariant-loop-command : goal.invariant-loop-command
invariant-loop-command l = app_of l.program ≡ fold with_one bare_app (take l.command-index all_commands)
