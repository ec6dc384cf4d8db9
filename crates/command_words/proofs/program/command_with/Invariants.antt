use Rattle.std.proofs.Common.{◌≡◌, map, take}
use Rattle.clap.specs.Simple.{app_of}
use Rattle.command_words.specs.Settings.{name_of}
use Rattle.command_words.proofs.ProgramLaws.{started}
use Rattle.command_words.proofs.program.command_with.Given as goal

abbrev pub invariant-loop-setting : goal.invariant-loop-setting
invariant-loop-setting l = app_of l.command ≡ started l.name (map name_of (take l.setting-index l.settings))
