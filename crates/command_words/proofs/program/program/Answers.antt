use Rattle.std.proofs.Common.{rules, ◌<◌, ◌∙◌, List, ap, ap₂, fold, get_or, length, map, sym, take_all}
use Rattle.std.proofs.lemmas.List.Sums.{fold_more}
use Rattle.clap.specs.Simple.{App, app_of, with_subcommand}
use Rattle.clap.specs.Walk.{Text}
use Rattle.command_words.specs.declared.command_name.CommandName.{CommandName}
use Rattle.command_words.specs.declared.command_name.CommandName.TheVariants as command_name
use Rattle.command_words.specs.declared.settings.Setting.{Setting}
use Rattle.command_words.specs.Commands.{bare_app, command_shape}
use Rattle.command_words.specs.Settings.{name_of}
use Rattle.command_words.specs.Split.{all_commands}
use Rattle.command_words.proofs.ProgramLaws.{with_one}
use Rattle.command_words.proofs.program.program.Goals as goal

pub loop-command-preserved : goal.loop-command-preserved
loop-command-preserved c =
    let index_below : c.loop-command.command-index < length all_commands = search rules in
    c.in_ok-program.ensures
    ∙ ap₂ (λ (name : Text) (settings : List Setting). with_subcommand (app_of c.loop-command.program) (command_shape name (map name_of settings))) c.name.ensures c.settings.ensures
    ∙ ap (λ (a : App). with_one a (get_or all_commands c.loop-command.command-index command_name.Fix)) c.loop-command.invariant
    ∙ sym (fold_more with_one bare_app all_commands c.loop-command.command-index command_name.Fix index_below)

pub returns : goal.returns
returns c = c.loop-command.invariant ∙ ap (λ (cs : List CommandName). fold with_one bare_app cs) (take_all c.loop-command.command-index all_commands (search rules))
