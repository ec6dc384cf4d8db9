use Rattle.std.proofs.Common.{rules, ◌<◌, ◌∙◌, ap, length}
use Rattle.clap.specs.Simple.{app_of, with_rule}
use Rattle.clap.specs.Walk.{Text}
use Rattle.command_words.specs.Commands.{option_rule}
use Rattle.command_words.specs.declared.settings.Setting.TheVariants.{Ratio}
use Rattle.command_words.proofs.ProgramLaws.{option_added}
use Rattle.command_words.proofs.program.command_with.Goals as goal

pub loop-setting-preserved : goal.loop-setting-preserved
loop-setting-preserved c =
    let index_below : c.loop-setting.setting-index < length c.args.settings.now = search rules in
    option_added c.args.name.now c.args.settings.now c.loop-setting.setting-index Ratio (app_of c.loop-setting.command) (app_of c.in_ok-command.command) index_below c.loop-setting.invariant
    (c.in_ok-command.ensures ∙ ap (λ (t : Text). with_rule (app_of c.loop-setting.command) (option_rule t)) c.name.ensures)
