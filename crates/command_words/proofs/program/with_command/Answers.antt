use Rattle.std.proofs.Common.{◌≡◌, ◌∙◌, true, ap}
use Rattle.std.proofs.lemmas.Result.{IfOk-weaker}
use Rattle.clap.specs.Simple.{App, app_of, with_subcommand}
use Rattle.command_words.proofs.ProgramLaws.{third}
use Rattle.command_words.proofs.program.with_command.Goals as goal

pub returns : goal.returns
returns c =
    let plain : (app_of c.in_ok-command.command).top.is_plain ≡ true = ap (λ (a : App). a.top.is_plain) c.in_ok-command.ensures in
    IfOk-weaker c.subcommand.result _ _ (λ r adds. adds.shape (third _ _ _ _ plain) ∙ ap (λ (a : App). with_subcommand (app_of c.args.program) a.top) c.in_ok-command.ensures) c.subcommand.ensures
