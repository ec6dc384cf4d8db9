use Rattle.std.proofs.Common.{◌≡◌, ◌∙◌, false, List, [], sym, ap, map, string_bytes}
use Rattle.clap.specs.Faults.{fault_of, is_simple_and_free}
use Rattle.clap.specs.Simple.{App, is_simple, subcommand_of, app_of}
use Rattle.clap.specs.Walk.{Text}
use Rattle.command_words.specs.Commands.{app_with, has_short}
use Rattle.command_words.specs.Split.{commands}
use Rattle.command_words.specs.declared.fault.WordFault.TheVariants.{Usage}
use Rattle.command_words.proofs.JobLaws.{split_account}
use Rattle.command_words.proofs.ProgramLaws.{commands_free, commands_simple, is_split, no_kind, no_pair, pair_of}
use Rattle.command_words.proofs.split.split.Goals as goal

pub returns-in-Err-clause-usage : goal.returns-in-Err-clause-usage
returns-in-Err-clause-usage c = λ is command rows split.
    let words : List Text = map (λ w. string_bytes w) c.args.words.now in
    let usage : c.fault_of.result ≡ Usage = cc is in
    let passes : fault_of (app_of c.in_ok-program.program) words ≡ [] = ap (λ (a : App). fault_of a words) c.in_ok-program.ensures ∙ (split_account words command rows split).0 in
    let memory = no_kind c.in-Err.error _ passes (c.in-Err.ensures.kinds (ap is_simple_and_free c.in_ok-program.ensures ∙ commands_free)) in
    absurd (cc (sym usage ∙ c.fault_of.ensures.memory memory))

pub returns-in-Some-clause-ok : goal.returns-in-Some-clause-ok
returns-in-Some-clause-ok c =
    let words : List Text = map (λ w. string_bytes w) c.args.words.now in
    let passes : fault_of (app_with commands) words ≡ [] =
    sym (ap (λ (a : App). fault_of a words) c.in_ok-program.ensures)
    ∙ c.in-Ok.ensures.kinds (ap is_simple_and_free c.in_ok-program.ensures ∙ commands_free) in
    let gives = (c.in-Ok.ensures.matches (ap is_simple c.in_ok-program.ensures ∙ commands_simple)).1 ∙ ap (λ (a : App). subcommand_of a words) c.in_ok-program.ensures in
    let no_short : has_short words ≡ false = sym c.has_short_word.ensures ∙ c.if-has_short_word.false in
    is_split words _ _ no_short passes (sym gives ∙ pair_of _ _ _ _ _ c.in-Some.ensures.name c.in-Some.ensures.rows)

pub returns-clause-usage : goal.returns-clause-usage
returns-clause-usage c = λ is command rows split.
    let words : List Text = map (λ w. string_bytes w) c.args.words.now in
    let gives = (c.in-Ok.ensures.matches (ap is_simple c.in_ok-program.ensures ∙ commands_simple)).1 ∙ ap (λ (a : App). subcommand_of a words) c.in_ok-program.ensures in
    no_pair _ _ _ (command, rows) c.in-None.ensures.name (gives ∙ (split_account words command rows split).1)
