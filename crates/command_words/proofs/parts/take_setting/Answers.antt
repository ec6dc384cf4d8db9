use Rattle.std.proofs.Common.{◌≡◌, ◌∙◌, List, [], OnOk, IsErrOf, ap, subst}
use Rattle.clap.specs.Matches.{found_of}
use Rattle.clap.specs.Walk.{Text, rows_of}
use Rattle.command_words.specs.Commands.{values_in}
use Rattle.command_words.specs.Settings.{name_of}
use Rattle.command_words.specs.Split.{AreAll, TakesNumbers}
use Rattle.command_words.specs.declared.fault.WordFault.TheVariants.{Usage}
use Rattle.command_words.proofs.GivenLaws.{none_taken}
use Rattle.command_words.proofs.ProgramLaws.{no_texts, some_texts}
use Rattle.command_words.proofs.parts.take_setting.Goals as goal

pub returns-in-Some-clause-numbers : goal.returns-in-Some-clause-numbers
returns-in-Some-clause-numbers c =
    let texts = some_texts (found_of c.args.matches.now) c.name.result.now _ c.in-Some.ensures ∙ ap (λ (id : Text). values_in id (rows_of (found_of c.args.matches.now))) c.name.ensures in
    subst (λ (ts : List Text). OnOk c.take_numbers.result (TakesNumbers c.args.setting ts c.args.given.now.items c.take_numbers.new.given.items)) texts c.take_numbers.ensures.numbers

pub returns-in-Some-clause-usage : goal.returns-in-Some-clause-usage
returns-in-Some-clause-usage c =
    let texts = some_texts (found_of c.args.matches.now) c.name.result.now _ c.in-Some.ensures ∙ ap (λ (id : Text). values_in id (rows_of (found_of c.args.matches.now))) c.name.ensures in
    subst (λ (ts : List Text). IsErrOf c.take_numbers.result Usage → AreAll c.args.setting ts → ⊥) texts c.take_numbers.ensures.usage

pub returns-in-None-clause-numbers : goal.returns-in-None-clause-numbers
returns-in-None-clause-numbers c =
    let none : [] ≡ values_in (name_of c.args.setting) (rows_of (found_of c.args.matches.now)) =
    no_texts (found_of c.args.matches.now) c.name.result.now c.in-None.ensures ∙ ap (λ (id : Text). values_in id (rows_of (found_of c.args.matches.now))) c.name.ensures in
    subst (λ (ts : List Text). TakesNumbers c.args.setting ts c.args.given.now.items c.args.given.now.items) none (none_taken c.args.setting c.args.given.now.items)
