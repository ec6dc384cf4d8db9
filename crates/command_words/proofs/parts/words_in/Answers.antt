use Rattle.std.proofs.Common.{◌∙◌}
use Rattle.std.proofs.lemmas.Result.{IfOk-weaker}
use Rattle.clap.specs.Matches.{found_of}
use Rattle.command_words.specs.Commands.{word_id}
use Rattle.command_words.proofs.ProgramLaws.{no_texts, some_texts}
use Rattle.command_words.proofs.parts.words_in.Goals as goal

pub returns-in-Some : goal.returns-in-Some
returns-in-Some c = IfOk-weaker c.copies_of.result _ _ (λ copies h. h ∙ some_texts (found_of c.args.matches.now) word_id _ c.in-Some.ensures) c.copies_of.ensures

pub returns-in-None : goal.returns-in-None
returns-in-None c = c.new.ensures.items ∙ no_texts (found_of c.args.matches.now) word_id c.in-None.ensures
