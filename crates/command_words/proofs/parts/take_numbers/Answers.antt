use Rattle.std.proofs.Common.{rules, ◌<◌, ℕ, List, length, subst, sym}
use Rattle.command_words.specs.Settings.{IsValue}
use Rattle.command_words.proofs.ProgramLaws.{number_at, text_taken}
use Rattle.command_words.proofs.parts.take_numbers.Goals as goal

pub returns-in_default-clause-usage : goal.returns-in_default-clause-usage
returns-in_default-clause-usage c = λ is all.
    let index_below : c.loop-text.text-index < length c.args.texts.now = search rules in
    let number = number_at c.args.setting c.args.texts.now c.loop-text.text-index _ all index_below in
    c.in_default.ensures number.0 (subst (λ (t : List ℕ). IsValue c.args.setting t number.0) (sym c.as_bytes.ensures.value) number.1)

pub loop-text-preserved : goal.loop-text-preserved
loop-text-preserved c =
    let index_below : c.loop-text.text-index < length c.args.texts.now = search rules in
    text_taken c.args.setting c.args.texts.now c.args.given.now.items c.loop-text.given.items c.push.new.given.items c.loop-text.text-index _ _
    c.in-Some.number c.loop-text.invariant index_below c.as_bytes.ensures.value c.in-Some.ensures c.in_ok-push.ensures
