use Rattle.std.proofs.Common.{◌∙◌, sym, true≢false}
use Rattle.command_words.proofs.OtherLaws.{all_of_sim, no_others}
use Rattle.command_words.proofs.choices.sim_choice_of.Goals as goal

pub returns-then-not-are_of_sim : goal.returns-then-not-are_of_sim
returns-then-not-are_of_sim c = λ system bands is. absurd (true≢false (sym (all_of_sim c.args.given.now is.no_others) ∙ sym c.are_of_sim.ensures ∙ c.if-not-are_of_sim.true))

pub returns : goal.returns
returns c = record {
  choice = c.in_ok-choice.ensures;
  no_others = no_others c.args.given.now (sym c.are_of_sim.ensures ∙ c.if-not-are_of_sim.false);
}
