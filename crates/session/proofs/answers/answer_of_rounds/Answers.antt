use Rattle.std.proofs.Common.{List, refl, sym, ap, ◌∙◌, subst}
use Rattle.std.proofs.lemmas.Bool.{false≢true}
use Rattle.obs_rows.specs.declared.arcs.Arc.{Arc}
use Rattle.obs_rows.specs.Arcs.{free_count}
use Rattle.round_steps.specs.Counts.{AreFew, AreMany}
use Rattle.round_steps.specs.Runs.{Rules, IsEnd, IsBestEnd, EndsEarly, EndsFull}
use Rattle.session.specs.Answers.{GoesOn}
use Rattle.session.proofs.answers.answer_of_rounds.Goals as goal

pub returns-then-are_few-clause-answer : goal.returns-then-are_few-clause-answer
returns-then-are_few-clause-answer g c = (refl, (subst (AreFew c.args.taken) c.requires.begins.arcs_are (c.if-are_few.ensures.0 refl), (refl, refl)))

pub returns-then-are_many-clause-answer : goal.returns-then-are_many-clause-answer
returns-then-are_many-clause-answer g c = (
  c.free_count.ensures ∙ ap (λ (a : List Arc). free_count a) c.requires.begins.arcs_are,
  (
    λ few. false≢true (c.if-are_few.ensures.1 (subst (AreFew c.args.taken) (sym c.requires.begins.arcs_are) few)),
    (subst AreMany c.requires.begins.arcs_are (c.if-are_many.ensures.0 refl), (refl, refl)),
  ),
)

pub returns-in-Early-clause-answer : goal.returns-in-Early-clause-answer
returns-in-Early-clause-answer g c =
    let rules : Rules = g.R.Rounds.rules c.args.rounds.now in
    let goes_on : GoesOn rules c.args.taken = record {
      not_few = λ few. false≢true (c.if-are_few.ensures.1 (subst (AreFew c.args.taken) (sym c.requires.begins.arcs_are) few));
      not_many = λ many. false≢true (c.if-are_many.ensures.1 (subst AreMany (sym c.requires.begins.arcs_are) many));
    } in
    let ends : EndsEarly rules c.in-Early.made c.in-Early.stage c.in-Early.tail =
    subst (IsEnd rules c.args.options.now.ratio c.args.options.now.budget) c.in-Early.is c.in_ok-made.ensures.end in
    (goes_on, ends)

pub returns-in-Full-clause-answer : goal.returns-in-Full-clause-answer
returns-in-Full-clause-answer g c =
    let rules : Rules = g.R.Rounds.rules c.args.rounds.now in
    let goes_on : GoesOn rules c.args.taken = record {
      not_few = λ few. false≢true (c.if-are_few.ensures.1 (subst (AreFew c.args.taken) (sym c.requires.begins.arcs_are) few));
      not_many = λ many. false≢true (c.if-are_many.ensures.1 (subst AreMany (sym c.requires.begins.arcs_are) many));
    } in
    let ends : EndsFull rules c.args.options.now.ratio c.args.options.now.budget c.in-Full.made c.in-Full.session c.in-Full.tail =
    subst (IsEnd rules c.args.options.now.ratio c.args.options.now.budget) c.in-Full.is c.in_ok-made.ensures.end in
    (goes_on, record { ratio = refl; budget = refl; ends = ends })

pub run_rounds-requires-clause-ready : goal.run_rounds-requires-clause-ready
run_rounds-requires-clause-ready g c = c.requires.ready (record {
  not_few = λ few. false≢true (c.if-are_few.ensures.1 (subst (AreFew c.args.taken) (sym c.requires.begins.arcs_are) few));
  not_many = λ many. false≢true (c.if-are_many.ensures.1 (subst AreMany (sym c.requires.begins.arcs_are) many));
})

pub returns-in-Full-clause-by_ratio : goal.returns-in-Full-clause-by_ratio
returns-in-Full-clause-by_ratio g c = subst (IsBestEnd c.args.options.now.ratio) c.in-Full.is c.in_ok-made.ensures.by_ratio
