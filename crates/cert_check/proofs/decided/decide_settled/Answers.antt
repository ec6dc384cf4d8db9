use Rattle.std.proofs.Common.{◌≡◌, inl, ℕ, List, ℤ, pos, to_z, of_z, refl, sym, ap, ◌∙◌, subst, Err}
use Rattle.std.specs.Int.{w128}
use Rattle.obs_rows.specs.declared.sessions.Session.{Session}
use Rattle.obs_rows.specs.Signals.{fine_signals}
use Rattle.integer_form.specs.declared.form.Form.{Form}
use Rattle.fix_decide.specs.declared.decision.Decision.{Decision}
use Rattle.integer_form.specs.FloatPoint.{HasWide}
use Rattle.int_search.specs.declared.answer.TwoBest.{TwoBest}
use Rattle.int_search.specs.Answers.{IsTwoBest}
use Rattle.int_search.specs.ReducedCounts.{KeepsBudget, HasAnswer, IsSearchEnd}
use Rattle.int_search.specs.declared.answer.SearchFault.{SearchFault}
use Rattle.int_search.specs.declared.answer.SearchFault.TheVariants.{Spent, Overwidth}
use Rattle.fix_decide.specs.UpperSums.{top}
use Rattle.fix_decide.specs.Widths.{AreWide}
use Rattle.fix_decide.specs.Decisions.{IsSeparated, first_of, move_of}
use Rattle.cert_data.specs.Tails.{AreVectors, tail_of_vectors}
use Rattle.cert_check.specs.Settled.{AreFound}
use Rattle.cert_check.proofs.DecidedLaws.{told_decision, refused_decision, vectors_fit, top_word, told_best}
use Rattle.cert_check.proofs.decided.decide_settled.Goals as goal

found_of : (s : Session) (f : Form) (budget : ℕ) (d : Decision) (b : TwoBest) → d.best ≡ b → d.moved ≡ move_of f (first_of b) →
    (HasWide (move_of f (first_of b)) → ⊥) → IsTwoBest f b → KeepsBudget f budget b → HasAnswer f budget →
    d.top ≡ top f.h s.arcs (fine_signals s.signals) s.pairs (first_of b) d.moved →
    (AreWide s.arcs (fine_signals s.signals) s.pairs (first_of b) (move_of f (first_of b)) → ⊥) → AreFound s f budget f.h d.moved d.best d.top
found_of s f budget d b same moved narrow two kept answered upper bounded = record {
  h_is = refl;
  best_is = subst (IsTwoBest f) (sym same) two;
  visits = subst (KeepsBudget f budget) (sym same) kept;
  answered = answered;
  moved_is = moved ∙ ap (λ (x : TwoBest). move_of f (first_of x)) (sym same);
  narrow = λ w. narrow (subst HasWide moved w);
  top_is = upper ∙ ap (λ (x : TwoBest). top f.h s.arcs (fine_signals s.signals) s.pairs (first_of x) d.moved) (sym same);
  bounded = λ w. bounded (subst (λ (m : List ℤ). AreWide s.arcs (fine_signals s.signals) s.pairs (first_of b) m) moved
      (subst (λ (x : TwoBest). AreWide s.arcs (fine_signals s.signals) s.pairs (first_of x) d.moved) same w));
}

pub returns-in-Ok-decide-clause-decision : goal.returns-in-Ok-decide-clause-decision
returns-in-Ok-decide-clause-decision c =
    let session = c.args.session.now in
    let form = c.args.form.now in
    let decision = c.in-Ok-decide.decision in
    let best = c.in-Ok.best in
    let same : decision.best ≡ best = c.in-Ok-decide.ensures.best in
    let narrow : HasWide (move_of form (first_of best)) → ⊥ = c.in-Ok-decide.ensures.float.1 in
    let found : AreFound session form c.args.budget form.h decision.moved decision.best decision.top =
    found_of session form c.args.budget decision best same c.in-Ok-decide.ensures.moved narrow c.in-Ok.ensures.found c.in-Ok.ensures.visits c.in-Ok.ensures.end
    c.in-Ok-decide.ensures.top (λ w. c.in-Ok-decide.ensures.sum.1 (narrow, w)) in
    let word : to_z w128 (of_z w128 decision.top) ≡ decision.top = top_word decision.top c.in-Ok-decide.ensures.top_from c.in-Ok-decide.ensures.top_to in
    told_decision session form c.args.ratio c.args.budget form.h decision.moved decision.best decision.top decision.fixed c.of_vectors.result
    (subst (λ (t : ℤ). c.of_vectors.result ≡ tail_of_vectors decision.fixed form.h decision.moved decision.best t) word c.of_vectors.ensures.value) found
    (λ h. subst (λ (x : TwoBest). IsSeparated (pos c.args.ratio) decision.top x.p2) (sym same) (c.in-Ok-decide.ensures.fixed.0 h))
    (λ h. c.in-Ok-decide.ensures.fixed.1 (subst (λ (x : TwoBest). IsSeparated (pos c.args.ratio) decision.top x.p2) same h))

pub returns-in-Ok-decide-clause-by_ratio : goal.returns-in-Ok-decide-clause-by_ratio
returns-in-Ok-decide-clause-by_ratio c =
    let decision = c.in-Ok-decide.decision in
    told_best c.args.session.now c.args.ratio c.args.form.now.h decision.moved decision.best c.in-Ok.best (to_z w128 (of_z w128 decision.top)) decision.fixed c.of_vectors.result
    c.of_vectors.ensures.value c.in-Ok-decide.ensures.best c.in-Ok-decide.ensures.by_ratio

pub returns-in-Ok-decide-clause-fits : goal.returns-in-Ok-decide-clause-fits
returns-in-Ok-decide-clause-fits c =
    let session = c.args.session.now in
    let form = c.args.form.now in
    let decision = c.in-Ok-decide.decision in
    let best = c.in-Ok.best in
    let narrow : HasWide (move_of form (first_of best)) → ⊥ = c.in-Ok-decide.ensures.float.1 in
    let found : AreFound session form c.args.budget form.h decision.moved decision.best decision.top =
    found_of session form c.args.budget decision best c.in-Ok-decide.ensures.best c.in-Ok-decide.ensures.moved narrow c.in-Ok.ensures.found c.in-Ok.ensures.visits c.in-Ok.ensures.end
    c.in-Ok-decide.ensures.top (λ w. c.in-Ok-decide.ensures.sum.1 (narrow, w)) in
    let word : to_z w128 (of_z w128 decision.top) ≡ decision.top = top_word decision.top c.in-Ok-decide.ensures.top_from c.in-Ok-decide.ensures.top_to in
    c.of_vectors.ensures.fits (fine_signals session.signals) session.arcs c.args.budget
    (subst (λ (t : ℤ). AreVectors (fine_signals session.signals) session.arcs form.h decision.moved decision.best t) (sym word)
    (vectors_fit session form c.args.budget form.h decision.moved decision.best decision.top c.requires.form c.requires.fine found c.values_from.ensures c.in-Ok-decide.ensures.top_from c.in-Ok-decide.ensures.top_to))

pub returns-in-Err-clause-decision : goal.returns-in-Err-clause-decision
returns-in-Err-clause-decision c = refused_decision c.args.session.now c.args.form.now c.args.budget c.in-Ok.best c.in-Err.fault.place c.in-Ok.ensures.found c.in-Ok.ensures.visits c.in-Ok.ensures.end
    c.in-Err.ensures.only c.in-Err.ensures.float.0 c.in-Err.ensures.sum.0

-- ---- no answer of the search
pub returns-in-Err-Spent-clause-decision : goal.returns-in-Err-Spent-clause-decision
returns-in-Err-Spent-clause-decision c =
    let end : IsSearchEnd c.args.form.now c.args.budget (Err Spent) = subst (λ (e : SearchFault). IsSearchEnd c.args.form.now c.args.budget (Err e)) c.in-Err-Spent.field-0-is c.in-Err-Spent.ensures.end in
    (refl, (end, (c.in-Err-Spent.ensures.spent (ap Err c.in-Err-Spent.field-0-is), c.in-Err-Spent.ensures.reduced)))

pub returns-in-Err-Overwidth-clause-decision : goal.returns-in-Err-Overwidth-clause-decision
returns-in-Err-Overwidth-clause-decision c =
    let end : IsSearchEnd c.args.form.now c.args.budget (Err Overwidth) = subst (λ (e : SearchFault). IsSearchEnd c.args.form.now c.args.budget (Err e)) c.in-Err-Overwidth.field-0-is c.in-Err-Overwidth.ensures.end in
    inl (refl, (end, (c.in-Err-Overwidth.ensures.overwidth (ap Err c.in-Err-Overwidth.field-0-is), c.in-Err-Overwidth.ensures.reduced)))
