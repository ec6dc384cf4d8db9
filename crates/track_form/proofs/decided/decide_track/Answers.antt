use Rattle.std.proofs.Common.{ℕ, List, All, Err, refl, sym, ap, subst}
use Rattle.std.proofs.lemmas.Result.{IfOk-weaker, IfOk-at_ok, IfErr-at_err}
use Rattle.obs_rows.specs.Pairs.{HasItsArcs}
use Rattle.obs_rows.specs.Signals.{fine_signals}
use Rattle.integer_form.specs.declared.front_form.FrontForm.{FrontForm}
use Rattle.track_data.specs.TrackTails.{IsTrackTailOf}
use Rattle.track_data.specs.declared.tails.TrackTail.{TrackTail}
use Rattle.track_form.specs.declared.factors.PairFactors.{PairFactors}
use Rattle.track_form.specs.Factors.{AreFactors}
use Rattle.int_search.specs.ReducedCounts.{IsSearchEnd}
use Rattle.int_search.specs.declared.answer.SearchFault.{SearchFault}
use Rattle.integer_form.specs.declared.faults.Place.TheVariants as Place
use Rattle.track_form.specs.SumDecided.{IsTrackForm, IsSearchedIn}
use Rattle.track_form.specs.Decided.{IsFormRefused, IsTrackDecision, IsTrackBestWhereFixed, IsSameTail}
use Rattle.track_form.proofs.Found.{of_slices, over_track, refused_told}
use Rattle.track_form.proofs.WeakLaws.{refused_fits}
use Rattle.track_form.proofs.OneDecision.{one_decision}
use Rattle.track_form.proofs.decided.decide_track.Goals as goal

pub form_of_track-requires-clause-arcs : goal.form_of_track-requires-clause-arcs
form_of_track-requires-clause-arcs c =
    let track = c.args.track.now in
    of_slices (λ ar ss ps. All (HasItsArcs ar) ps) track.arcs c.as_slice-arcs.result.now (fine_signals track.signals) (fine_signals track.signals) track.pairs c.as_slice-pairs.result.now
    c.as_slice-arcs.ensures refl c.as_slice-pairs.ensures track.pairs_in.rows_have_arcs

-- ---- no form
pub returns-in-Err-clause-decision : goal.returns-in-Err-clause-decision
returns-in-Err-clause-decision c =
    let track = c.args.track.now in
    let signals = fine_signals track.signals in
    let refused : IsFormRefused track.arcs signals track.pairs c.in-Err.fault =
    over_track (λ ar ts ps. IsFormRefused ar ts ps c.in-Err.fault) track.arcs c.as_slice-arcs.result.now signals signals track.pairs c.as_slice-pairs.result.now c.as_slice-arcs.ensures refl
    c.as_slice-pairs.ensures (IfErr-at_err (IsFormRefused c.as_slice-arcs.result.now signals c.as_slice-pairs.result.now) c.in-Err.is c.in_ok-made.ensures.refused) in
    subst (IsTrackDecision track.arcs signals track.pairs c.args.ratio c.args.budget) (sym c.track_tail_of.ensures) (refused_told track.arcs signals track.pairs c.args.ratio c.args.budget c.in-Err.fault refused)

pub returns-in-Err-clause-only : goal.returns-in-Err-clause-only
returns-in-Err-clause-only c =
    let track = c.args.track.now in
    let signals = fine_signals track.signals in
    let refused : IsFormRefused track.arcs signals track.pairs c.in-Err.fault =
    over_track (λ ar ts ps. IsFormRefused ar ts ps c.in-Err.fault) track.arcs c.as_slice-arcs.result.now signals signals track.pairs c.as_slice-pairs.result.now c.as_slice-arcs.ensures refl
    c.as_slice-pairs.ensures (IfErr-at_err (IsFormRefused c.as_slice-arcs.result.now signals c.as_slice-pairs.result.now) c.in-Err.is c.in_ok-made.ensures.refused) in
    let decision : IsTrackDecision track.arcs signals track.pairs c.args.ratio c.args.budget c.track_tail_of.result =
    subst (IsTrackDecision track.arcs signals track.pairs c.args.ratio c.args.budget) (sym c.track_tail_of.ensures) (refused_told track.arcs signals track.pairs c.args.ratio c.args.budget c.in-Err.fault refused) in
    λ u is. one_decision track.arcs signals track.pairs c.args.ratio c.args.budget u c.track_tail_of.result is decision

pub returns-in-Err-clause-fits : goal.returns-in-Err-clause-fits
returns-in-Err-clause-fits c =
    let track = c.args.track.now in
    let signals = fine_signals track.signals in
    let refused : IsFormRefused track.arcs signals track.pairs c.in-Err.fault =
    over_track (λ ar ts ps. IsFormRefused ar ts ps c.in-Err.fault) track.arcs c.as_slice-arcs.result.now signals signals track.pairs c.as_slice-pairs.result.now c.as_slice-arcs.ensures refl
    c.as_slice-pairs.ensures (IfErr-at_err (IsFormRefused c.as_slice-arcs.result.now signals c.as_slice-pairs.result.now) c.in-Err.is c.in_ok-made.ensures.refused) in
    subst (IsTrackTailOf signals track.arcs track.pairs c.args.budget) (sym c.track_tail_of.ensures) (refused_fits track.arcs signals track.pairs c.args.budget c.in-Err.fault refused)

-- ---- two least vectors
pub decide_best-requires-clause-form : goal.decide_best-requires-clause-form
decide_best-requires-clause-form c =
    let track = c.args.track.now in
    let signals = fine_signals track.signals in
    over_track (λ ar ts ps. (fs : List FrontForm) × IsTrackForm ar ts ps fs c.in-Ok.made.form) track.arcs c.as_slice-arcs.result.now signals signals track.pairs c.as_slice-pairs.result.now c.as_slice-arcs.ensures
    refl c.as_slice-pairs.ensures
    (IfOk-at_ok (λ m. (fs : List FrontForm) × IsTrackForm c.as_slice-arcs.result.now signals c.as_slice-pairs.result.now fs m.form) c.in-Ok.is c.in_ok-made.ensures.form)

pub decide_best-requires-clause-factors : goal.decide_best-requires-clause-factors
decide_best-requires-clause-factors c =
    let track = c.args.track.now in
    let signals = fine_signals track.signals in
    subst (λ (ks : List PairFactors). AreFactors track.arcs signals track.pairs ks) (sym c.as_slice.ensures.value)
    (over_track (λ ar ts ps. AreFactors ar ts ps c.in-Ok.made.factors.items) track.arcs c.as_slice-arcs.result.now signals signals track.pairs c.as_slice-pairs.result.now c.as_slice-arcs.ensures
    refl c.as_slice-pairs.ensures
    (IfOk-at_ok (λ m. AreFactors c.as_slice-arcs.result.now signals c.as_slice-pairs.result.now m.factors.items) c.in-Ok.is c.in_ok-made.ensures.factors))

pub returns-in-Ok-two_best-clause-decision : goal.returns-in-Ok-two_best-clause-decision
returns-in-Ok-two_best-clause-decision c =
    let track = c.args.track.now in
    let is_decision : ℕ → TrackTail → Type 0 = IsTrackDecision track.arcs (fine_signals track.signals) track.pairs c.args.ratio in
    IfOk-weaker c.decide_best.result (λ x. (n : ℕ) → IsSearchedIn c.in-Ok.made.form n c.in-Ok-two_best.best → is_decision n x) (is_decision c.args.budget) (λ x h. h c.args.budget (c.in-Ok-two_best.ensures.visits, c.in-Ok-two_best.ensures.end))
    c.decide_best.ensures.decision

pub returns-in-Ok-two_best-clause-only : goal.returns-in-Ok-two_best-clause-only
returns-in-Ok-two_best-clause-only c =
    let track = c.args.track.now in
    let signals = fine_signals track.signals in
    let is_decision : ℕ → TrackTail → Type 0 = IsTrackDecision track.arcs signals track.pairs c.args.ratio in
    IfOk-weaker c.decide_best.result (λ x. (n : ℕ) → IsSearchedIn c.in-Ok.made.form n c.in-Ok-two_best.best → is_decision n x) (λ x. (u : TrackTail) → is_decision c.args.budget u → IsSameTail u x)
    (λ x h u is. one_decision track.arcs signals track.pairs c.args.ratio c.args.budget u x is (h c.args.budget (c.in-Ok-two_best.ensures.visits, c.in-Ok-two_best.ensures.end))) c.decide_best.ensures.decision

pub returns-in-Ok-two_best-clause-by_ratio : goal.returns-in-Ok-two_best-clause-by_ratio
returns-in-Ok-two_best-clause-by_ratio c =
    let track = c.args.track.now in
    let is_best : TrackTail → Type 0 = IsTrackBestWhereFixed c.args.ratio track.arcs (fine_signals track.signals) track.pairs in
    IfOk-weaker c.decide_best.result (λ x. (n : ℕ) → IsSearchedIn c.in-Ok.made.form n c.in-Ok-two_best.best → is_best x) is_best (λ x h. h c.args.budget (c.in-Ok-two_best.ensures.visits, c.in-Ok-two_best.ensures.end))
    c.decide_best.ensures.by_ratio

-- ---- no answer of the search
pub returns-in-Err-Spent-clause-decision : goal.returns-in-Err-Spent-clause-decision
returns-in-Err-Spent-clause-decision c =
    let track = c.args.track.now in
    let signals = fine_signals track.signals in
    let form_of_track : (fs : List FrontForm) × IsTrackForm track.arcs signals track.pairs fs c.in-Ok.made.form =
    over_track (λ ar ts ps. (fs : List FrontForm) × IsTrackForm ar ts ps fs c.in-Ok.made.form) track.arcs c.as_slice-arcs.result.now signals signals track.pairs c.as_slice-pairs.result.now c.as_slice-arcs.ensures
    refl c.as_slice-pairs.ensures
    (IfOk-at_ok (λ m. (fs : List FrontForm) × IsTrackForm c.as_slice-arcs.result.now signals c.as_slice-pairs.result.now fs m.form) c.in-Ok.is c.in_ok-made.ensures.form) in
    (refl, record { fronts = form_of_track.0; form = c.in-Ok.made.form; of_rows = form_of_track.1; ended = (subst (λ (e : SearchFault). IsSearchEnd c.in-Ok.made.form c.args.budget (Err e)) c.in-Err-Spent.field-0-is c.in-Err-Spent.ensures.end, (c.in-Err-Spent.ensures.spent (ap Err c.in-Err-Spent.field-0-is), c.in-Err-Spent.ensures.reduced)) })

pub returns-clause-decision : goal.returns-clause-decision
returns-clause-decision c =
    let track = c.args.track.now in
    let signals = fine_signals track.signals in
    let form_of_track : (fs : List FrontForm) × IsTrackForm track.arcs signals track.pairs fs c.in-Ok.made.form =
    over_track (λ ar ts ps. (fs : List FrontForm) × IsTrackForm ar ts ps fs c.in-Ok.made.form) track.arcs c.as_slice-arcs.result.now signals signals track.pairs c.as_slice-pairs.result.now c.as_slice-arcs.ensures
    refl c.as_slice-pairs.ensures
    (IfOk-at_ok (λ m. (fs : List FrontForm) × IsTrackForm c.as_slice-arcs.result.now signals c.as_slice-pairs.result.now fs m.form) c.in-Ok.is c.in_ok-made.ensures.form) in
    record { fronts = form_of_track.0; form = c.in-Ok.made.form; of_rows = form_of_track.1; ended = (subst (λ (e : SearchFault). IsSearchEnd c.in-Ok.made.form c.args.budget (Err e)) c.in-Err-Overwidth.field-0-is c.in-Err-Overwidth.ensures.end, (c.in-Err-Overwidth.ensures.overwidth (ap Err c.in-Err-Overwidth.field-0-is), c.in-Err-Overwidth.ensures.reduced)) }

-- ---- and no other decision
pub returns-in-Err-Spent-clause-only : goal.returns-in-Err-Spent-clause-only
returns-in-Err-Spent-clause-only c =
    let track = c.args.track.now in
    let signals = fine_signals track.signals in
    let form_of_track : (fs : List FrontForm) × IsTrackForm track.arcs signals track.pairs fs c.in-Ok.made.form =
    over_track (λ ar ts ps. (fs : List FrontForm) × IsTrackForm ar ts ps fs c.in-Ok.made.form) track.arcs c.as_slice-arcs.result.now signals signals track.pairs c.as_slice-pairs.result.now c.as_slice-arcs.ensures
    refl c.as_slice-pairs.ensures
    (IfOk-at_ok (λ m. (fs : List FrontForm) × IsTrackForm c.as_slice-arcs.result.now signals c.as_slice-pairs.result.now fs m.form) c.in-Ok.is c.in_ok-made.ensures.form) in
    let decision : IsTrackDecision track.arcs signals track.pairs c.args.ratio c.args.budget (TrackTail.Spent c.args.budget) =
    (refl, record { fronts = form_of_track.0; form = c.in-Ok.made.form; of_rows = form_of_track.1; ended = (subst (λ (e : SearchFault). IsSearchEnd c.in-Ok.made.form c.args.budget (Err e)) c.in-Err-Spent.field-0-is c.in-Err-Spent.ensures.end, (c.in-Err-Spent.ensures.spent (ap Err c.in-Err-Spent.field-0-is), c.in-Err-Spent.ensures.reduced)) }) in
    λ u is. one_decision track.arcs signals track.pairs c.args.ratio c.args.budget u (TrackTail.Spent c.args.budget) is decision

pub returns-clause-only : goal.returns-clause-only
returns-clause-only c =
    let track = c.args.track.now in
    let signals = fine_signals track.signals in
    let form_of_track : (fs : List FrontForm) × IsTrackForm track.arcs signals track.pairs fs c.in-Ok.made.form =
    over_track (λ ar ts ps. (fs : List FrontForm) × IsTrackForm ar ts ps fs c.in-Ok.made.form) track.arcs c.as_slice-arcs.result.now signals signals track.pairs c.as_slice-pairs.result.now c.as_slice-arcs.ensures
    refl c.as_slice-pairs.ensures
    (IfOk-at_ok (λ m. (fs : List FrontForm) × IsTrackForm c.as_slice-arcs.result.now signals c.as_slice-pairs.result.now fs m.form) c.in-Ok.is c.in_ok-made.ensures.form) in
    let decision : IsTrackDecision track.arcs signals track.pairs c.args.ratio c.args.budget (TrackTail.Overwidth Place.Search) =
    record { fronts = form_of_track.0; form = c.in-Ok.made.form; of_rows = form_of_track.1; ended = (subst (λ (e : SearchFault). IsSearchEnd c.in-Ok.made.form c.args.budget (Err e)) c.in-Err-Overwidth.field-0-is c.in-Err-Overwidth.ensures.end, (c.in-Err-Overwidth.ensures.overwidth (ap Err c.in-Err-Overwidth.field-0-is), c.in-Err-Overwidth.ensures.reduced)) } in
    λ u is. one_decision track.arcs signals track.pairs c.args.ratio c.args.budget u (TrackTail.Overwidth Place.Search) is decision
