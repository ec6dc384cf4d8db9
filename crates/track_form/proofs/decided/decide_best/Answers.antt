use Rattle.std.proofs.Common.{◌≡◌, ◌∙◌, ℕ, ◌+◌, ◌-◌, Any, map, pos, arith}
use Rattle.std.proofs.lemmas.Result.{IfErr-at_err, IfOk-at_ok}
use Rattle.obs_rows.specs.Integers.{integer_count}
use Rattle.obs_rows.specs.Signals.{fine_signals}
use Rattle.integer_form.specs.declared.faults.Place.TheVariants.{Float}
use Rattle.integer_form.specs.FloatPoint.{HasWide}
use Rattle.fix_decide.specs.Decisions.{first_of}
use Rattle.fix_decide.proofs.SessionForms.{first_length, first_small}
use Rattle.track_form.specs.Factors.{move_by}
use Rattle.track_form.proofs.KeptFactors.{columns_of_factors, moves_are, wide_front}
use Rattle.track_form.proofs.Ranges.{integers_are}
use Rattle.track_form.proofs.Found.{wide_told}
use Rattle.track_form.proofs.decided.decide_best.Goals as goal

-- as many integers as the fronts have
pub moves_at-requires-clause-count : goal.moves_at-requires-clause-count
moves_at-requires-clause-count c = λ k d l.
    let track = c.args.track.now in
    let signals = fine_signals track.signals in
    first_length c.args.form.now c.args.best.now c.requires.best ∙ c.requires.best.size ∙ integers_are track.arcs signals track.pairs c.requires.form.0 c.args.form.now c.requires.form.1
    ∙ fewer (integer_count track.arcs signals) _ (columns_of_factors track.arcs signals track.pairs c.args.factors.now c.requires.factors k d l)
  where
    fewer : (i k : ℕ) → k ≡ 4 + i → i ≡ k - 4
    fewer i k e = omega (arith, e)

pub moves_at-requires-clause-size : goal.moves_at-requires-clause-size
moves_at-requires-clause-size c = λ i inside. first_small c.args.best.now.size c.args.best.now.first c.requires.best.first_small i (pos 0) inside

pub decide_moved-requires-clause-form : goal.decide_moved-requires-clause-form
decide_moved-requires-clause-form c =
    let track = c.args.track.now in
    let signals = fine_signals track.signals in
    let first_best = first_of c.args.best.now in
    let form_stands = c.requires.form in
    let moves : c.in-Ok.moves.items ≡ map (move_by first_best) c.args.factors.now = IfOk-at_ok (λ m. m.items ≡ map (move_by first_best) c.args.factors.now) c.in-Ok.is c.in_ok-moves.ensures.moves in
    (form_stands.0, (form_stands.1, moves ∙ moves_are track.arcs signals first_best track.pairs c.args.factors.now form_stands.0 c.requires.factors form_stands.1.of_fronts.of_pairs))

pub returns-in-Err-clause-decision : goal.returns-in-Err-clause-decision
returns-in-Err-clause-decision c =
    let track = c.args.track.now in
    let signals = fine_signals track.signals in
    let first_best = first_of c.args.best.now in
    let form_stands = c.requires.form in
    let place : c.in-Err.wide.place ≡ Float = IfErr-at_err (λ e. e.place ≡ Float) c.in-Err.is c.in_ok-moves.ensures.place in
    let wide : Any (λ p. HasWide (move_by first_best p)) c.args.factors.now = IfErr-at_err (λ e. Any (λ p. HasWide (move_by first_best p)) c.args.factors.now) c.in-Err.is c.in_ok-moves.ensures.wide in
    λ budget kept. wide_told track.arcs signals track.pairs c.args.ratio budget c.in-Err.wide.place Float place
    (record {
      fronts = form_stands.0;
      form = c.args.form.now;
      of_rows = form_stands.1;
      best = c.args.best.now;
      best_is = c.requires.best;
      visits = kept;
      wide = wide_front track.arcs signals first_best track.pairs c.args.factors.now form_stands.0 c.requires.factors form_stands.1.of_fronts.of_pairs wide;
    })
