use Rattle.std.proofs.Common.{◌^◌, ◌≤◌, List, All, ℕ, ℤ, pos, ◌≤ℤ◌, SFits, length, sym, ap, ◌∙◌, subst, rules, to_z, of_z}
use Rattle.std.proofs.lemmas.Int.{to_z-of_z}
use Rattle.std.specs.Int.{w128}
use Rattle.obs_rows.specs.Ranges.{IsBelow}
use Rattle.obs_rows.specs.Signals.{fine_signals}
use Rattle.integer_form.specs.Forms.{integers_of}
use Rattle.fix_decide.specs.Decisions.{first_of}
use Rattle.fix_decide.proofs.SessionForms.{first_length, first_small, second_fits}
use Rattle.cert_check.proofs.DecidedLaws.{top_word}
use Rattle.integer_form.specs.declared.faults.Place.TheVariants.{Sum}
use Rattle.track_form.specs.Uppers.{IsSomeWide}
use Rattle.track_form.proofs.Ranges.{integers_are, some_integers, second_small, move_each, moves_small}
use Rattle.track_form.proofs.Found.{IsTold, vectors_told, wide_told, sum_wide}
use Rattle.track_form.proofs.decided.decide_moved.Goals as goal

pub track_upper-requires-clause-move_each : goal.track_upper-requires-clause-move_each
track_upper-requires-clause-move_each c =
    let track = c.args.track.now in
    let form_stands = c.requires.form in
    ap length c.as_slice.ensures.value ∙ move_each track.arcs (fine_signals track.signals) track.pairs form_stands.0 (first_of c.args.best.now) c.args.moves.items form_stands.1.0.of_fronts.of_pairs form_stands.1.1

pub track_upper-requires-clause-entries : goal.track_upper-requires-clause-entries
track_upper-requires-clause-entries c =
    let track = c.args.track.now in
    let form_stands = c.requires.form in
    first_length c.args.form.now c.args.best.now c.requires.best ∙ c.requires.best.size ∙ integers_are track.arcs (fine_signals track.signals) track.pairs form_stands.0 c.args.form.now form_stands.1.0

pub track_upper-requires-clause-z_size : goal.track_upper-requires-clause-z_size
track_upper-requires-clause-z_size c = first_small c.args.best.now.size c.args.best.now.first c.requires.best.first_small

pub track_upper-requires-clause-moves_size : goal.track_upper-requires-clause-moves_size
track_upper-requires-clause-moves_size c = subst (All (All (IsBelow (2 ^ 46)))) (sym c.as_slice.ensures.value) (moves_small c.args.moves.items c.requires.narrow)

pub is_separated-fixed-requires-clause-p2_to : goal.is_separated-fixed-requires-clause-p2_to
is_separated-fixed-requires-clause-p2_to c =
    let track = c.args.track.now in
    let best = c.args.best.now in
    let form = c.args.form.now in
    let fits : SFits w128 best.p2 = search rules in
    let some : 1 ≤ integers_of form = subst (λ (n : ℕ). 1 ≤ n) (sym (integers_are track.arcs (fine_signals track.signals) track.pairs c.requires.form.0 form c.requires.form.1.0))
    (some_integers track.arcs track.signals track.arcs_in.some_free) in
    subst (λ (x : ℤ). x ≤ℤ pos (2 ^ 62)) (sym (to_z-of_z w128 best.p2 fits)) (second_fits best.p2 (second_small form best some c.requires.best))

pub returns-in-Ok : goal.returns-in-Ok
returns-in-Ok c =
    let track = c.args.track.now in
    let best = c.args.best.now in
    let fits : SFits w128 best.p2 = search rules in
    let upper_stands = c.in-Ok.ensures in
    let told : IsTold track.arcs track.signals track.pairs c.args.ratio c.args.form.now best c.of_vectors.result =
    vectors_told track.arcs track.signals track.pairs c.args.ratio c.requires.form.0 c.args.form.now best c.args.moves.items c.new.result c.as_slice.result.now c.in-Ok.top
    (to_z w128 (of_z w128 c.in-Ok.top)) (to_z w128 (of_z w128 best.p2)) c.is_separated-fixed.result c.of_vectors.result
    track.arcs_in.some_free c.requires.form.1.0 c.requires.best c.requires.form.1.1 c.requires.narrow upper_stands.bounded upper_stands.value upper_stands.from upper_stands.to c.as_slice.ensures.value c.new.ensures
    (top_word c.in-Ok.top upper_stands.from upper_stands.to) (to_z-of_z w128 best.p2 fits) c.of_vectors.ensures.value
    c.is_separated-fixed.ensures.0 c.is_separated-fixed.ensures.1 c.values_from.ensures in
    record { decision = told.decision; by_ratio = told.by_ratio; fits = told.fits }

pub returns-in-Err-clause-decision : goal.returns-in-Err-clause-decision
returns-in-Err-clause-decision c =
    let track = c.args.track.now in
    let signals = fine_signals track.signals in
    let first_best = first_of c.args.best.now in
    let moves = c.args.moves.items in
    let some : IsSomeWide track.arcs signals first_best track.pairs moves = subst (λ (ms : List (List ℤ)). IsSomeWide track.arcs signals first_best track.pairs ms) c.as_slice.ensures.value c.in-Err.ensures.wide in
    λ budget kept. wide_told track.arcs signals track.pairs c.args.ratio budget c.in-Err.wide.place Sum c.in-Err.ensures.place
    (sum_wide track.arcs signals track.pairs budget moves c.args.best.now c.requires.form.0 c.args.form.now c.requires.form.1.0 c.requires.best kept c.requires.form.1.1 c.requires.narrow some)
