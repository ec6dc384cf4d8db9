use Rattle.std.proofs.Common.{ℤ, refl, sym, subst}
use Rattle.std.proofs.lemmas.Int.{to_z-of_z}
use Rattle.std.specs.Int.{w128}
use Rattle.obs_rows.specs.declared.sessions.Session.{Session}
use Rattle.obs_rows.specs.Signals.{fine_signals}
use Rattle.vector_bound.specs.VectorBounds.{StaysWithin, IsSessionBound, LacksSessionBound, IsInHundredths, move_units, hundredths_of_mm}
use Rattle.vector_bound.proofs.LeastReach.{short}
use Rattle.vector_bound.proofs.Hundredths.{in_words, short_from, short_to}
use Rattle.vector_bound.proofs.Sessions.{wider_distance, rounded_hundredths}
use Rattle.vector_bound.proofs.bounds.vector_bound.Goals as goal

pub in_hundredths-requires-clause-from : goal.in_hundredths-requires-clause-from
in_hundredths-requires-clause-from c =
    let reach = c.in_ok-units.ensures.value.bound.reach in
    short_from c.in_ok-units.units reach.some reach.to

pub in_hundredths-requires-clause-to : goal.in_hundredths-requires-clause-to
in_hundredths-requires-clause-to c =
    let reach = c.in_ok-units.ensures.value.bound.reach in
    short_to c.in_ok-units.units reach.some reach.to

pub returns-clause-near : goal.returns-clause-near
returns-clause-near c =
    let s : Session = c.args.session.now in
    let reach = c.in_ok-units.ensures.value.bound.reach in
    let rounded : IsInHundredths c.in_ok-units.units (short c.in_hundredths.result) = in_words c.in_ok-units.units c.in_hundredths.result reach.some reach.to c.in_hundredths.ensures.size c.in_hundredths.ensures.rounded in
    λ above. wider_distance s.arcs (fine_signals s.signals) s.pairs c.args.z.now c.args.moved.now (move_units c.in_ok-units.units) (hundredths_of_mm (short c.in_hundredths.result))
    (rounded_hundredths c.in_ok-units.units (short c.in_hundredths.result) rounded.0)
    (c.in_ok-units.ensures.near (subst (λ (t : ℤ). StaysWithin c.args.session.now c.args.h c.args.z.now c.args.moved.now t) (sym (to_z-of_z w128 c.args.top c.ranges.top)) above))

pub returns-clause-value : goal.returns-clause-value
returns-clause-value c =
    let reach = c.in_ok-units.ensures.value.bound.reach in (
      c.in_ok-units.units,
      (
        subst (λ (t : ℤ). IsSessionBound c.args.session.now c.args.h c.args.z.now c.args.moved.now t c.in_ok-units.units) (to_z-of_z w128 c.args.top c.ranges.top) c.in_ok-units.ensures.value,
        in_words c.in_ok-units.units c.in_hundredths.result reach.some reach.to c.in_hundredths.ensures.size c.in_hundredths.ensures.rounded,
      ),
    )

pub returns-in_err-units-clause-none : goal.returns-in_err-units-clause-none
returns-in_err-units-clause-none c = λ none. subst (λ (t : ℤ). LacksSessionBound c.args.session.now c.args.h c.args.z.now c.args.moved.now t) (to_z-of_z w128 c.args.top c.ranges.top) (c.in_err-units.ensures.none refl)
