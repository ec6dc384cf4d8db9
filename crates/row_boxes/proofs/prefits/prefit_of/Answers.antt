use Rattle.std.proofs.Common.{◌≡◌, ◌*◌, ◌^◌, ◌<◌, ◌-ℤ◌, ℤ, arith, lit≤, unsigned_abs, to_z, of_z, sym, subst}
use Rattle.std.proofs.lemmas.Int.{to_z-of_z}
use Rattle.std.specs.Int.{w64, w128}
use Rattle.whole_math.specs.Rational.{◌-ʳ◌, InBox}
use Rattle.obs_rows.specs.Signals.{wavelength}
use Rattle.row_boxes.specs.Terms.{iota_exponent}
use Rattle.row_boxes.specs.Sightings.{observed}
use Rattle.row_boxes.specs.declared.pseudoranges.Pseudorange.{Pseudorange}
use Rattle.row_boxes.proofs.Ends.{ArePrefitEnds, prefit_ordered, prefit_narrow, prefit_size, prefit_phase}
use Rattle.row_boxes.proofs.Boxes.{prefit_holds}
use Rattle.row_boxes.proofs.prefits.prefit_of.Goals as goal

lo_is : (c : goal.After-less_computed-2) → to_z w128 (of_z w128 c.less_computed.result) ≡ c.observed_box-held.result.lo -ℤ (c.args.rover.now.hi -ℤ c.args.base.now.lo)
lo_is c = grind (arith, to_z-of_z)

hi_is : (c : goal.After-less_computed-2) → to_z w128 (of_z w128 c.less_computed-2.result) ≡ c.observed_box-held.result.hi -ℤ (c.args.rover.now.lo -ℤ c.args.base.now.hi)
hi_is c = grind (arith, to_z-of_z)

are : (c : goal.After-less_computed-2) → ArePrefitEnds c.observed_box-held.result.lo c.observed_box-held.result.hi c.args.base.now.lo c.args.base.now.hi c.args.rover.now.lo c.args.rover.now.hi
are c = record {
  held_ordered = c.observed_box-held.result.ordered;
  held_narrow = c.observed_box-held.result.narrow;
  base_ordered = c.args.base.now.ordered;
  base_narrow = c.args.base.now.narrow;
  rover_ordered = c.args.rover.now.ordered;
  rover_narrow = c.args.rover.now.narrow;
}

pub invariant_of-result : goal.invariant_of-result
invariant_of-result c =
    let observed_held = c.observed_box-held in
    let base : Pseudorange = c.args.base.now in
    let rover : Pseudorange = c.args.rover.now in
    record {
      ordered = rw (lo_is c, hi_is c) (prefit_ordered observed_held.result.lo observed_held.result.hi base.lo base.hi rover.lo rover.hi (are c));
      narrow = rw (lo_is c, hi_is c) (prefit_narrow observed_held.result.lo observed_held.result.hi base.lo base.hi rover.lo rover.hi (are c));
      lo_size = rw (lo_is c) (prefit_size (2 ^ 67) (2 ^ 68) observed_held.result.lo rover.hi base.lo (lit≤ tt) observed_held.ensures.lo_size rover.hi_size base.lo_size);
      hi_size = rw (hi_is c) (prefit_size (2 ^ 67) (2 ^ 68) observed_held.result.hi rover.lo base.hi (lit≤ tt) observed_held.ensures.hi_size rover.lo_size base.hi_size);
    }

plain_amount : (c : goal.After-less_computed-2) → to_z w64 (of_z w64 c.args.amount) ≡ c.args.amount
plain_amount c = to_z-of_z w64 c.args.amount c.ranges.amount

pub returns-clause-holds : goal.returns-clause-holds
returns-clause-holds c = λ b r i j.
    let observed_held = c.observed_box-held in
    let base : Pseudorange = c.args.base.now in
    let rover : Pseudorange = c.args.rover.now in
    let held : InBox iota_exponent (observed_held.result.lo -ℤ (rover.hi -ℤ base.lo)) (observed_held.result.hi -ℤ (rover.lo -ℤ base.hi)) (observed c.args.signal c.args.amount -ʳ (r -ʳ b)) =
    prefit_holds observed_held.result.lo observed_held.result.hi base.lo base.hi rover.lo rover.hi (observed c.args.signal c.args.amount) b r
    (subst (λ (z : ℤ). InBox iota_exponent observed_held.result.lo observed_held.result.hi (observed c.args.signal z)) (plain_amount c.before) observed_held.ensures.holds) i j in
    subst (λ (z : ℤ). InBox iota_exponent z (to_z w128 (of_z w128 c.less_computed-2.result)) (observed c.args.signal c.args.amount -ʳ (r -ʳ b))) (sym (lo_is c.before))
    (subst (λ (z : ℤ). InBox iota_exponent (observed_held.result.lo -ℤ (rover.hi -ℤ base.lo)) z (observed c.args.signal c.args.amount -ʳ (r -ʳ b))) (sym (hi_is c.before)) held)

pub returns-clause-code : goal.returns-clause-code
returns-clause-code c = λ s a.
    let observed_held = c.observed_box-held in
    rw (lo_is c.before) (prefit_size (2 ^ 56) (2 ^ 57) observed_held.result.lo c.args.rover.now.hi c.args.base.now.lo (lit≤ tt)
    (observed_held.ensures.code s (subst (λ (z : ℤ). unsigned_abs z < 2 ^ 37) (sym (plain_amount c.before)) a)) c.args.rover.now.hi_size c.args.base.now.lo_size)

pub returns-clause-phase : goal.returns-clause-phase
returns-clause-phase c = λ s.
    let observed_held = c.observed_box-held in
    rw (lo_is c.before) (prefit_phase (unsigned_abs (wavelength c.args.signal) * 2 ^ 63) observed_held.result.lo c.args.rover.now.hi c.args.base.now.lo
    (observed_held.ensures.phase s) c.args.rover.now.hi_size c.args.base.now.lo_size)
