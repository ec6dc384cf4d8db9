use Rattle.std.proofs.Common.{ℤ, pos, ◌+ℤ◌, ◌-ℤ◌, ◌*ℤ◌, ◌≤ℤ◌, ◌^◌, ap, ap₂, subst, subst₂, ◌∙◌}
use Rattle.std.proofs.lemmas.Int.{to_z-of_z}
use Rattle.std.specs.Int.{w64}
use Rattle.whole_math.specs.Rational.{Rational, InBox}
use Rattle.whole_math.specs.Boxes.{of_scale}
use Rattle.whole_math.specs.Rounding.{floor_div}
use Rattle.trig_box.specs.AnglePairs.{IsAnglePair}
use Rattle.kepler_box.proofs.Parts.{step_is, halves, plain_sum, IsSineBox, wider_low, wider_high}
use Rattle.kepler_box.proofs.step.Goals as goal

pub returns-clause-step : goal.returns-clause-step
returns-clause-step c =
    let x : ℤ = c.args.angle in
    let a : ℤ = c.sine_of-sine.result.lo in
    let b : ℤ = c.sine_of-sine.result.hi in
    let t : ℤ = c.middle_between.result in
    let same_angle = to_z-of_z w64 x c.ranges.angle in
    let same_low = to_z-of_z w64 c.lo.result (record { sfits = c.lo.type_inv }) ∙ c.lo.ensures in
    let same_high = to_z-of_z w64 c.hi.result (record { sfits = c.hi.type_inv }) ∙ c.hi.ensures in
    let box : IsSineBox x a b = record {
      holds = subst (λ (z : ℤ). (c s : Rational) → IsAnglePair 5 (of_scale 56 z) c s → InBox 60 a b s) same_angle c.sine_of-sine.ensures.holds;
      ordered = c.sine_of-sine.result.ordered;
      narrow = c.sine_of-sine.ensures.narrow;
      a_size = c.sine_of-sine.ensures.lo_size;
      b_size = c.sine_of-sine.ensures.hi_size;
    } in
    let halves_narrow = halves a b t (pos 256) (pos 0) c.sine_of-sine.ensures.narrow (subst₂ (λ (y z : ℤ). (t -ℤ y) ≤ℤ (z -ℤ t)) same_low same_high c.middle_between.ensures.nearer)
    (subst₂ (λ (y z : ℤ). ((z -ℤ t) +ℤ (z -ℤ t)) ≤ℤ ((z -ℤ y) +ℤ pos 1)) same_low same_high c.middle_between.ensures.half) in
    step_is c.args.m c.args.e x a b t _ box (subst (λ (y : ℤ). y ≤ℤ t) same_low c.middle_between.ensures.low) (subst (λ (y : ℤ). t ≤ℤ y) same_high c.middle_between.ensures.high) halves_narrow.0 halves_narrow.1
    (plain_sum c.args.m c.pull_of.result (wider_low c.args.m c.requires.mean.0) (wider_high c.args.m c.requires.mean.1) c.pull_of.ensures.size.0 c.pull_of.ensures.size.1
    ∙ ap (λ (z : ℤ). c.args.m +ℤ z) (c.pull_of.ensures.value
    ∙ ap₂ (λ (y z : ℤ). floor_div (y *ℤ z) (2 ^ 64)) (to_z-of_z w64 c.args.e c.ranges.e) (to_z-of_z w64 t (record { sfits = c.middle_between.type_inv }))))
