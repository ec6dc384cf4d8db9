use Rattle.std.proofs.Common.{◌≡◌, ◌+◌, ◌^◌, ℤ, pos, ◌+ℤ◌, ◌-ℤ◌, arith, sym, subst, subst₂, lit≤}
use Rattle.std.proofs.lemmas.Int.{ints}
use Rattle.whole_math.specs.Rational.{InBox, two_to_minus, ◌+ʳ◌, times}
use Rattle.iv_core.specs.declared.Iv.{Iv}
use Rattle.iv_core.specs.Intervals.{Holds}
use Rattle.whole_math.proofs.Ends.{box_of_near}
use Rattle.whole_math.proofs.Order.{le_pos}
use Rattle.sv_orbit.proofs.timing.sine_near.Goals as goal

pub returns : goal.returns
returns c = λ m e x p s near held k.
    let box : Iv 60 = c.quick_anomaly_box.result.sin in
    let low_is : c.from_ends.result.lo ≡ box.lo -ℤ pos (2 ^ 27 + 1) = omega (arith, ints, c.from_ends.ensures.lo, c.lo.ensures) in
    let high_is : c.from_ends.result.hi ≡ box.hi +ℤ pos (2 ^ 27 + 1) = omega (arith, ints, c.from_ends.ensures.hi, c.hi.ensures) in
    let near_sine = c.quick_anomaly_box.ensures.near (two_to_minus 35) m e x p s near held k in
    let inside : InBox 60 (box.lo -ℤ pos (2 ^ 27 + 1)) (box.hi +ℤ pos (2 ^ 27 + 1)) s =
    box_of_near 60 box.lo box.hi (pos (2 ^ 27 + 1)) (times 4 (two_to_minus 35) +ʳ two_to_minus 60) s (le_pos _ _ (lit≤ tt)) near_sine.2 in
    subst (λ (h : Iv 60). Holds h s) (sym c.new.ensures) (subst₂ (λ (l h : ℤ). InBox 60 l h s) (sym low_is) (sym high_is) inside)
