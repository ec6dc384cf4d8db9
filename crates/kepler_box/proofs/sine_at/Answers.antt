use Rattle.std.proofs.Common.{◌≡◌, ℤ, pos, ◌-ℤ◌, arith}
use Rattle.std.proofs.lemmas.Int.{ints}
use Rattle.std.proofs.Math.IntN.{+ℤ_idr}
use Rattle.whole_math.specs.Boxes.{of_scale}
use Rattle.whole_math.proofs.Boxes.{point_in}
use Rattle.kepler_box.proofs.sine_at.Goals as goal

less : (x : ℤ) → x -ℤ pos 0 ≡ x
less x = omega (arith, ints)

pub returns-clause-holds : goal.returns-clause-holds
returns-clause-holds c = λ cos sin p.
    let x : ℤ = c.args.point.now.angle in
    (c.within.ensures.holds (of_scale 56 x) cos sin (point_in 56 x _ _ (less x) (+ℤ_idr x)) p).1
