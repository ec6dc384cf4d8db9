use Rattle.std.proofs.Common.{◌≡◌, ℤ, pos, ◌+ℤ◌, ◌-ℤ◌, ◌*ℤ◌, ◌≤ℤ◌, arith, ◌∙◌}
use Rattle.std.proofs.lemmas.Int.{ints, to_z-of_z}
use Rattle.std.specs.Int.{w64}
use Rattle.std.proofs.Math.IntN.{+ℤ_idr}
use Rattle.whole_math.specs.Boxes.{of_scale}
use Rattle.whole_math.proofs.Boxes.{point_in}
use Rattle.signal_travel.proofs.EarthTurn.{ArePairs, cos_ends, sin_ends}
use Rattle.signal_travel.proofs.turns.pairs_of.Goals as goal

less : (x : ℤ) → x -ℤ pos 0 ≡ x
less x = omega (arith, ints)

pub returns-clause-holds : goal.returns-clause-holds
returns-clause-holds c = λ x y p.
    let angle : ℤ = c.of_small.result.angle in
    let same_angle : angle ≡ c.args.angle = c.of_small.ensures ∙ to_z-of_z w64 c.args.angle c.ranges.angle in
    c.within.ensures.holds (of_scale 56 c.args.angle) x y (point_in 56 c.args.angle (angle -ℤ pos 0) (angle +ℤ pos 0) (less angle ∙ same_angle) (+ℤ_idr angle ∙ same_angle)) p

narrow : (w : ℤ) → w ≤ℤ (pos 512 +ℤ (pos 64 *ℤ pos 0)) → w ≤ℤ pos 512
narrow w h = omega (arith, ints)

pub returns-clause-narrow : goal.returns-clause-narrow
returns-clause-narrow c = (narrow _ c.within.ensures.width.0, narrow _ c.within.ensures.width.1)

pairs : (c : goal.After-within) → ArePairs c.args.angle c.within.result.cos.lo c.within.result.cos.hi c.within.result.sin.lo c.within.result.sin.hi
pairs c =
    let is_narrow = returns-clause-narrow c in
    record { angle_low = c.requires.low; angle_high = c.requires.high; pairs = returns-clause-holds c; cos_narrow = is_narrow.0; sin_narrow = is_narrow.1 }

pub returns-clause-cos_size : goal.returns-clause-cos_size
returns-clause-cos_size c = cos_ends _ _ _ _ _ (pairs c)

pub returns-clause-sin_size : goal.returns-clause-sin_size
returns-clause-sin_size c = sin_ends _ _ _ _ _ (pairs c)
