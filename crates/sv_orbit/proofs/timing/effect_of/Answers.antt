-- The mean anomaly of a solution is near that at the middle of the first box.
use Rattle.std.proofs.Common.{ℤ, subst}
use Rattle.std.proofs.lemmas.Int.{to_z-of_z}
use Rattle.std.specs.Int.{w64}
use Rattle.whole_math.specs.Rational.{Rational, ◌*ʳ◌, ◌-ʳ◌, times, two_to_minus}
use Rattle.whole_math.specs.Boxes.{of_scale, IsNearBox}
use Rattle.iv_core.specs.Intervals.{Holds}
use Rattle.eph_store.specs.Decimals.{decimal, value_of}
use Rattle.orbit_model.specs.Elements.{seconds}
use Rattle.sv_orbit.specs.ClockTerms.{per_ten_thousand}
use Rattle.sv_orbit.proofs.NearMean.{mean_at, mean_near}
use Rattle.sv_orbit.proofs.timing.effect_of.Goals as goal

pub returns : goal.returns
returns c = λ s q near_sol hs hf.
    let made = c.args.made.now in
    let motion_held = made.motion_in s q near_sol in
    let sol = near_sol.solves in
    let middle : ℤ = c.middle_of.result in
    let toe : Rational = seconds made.eph.toe.0 in
    let mean_start : Rational = value_of made.eph.m0 in
    let ecc : Rational = value_of made.eph.ecc in
    let point : Holds c.clock_at.result.held (of_scale 60 middle) =
    subst (λ (z : ℤ). Holds c.clock_at.result.held (of_scale 60 z)) (to_z-of_z w64 middle (record { sfits = c.middle_of.type_inv })) c.clock_at.ensures in
    let time = c.time_at-time.ensures (per_ten_thousand (s -ʳ toe)) (of_scale 60 middle) hs point in
    let mean = c.mean_anomaly-mean.ensures (times 10000 q.motion) (per_ten_thousand (s -ʳ toe) -ʳ per_ten_thousand (of_scale 60 middle)) motion_held time in
    let near = mean_near q.mean mean_start q.motion s toe q.clock q.t q.tk c.args.first.now.held.lo c.args.first.now.held.hi middle made.motion.held.lo made.motion.held.hi
    sol.mean_anomaly sol.time_from_epoch sol.time_of_sending hf c.middle_of.ensures.above c.middle_of.ensures.below motion_held made.motion.within.0 made.motion.within.1 in
    let close : IsNearBox 56 c.mean_anomaly-mean.result.held.lo c.mean_anomaly-mean.result.held.hi (two_to_minus 35) q.mean =
    record { inside = mean_at mean_start q.motion s toe (of_scale 60 middle); held = mean; near = near } in
    let sine = c.sine_near-sine.ensures q.mean ecc q.eccentric q.eccentric_pair.cos q.eccentric_pair.sin close made.eccentricity_in sol.kepler in
    c.mul.ensures.holds (decimal made.world.rel 19 *ʳ ecc *ʳ value_of made.eph.root_a) q.eccentric_pair.sin made.relativity_in sine
