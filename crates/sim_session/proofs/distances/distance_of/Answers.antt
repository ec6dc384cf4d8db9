use Rattle.std.proofs.Common.{◌≡◌, ◌≤◌, ◌^◌, ℤ, pos, ◌-ℤ◌, ◌≤ℤ◌, unsigned_abs, w64, to_z, of_z, arith}
use Rattle.std.proofs.lemmas.Int.{ints}
use Rattle.sim_session.proofs.DistanceLaws.{distance_is}
use Rattle.sim_session.proofs.distances.distance_of.Goals as goal

plain : (lo hi f : ℤ) → lo ≤ℤ hi → hi ≤ℤ pos (2 ^ 62) → pos 0 ≤ℤ lo → unsigned_abs f ≤ 2 ^ 59 → to_z w64 (of_z w64 (to_z w64 (of_z w64 lo) -ℤ to_z w64 (of_z w64 f))) ≡ lo -ℤ f
plain lo hi f o h l k = omega (arith, ints)

far : (lo : ℤ) → pos 687194767360000000 ≤ℤ lo → pos 0 ≤ℤ lo
far lo h = omega (arith, ints)

pub returns : goal.returns
returns c = λ r t h k.
    let range = c.args.range.now in
    let clock = c.args.clock.now in
    distance_is range.lo range.hi clock.lo clock.hi c.ahead_of.result _ r t c.requires.range_narrow c.requires.clock_narrow c.ahead_of.ensures.floor
    (plain range.lo range.hi c.ahead_of.result range.ordered range.high (far range.lo c.requires.range_far) c.ahead_of.ensures.size) h k
