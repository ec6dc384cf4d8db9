use Rattle.std.proofs.Common.{◌≡◌, ℤ, pos, ◌+ℤ◌, ◌-ℤ◌, ◌≤ℤ◌, arith, to_z, of_z}
use Rattle.std.proofs.lemmas.Int.{ints, to_z-of_z}
use Rattle.std.specs.Int.{w64}
use Rattle.whole_math.specs.Rational.{Rational}
use Rattle.iv_core.specs.Intervals.{Holds}
use Rattle.orbit_model.specs.SeenPlaces.{Position, point_of, IsSeenPlace}
use Rattle.signal_travel.specs.VectorBoxes.{HoldsVector}
use Rattle.signal_travel.proofs.SeenAfterLaws.{all_around, around_width}
use Rattle.signal_travel.proofs.Times.{last_place, last_range, last_time}
use Rattle.signal_travel.proofs.passes.sight_of.Goals as goal

under : (a : ℤ) → a ≤ℤ pos 265393 → a ≤ℤ pos 524288
under a h = omega (arith, ints)

least : (g x : ℤ) → x ≡ g → pos 4096 ≤ℤ g → pos 4096 ≤ℤ x
least g x e h = omega (arith, ints)

most : (g x : ℤ) → x ≡ g → (g +ℤ pos 4096) ≤ℤ pos 192153584101141163 → (x +ℤ pos 4096) ≤ℤ pos 192153584101141163
most g x e h = omega (arith, ints)

started : (g x : ℤ) → x ≡ g → pos 4096 ≤ℤ g → pos 0 ≤ℤ x
started g x e h = omega (arith, ints)

ended : (g x : ℤ) → x ≡ g → (g +ℤ pos 4096) ≤ℤ pos 192153584101141163 → x ≤ℤ pos 192153584101141163
ended g x e h = omega (arith, ints)

pub is_settled-requires-clause-high : goal.is_settled-requires-clause-high
is_settled-requires-clause-high c =
    let guess = c.time_near-time in
    ended guess.result (to_z w64 (of_z w64 guess.result)) (to_z-of_z w64 guess.result (record { sfits = guess.type_inv })) guess.ensures.high

pub is_settled-requires-clause-low : goal.is_settled-requires-clause-low
is_settled-requires-clause-low c =
    let guess = c.time_near-time in
    started guess.result (to_z w64 (of_z w64 guess.result)) (to_z-of_z w64 guess.result (record { sfits = guess.type_inv })) guess.ensures.low

-- where the pass led near the time, the times around it are all
all_near : (c : goal.Then-is_settled) (p seen : Position) (t : Rational) → HoldsVector c.args.sent.now.place p
    → IsSeenPlace p (point_of c.args.point.now.x c.args.point.now.y c.args.point.now.z) t seen → Holds c.times_around.result t
all_near c =
    let guess = c.time_near-time in
    let same_guess = to_z-of_z w64 guess.result (record { sfits = guess.type_inv }) in
    let guessed_time : ℤ = to_z w64 (of_z w64 guess.result) in
    let around = c.times_around in
    all_around c.args.sent.now c.args.point.now around.result c.sight_after-sight.result.travel guessed_time (least guess.result guessed_time same_guess guess.ensures.low) (most guess.result guessed_time same_guess guess.ensures.high)
    around.ensures.lo around.ensures.hi c.sight_after-sight.ensures.light (c.is_settled.ensures.above c.if-is_settled.true) (c.is_settled.ensures.below c.if-is_settled.true)

pub returns-then-is_settled-clause-place : goal.returns-then-is_settled-clause-place
returns-then-is_settled-clause-place c = λ p seen t h s. c.sight_after-sight.ensures.place p seen t h (all_near c p seen t h s) s

pub returns-then-is_settled-clause-range : goal.returns-then-is_settled-clause-range
returns-then-is_settled-clause-range c = λ p seen t h s. c.sight_after-sight.ensures.range p seen t h (all_near c p seen t h s) s

pub returns-then-is_settled-clause-time : goal.returns-then-is_settled-clause-time
returns-then-is_settled-clause-time c = λ p seen t h s. c.sight_after-sight.ensures.time p seen t h (all_near c p seen t h s) s

pub returns-then-is_settled-clause-narrow : goal.returns-then-is_settled-clause-narrow
returns-then-is_settled-clause-narrow c =
    let around = c.times_around in
    let time_narrow = around_width around.result.lo around.result.hi (to_z w64 (of_z w64 c.time_near-time.result)) around.ensures.lo around.ensures.hi in
    let place_narrow = c.sight_after-sight.ensures.width (pos 265393) (last_place (around.result.hi -ℤ around.result.lo) time_narrow) in
    (under _ place_narrow.0, under _ place_narrow.1, under _ place_narrow.2)

pub returns-then-is_settled-clause-range_narrow : goal.returns-then-is_settled-clause-range_narrow
returns-then-is_settled-clause-range_narrow c =
    let around = c.times_around in
    let time_narrow = around_width around.result.lo around.result.hi (to_z w64 (of_z w64 c.time_near-time.result)) around.ensures.lo around.ensures.hi in
    let range = c.sight_after-sight.result.range in
    last_range (range.hi -ℤ range.lo) (c.sight_after-sight.ensures.range_width (pos 265393) (last_place (around.result.hi -ℤ around.result.lo) time_narrow))

pub returns-then-is_settled-clause-time_narrow : goal.returns-then-is_settled-clause-time_narrow
returns-then-is_settled-clause-time_narrow c =
    let sight = c.sight_after-sight.result in
    last_time (sight.range.hi -ℤ sight.range.lo) (sight.travel.hi -ℤ sight.travel.lo) (returns-then-is_settled-clause-range_narrow c) c.sight_after-sight.ensures.time_width

pub returns-then-is_settled-clause-away : goal.returns-then-is_settled-clause-away
returns-then-is_settled-clause-away c = c.sight_after-sight.ensures.away (returns-then-is_settled-clause-narrow c)

pub returns-else-is_settled-clause-place : goal.returns-else-is_settled-clause-place
returns-else-is_settled-clause-place c = λ p seen t h s. c.sight_after.ensures.place p seen t h (c.times_by_passes.ensures.holds p seen t h s) s

pub returns-else-is_settled-clause-range : goal.returns-else-is_settled-clause-range
returns-else-is_settled-clause-range c = λ p seen t h s. c.sight_after.ensures.range p seen t h (c.times_by_passes.ensures.holds p seen t h s) s

pub returns-else-is_settled-clause-time : goal.returns-else-is_settled-clause-time
returns-else-is_settled-clause-time c = λ p seen t h s. c.sight_after.ensures.time p seen t h (c.times_by_passes.ensures.holds p seen t h s) s

pub returns-else-is_settled-clause-narrow : goal.returns-else-is_settled-clause-narrow
returns-else-is_settled-clause-narrow c =
    let passes = c.times_by_passes in
    let place_narrow = c.sight_after.ensures.width (pos 265393) (last_place (passes.result.hi -ℤ passes.result.lo) passes.ensures.width) in
    (under _ place_narrow.0, under _ place_narrow.1, under _ place_narrow.2)

pub returns-else-is_settled-clause-range_narrow : goal.returns-else-is_settled-clause-range_narrow
returns-else-is_settled-clause-range_narrow c =
    let passes = c.times_by_passes in
    let range = c.sight_after.result.range in
    last_range (range.hi -ℤ range.lo) (c.sight_after.ensures.range_width (pos 265393) (last_place (passes.result.hi -ℤ passes.result.lo) passes.ensures.width))

pub returns-else-is_settled-clause-time_narrow : goal.returns-else-is_settled-clause-time_narrow
returns-else-is_settled-clause-time_narrow c =
    let sight = c.sight_after.result in
    last_time (sight.range.hi -ℤ sight.range.lo) (sight.travel.hi -ℤ sight.travel.lo) (returns-else-is_settled-clause-range_narrow c) c.sight_after.ensures.time_width

pub returns-else-is_settled-clause-away : goal.returns-else-is_settled-clause-away
returns-else-is_settled-clause-away c = c.sight_after.ensures.away (returns-else-is_settled-clause-narrow c)
