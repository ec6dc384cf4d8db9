use Rattle.std.proofs.Common.{◌-◌, ◌*◌, ◌^◌, ℤ, pos, ◌+ℤ◌, ◌-ℤ◌, ◌*ℤ◌, ◌≤ℤ◌, arith}
use Rattle.std.proofs.lemmas.Int.{ints}
use Rattle.orbit_model.specs.SeenPlaces.{Position, square, difference, point_of, turned_back, range_of}
use Rattle.orbit_model.proofs.NearRoots.{range_root}
use Rattle.whole_math.proofs.Order.{diff_nn}
use Rattle.signal_travel.specs.VectorBoxes.{IsVectorAtMostWide}
use Rattle.signal_travel.proofs.Sights.{HasTurned, held_along, turned_in, between, all_away}
use Rattle.signal_travel.proofs.Times.{pair_width, pair_enough, place_enough, any_width}
use Rattle.signal_travel.proofs.passes.sight_after.Goals as goal

reference : (c : goal.After-range_guess) → HasTurned c.turned_box-place.result
reference c =
    let travel = c.args.travel.now in
    turned_in c.args.sent.now.place c.turned_box-place.result travel.lo travel.hi c.args.sent.now.away c.requires.0 travel.ordered c.requires.1
    (λ u pair b q p h. c.turned_box-place.ensures.holds p pair h (c.turn_in-turn.ensures.holds u pair.cos pair.sin b q))

pub length_by-range-requires-clause-between : goal.length_by-range-requires-clause-between
length_by-range-requires-clause-between c = between c.turned_box-place.result c.vector_from-vector.result c.args.point.now (reference c) c.vector_from-vector.ensures.holds

wide : (c : goal.After-range_guess) (w : ℤ) → ((c.args.travel.now.hi -ℤ c.args.travel.now.lo) +ℤ pos (904 * 264813)) ≤ℤ (pos 904 *ℤ w) → IsVectorAtMostWide w c.turned_box-place.result
wide c w h =
    let travel = c.args.travel.now in
    let travel_width : ℤ = travel.hi -ℤ travel.lo in
    c.turned_box-place.ensures.width (pair_width travel_width) w (c.turn_in-turn.ensures.width (pair_width travel_width) (pair_enough travel_width)) (place_enough travel_width w (diff_nn travel.lo travel.hi travel.ordered) h)

pub length_by-range-requires-clause-narrow : goal.length_by-range-requires-clause-narrow
length_by-range-requires-clause-narrow c = c.vector_from-vector.ensures.width (pos (2 ^ 48 - 1))
    (wide c (pos (2 ^ 48 - 1)) (any_width c.args.travel.now.lo c.args.travel.now.hi c.requires.0 c.requires.1))

pub returns-clause-place : goal.returns-clause-place
returns-clause-place c = λ p seen t h k s.
    held_along c.turned_box-place.result seen (turned_back s.turn p) s.seen_is (c.turned_box-place.ensures.holds p s.turn h (c.turn_in-turn.ensures.holds t s.turn.cos s.turn.sin k s.turn_is))

pub returns-clause-range : goal.returns-clause-range
returns-clause-range c = λ p seen t h k s.
    let receiver : Position = point_of c.args.point.now.x c.args.point.now.y c.args.point.now.z in
    c.length_by-range.ensures.holds (difference seen receiver) (range_of t) (c.vector_from-vector.ensures.holds seen (returns-clause-place c p seen t h k s))
    (range_root t (square (difference seen receiver)) s.travel_is)

pub returns-clause-light : goal.returns-clause-light
returns-clause-light c = λ p seen u t h k s.
    let receiver : Position = point_of c.args.point.now.x c.args.point.now.y c.args.point.now.z in
    let held = held_along c.turned_box-place.result seen (turned_back s.turn p) s.seen_is
    (c.turned_box-place.ensures.holds p s.turn h (c.turn_in-turn.ensures.holds u s.turn.cos s.turn.sin k s.turn_is)) in
    c.time_over-travel.ensures.holds t (c.length_by-range.ensures.holds (difference seen receiver) (range_of t) (c.vector_from-vector.ensures.holds seen held)
    (range_root t (square (difference seen receiver)) s.travel_is))

pub returns-clause-time : goal.returns-clause-time
returns-clause-time c = λ p seen t h k s. c.time_over-travel.ensures.holds t (returns-clause-range c p seen t h k s)

pub returns-clause-width : goal.returns-clause-width
returns-clause-width c = λ w h. wide c.before.before.before.before w h

more : (r w : ℤ) → (pos 4 *ℤ r) ≤ℤ ((pos 7 *ℤ (w +ℤ pos 1)) +ℤ pos 800) → (pos 4 *ℤ r) ≤ℤ ((pos 7 *ℤ w) +ℤ pos 807)
more r w h = omega (arith, ints)

pub returns-clause-range_width : goal.returns-clause-range_width
returns-clause-range_width c = λ w h.
    let range = c.length_by-range in
    more (range.result.hi -ℤ range.result.lo) w (range.ensures.width (w +ℤ pos 1) (c.vector_from-vector.ensures.width w (wide c.before.before.before.before w h)))

pub returns-clause-away : goal.returns-clause-away
returns-clause-away c = λ n. all_away c.turned_box-place.result (reference c.before.before.before.before) n
