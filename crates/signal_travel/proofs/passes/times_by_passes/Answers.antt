use Rattle.std.proofs.Common.{◌≡◌, ◌*◌, ℤ, pos, ◌+ℤ◌, ◌-ℤ◌, ◌*ℤ◌, ◌≤ℤ◌, arith}
use Rattle.std.proofs.lemmas.Int.{ints}
use Rattle.whole_math.specs.Rational.{Rational, ◌≤ʳ◌, of_whole, ◌*ʳ◌, InBox}
use Rattle.orbit_model.specs.SeenPlaces.{Position, point_of}
use Rattle.orbit_model.proofs.Seen.{travel_nn, travel_most}
use Rattle.signal_travel.proofs.Sights.{point_place}
use Rattle.signal_travel.proofs.Times.{first_time, second_time, third_time}
use Rattle.signal_travel.proofs.passes.times_by_passes.Goals as goal

any : (l h : ℤ) (t : Rational) → l ≡ pos 0 → h ≡ pos 192153584101141163 → of_whole (pos 0) ≤ʳ t → of_whole (pos 6) *ʳ t ≤ʳ of_whole (pos 1) → InBox 60 l h t
any l h t el eh a b = go l h t.num (pos t.den) el eh a b
  where
    go : (l h n d : ℤ) → l ≡ pos 0 → h ≡ pos 192153584101141163 → (pos 0 *ℤ d) ≤ℤ (n *ℤ pos 1) → ((pos 6 *ℤ n) *ℤ pos 1) ≤ℤ (pos 1 *ℤ (pos 1 *ℤ d))
        → ((l *ℤ d) ≤ℤ (n *ℤ pos 1152921504606846976)) × ((n *ℤ pos 1152921504606846976) ≤ℤ (h *ℤ d))
    go l h n d el eh a b = rw (el, eh) (step n d a b)
      where
        step : (n d : ℤ) → (pos 0 *ℤ d) ≤ℤ (n *ℤ pos 1) → ((pos 6 *ℤ n) *ℤ pos 1) ≤ℤ (pos 1 *ℤ (pos 1 *ℤ d))
            → ((pos 0 *ℤ d) ≤ℤ (n *ℤ pos 1152921504606846976)) × ((n *ℤ pos 1152921504606846976) ≤ℤ (pos 192153584101141163 *ℤ d))
        step n d a b = (omega (arith, ints), omega (arith, ints))

pub returns-clause-holds : goal.returns-clause-holds
returns-clause-holds c = λ p seen t h s.
    let receiver : Position = point_of c.args.point.now.x c.args.point.now.y c.args.point.now.z in
    let sent = c.args.sent.now.away p.x p.y p.z h.0 h.1 h.2 in
    let zero = any c.any_travel.result.lo c.any_travel.result.hi t c.any_travel.ensures.lo c.any_travel.ensures.hi (travel_nn p receiver seen t s)
    (travel_most p receiver seen t sent (point_place c.args.point.now) s) in
    let one = c.sight_after-first.ensures.time p seen t h zero s in
    let two = c.sight_after-second.ensures.time p seen t h one s in
    c.sight_after-third.ensures.time p seen t h two s

width : (l h : ℤ) → l ≡ pos 0 → h ≡ pos 192153584101141163 → ((h -ℤ l) +ℤ pos (904 * 264813)) ≤ℤ (pos 904 *ℤ pos 212559274712979)
width l h e f = omega (arith, ints)

pub returns-clause-width : goal.returns-clause-width
returns-clause-width c =
    let first = c.sight_after-first in
    let second = c.sight_after-second in
    let third = c.sight_after-third in
    let one = first_time (first.result.range.hi -ℤ first.result.range.lo) (first.result.travel.hi -ℤ first.result.travel.lo) (first.ensures.range_width (pos 212559274712979)
    (width c.any_travel.result.lo c.any_travel.result.hi c.any_travel.ensures.lo c.any_travel.ensures.hi)) first.ensures.time_width in
    let two = second_time (second.result.range.hi -ℤ second.result.range.lo) (second.result.travel.hi -ℤ second.result.travel.lo) (second.ensures.range_width (pos 23027875089) one) second.ensures.time_width in
    third_time (third.result.range.hi -ℤ third.result.range.lo) (third.result.travel.hi -ℤ third.result.travel.lo) (third.ensures.range_width (pos 2759538) two) third.ensures.time_width
