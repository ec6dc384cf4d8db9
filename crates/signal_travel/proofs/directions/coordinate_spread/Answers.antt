use Rattle.std.proofs.Common.{◌≡◌, ◌^◌, ◌*◌, ℤ, pos, ◌+ℤ◌, ◌-ℤ◌, ◌≤ℤ◌, neg_ℤ, arith}
use Rattle.std.proofs.lemmas.Int.{ints}
use Rattle.whole_math.specs.Rational.{of_whole, ◌+ʳ◌, ◌-ʳ◌, ◌*ʳ◌}
use Rattle.signal_travel.proofs.directions.coordinate_spread.Goals as goal

least : (l z : ℤ) → pos (10000000 * 2 ^ 36) ≤ℤ l → z ≡ l -ℤ pos (33 * 2 ^ 34) → pos (9999991 * 2 ^ 36) ≤ℤ z
least l z h e = omega (arith, ints)

pub quotient_of-requires-clause-least : goal.quotient_of-requires-clause-least
quotient_of-requires-clause-least c = least c.args.range.now.lo c.sum_of_ranges.result.lo c.requires.far c.sum_of_ranges.ensures.lo

low : (l h z y : ℤ) → h ≤ℤ (l +ℤ pos (2 ^ 20)) → z ≡ l -ℤ pos (33 * 2 ^ 34) → y ≡ neg_ℤ h -ℤ pos (16 * 2 ^ 35) → neg_ℤ (z +ℤ pos (66 * 2 ^ 34)) ≤ℤ y
low l h z y k e f = omega (arith, ints)

pub quotient_of-requires-clause-low : goal.quotient_of-requires-clause-low
quotient_of-requires-clause-low c = low c.args.range.now.lo c.args.x.now.hi c.sum_of_ranges.result.lo c.move_less_twice.result.lo c.requires.high
    c.sum_of_ranges.ensures.lo c.move_less_twice.ensures.lo

high : (l x z y : ℤ) → neg_ℤ (l +ℤ pos (2 ^ 20)) ≤ℤ x → z ≡ l -ℤ pos (33 * 2 ^ 34) → y ≡ pos (16 * 2 ^ 35) -ℤ x → y ≤ℤ (z +ℤ pos (66 * 2 ^ 34))
high l x z y k e f = omega (arith, ints)

pub quotient_of-requires-clause-high : goal.quotient_of-requires-clause-high
quotient_of-requires-clause-high c = high c.args.range.now.lo c.args.x.now.lo c.sum_of_ranges.result.lo c.move_less_twice.result.hi c.requires.low
    c.sum_of_ranges.ensures.lo c.move_less_twice.ensures.hi

pub returns : goal.returns
returns c = λ q m r s u hq hr hm up down e.
    c.spread_of.ensures u (c.quotient_of.ensures.holds (m -ʳ of_whole (pos 2) *ʳ q) (r +ʳ s) u
    (c.move_less_twice.ensures.holds q m hq hm) (c.sum_of_ranges.ensures.holds r s hr up down) e)
