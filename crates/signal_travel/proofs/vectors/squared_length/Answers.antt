use Rattle.std.proofs.Common.{◌^◌, ◌≡◌, ℤ, pos, ◌+ℤ◌, ◌-ℤ◌, ◌*ℤ◌, ◌≤ℤ◌, ◌<ℤ◌, arith, lit<}
use Rattle.std.proofs.lemmas.Int.{ints}
use Rattle.whole_math.specs.Rational.{◌+ʳ◌, ◌*ʳ◌}
use Rattle.whole_math.specs.Rounding.{floor_div, ceil_div}
use Rattle.whole_math.proofs.Rounding.{lt_floor, ceil_lt}
use Rattle.iv_core.specs.Boxes.{near_end, far_end}
use Rattle.signal_travel.proofs.vectors.squared_length.Goals as goal

pub returns-clause-holds : goal.returns-clause-holds
returns-clause-holds c = λ p h. c.sum_of-2.ensures.holds (p.x *ʳ p.x +ʳ p.y *ʳ p.y) (p.z *ʳ p.z)
    (c.sum_of.ensures.holds (p.x *ʳ p.x) (p.y *ʳ p.y) (c.square_of-x.ensures.holds p.x h.0) (c.square_of-y.ensures.holds p.y h.1))
    (c.square_of-z.ensures.holds p.z h.2)

below : (a b c x y z f g h s t : ℤ) → x ≡ f → y ≡ g → z ≡ h → a <ℤ ((f *ℤ pos 9223372036854775808) +ℤ pos 9223372036854775808) →
    b <ℤ ((g *ℤ pos 9223372036854775808) +ℤ pos 9223372036854775808) → c <ℤ ((h *ℤ pos 9223372036854775808) +ℤ pos 9223372036854775808) →
    s ≡ x +ℤ y → t ≡ s +ℤ z → ((a +ℤ b) +ℤ c) ≤ℤ (pos 9223372036854775808 *ℤ (t +ℤ pos 3))
below a b c x y z f g h s t ex ey ez ha hb hc es et = omega (arith, ints)

above : (a b c x y z f g h s t : ℤ) → x ≡ f → y ≡ g → z ≡ h → (f *ℤ pos 9223372036854775808) <ℤ (a +ℤ pos 9223372036854775808) →
    (g *ℤ pos 9223372036854775808) <ℤ (b +ℤ pos 9223372036854775808) → (h *ℤ pos 9223372036854775808) <ℤ (c +ℤ pos 9223372036854775808) →
    s ≡ x +ℤ y → t ≡ s +ℤ z → (pos 9223372036854775808 *ℤ (t -ℤ pos 3)) ≤ℤ ((a +ℤ b) +ℤ c)
above a b c x y z f g h s t ex ey ez ha hb hc es et = omega (arith, ints)

pub returns-clause-near : goal.returns-clause-near
returns-clause-near c =
    let vector = c.args.v.now in
    let first_square : ℤ = near_end vector.x.lo vector.x.hi *ℤ near_end vector.x.lo vector.x.hi in
    let second_square : ℤ = near_end vector.y.lo vector.y.hi *ℤ near_end vector.y.lo vector.y.hi in
    let third_square : ℤ = near_end vector.z.lo vector.z.hi *ℤ near_end vector.z.lo vector.z.hi in
    below first_square second_square third_square c.square_of-x.result.lo c.square_of-y.result.lo c.square_of-z.result.lo (floor_div first_square (2 ^ 63)) (floor_div second_square (2 ^ 63)) (floor_div third_square (2 ^ 63)) c.sum_of.result.lo c.sum_of-2.result.lo
    c.square_of-x.ensures.lo c.square_of-y.ensures.lo c.square_of-z.ensures.lo (lt_floor first_square (2 ^ 63) (lit< tt)) (lt_floor second_square (2 ^ 63) (lit< tt)) (lt_floor third_square (2 ^ 63) (lit< tt))
    c.sum_of.ensures.lo c.sum_of-2.ensures.lo

pub returns-clause-far : goal.returns-clause-far
returns-clause-far c =
    let vector = c.args.v.now in
    let first_square : ℤ = far_end vector.x.lo vector.x.hi *ℤ far_end vector.x.lo vector.x.hi in
    let second_square : ℤ = far_end vector.y.lo vector.y.hi *ℤ far_end vector.y.lo vector.y.hi in
    let third_square : ℤ = far_end vector.z.lo vector.z.hi *ℤ far_end vector.z.lo vector.z.hi in
    above first_square second_square third_square c.square_of-x.result.hi c.square_of-y.result.hi c.square_of-z.result.hi (ceil_div first_square (2 ^ 63)) (ceil_div second_square (2 ^ 63)) (ceil_div third_square (2 ^ 63)) c.sum_of.result.hi c.sum_of-2.result.hi
    c.square_of-x.ensures.hi c.square_of-y.ensures.hi c.square_of-z.ensures.hi (ceil_lt first_square (2 ^ 63) (lit< tt)) (ceil_lt second_square (2 ^ 63) (lit< tt)) (ceil_lt third_square (2 ^ 63) (lit< tt))
    c.sum_of.ensures.hi c.sum_of-2.ensures.hi
