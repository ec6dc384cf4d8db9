use Rattle.std.proofs.Common.{◌≡◌, ℤ, pos, ◌+ℤ◌, ◌-ℤ◌, ◌<ℤ◌, ◌≤ℤ◌, sym, ◌∙◌, subst, to_z, of_z, arith, unsigned_abs, ◌≤◌}
use Rattle.std.proofs.lemmas.Int.{ints, to_z-of_z}
use Rattle.std.specs.Int.{w128}
use Rattle.whole_math.proofs.Absolute.{abs_pos}
use Rattle.whole_math.proofs.Quotients.{taken_apart, nearest_down, nearest_up}
use Rattle.whole_math.proofs.Rounding.{nearest_is, nearest_size}
use Rattle.whole_math.specs.Rounding.{IsNearest}
use Rattle.whole_math.proofs.nearest.Goals as goal

pub returns-then-rest-m-clause-value : goal.returns-then-rest-m-clause-value
returns-then-rest-m-clause-value c =
    let dividend_is : to_z w128 (of_z w128 c.args.n) ≡ c.args.n = to_z-of_z w128 c.args.n c.ranges.n in
    let divisor_is : to_z w128 (of_z w128 c.args.m) ≡ c.args.m = to_z-of_z w128 c.args.m c.ranges.m in
    let floor_is : to_z w128 (of_z w128 c.floor-down.result) ≡ c.floor-down.result = grind (arith, to_z-of_z) in
    let rest_lower_half : c.left_of-rest.result <ℤ (c.args.m -ℤ c.left_of-rest.result) = omega (arith, ints, c.if-rest-m.true, c.left_of-rest.ensures.low, c.left_of-rest.ensures.high) in
    floor_is ∙ nearest_down c.args.n c.args.m c.floor-down.result c.left_of-rest.result c.requires.positive
    (taken_apart _ _ _ _ _ _ c.left_of-rest.result dividend_is floor_is divisor_is c.left_of-rest.ensures.value) c.left_of-rest.ensures.low rest_lower_half

pub returns-then-rest-m-clause-bounds : goal.returns-then-rest-m-clause-bounds
returns-then-rest-m-clause-bounds c = subst (λ (q : ℤ). IsNearest c.args.n (unsigned_abs c.args.m) q) (sym (returns-then-rest-m-clause-value c))
    (nearest_is c.args.n (unsigned_abs c.args.m) (abs_pos c.args.m c.requires.positive))

pub returns-else-rest-m-clause-value : goal.returns-else-rest-m-clause-value
returns-else-rest-m-clause-value c =
    let dividend_is : to_z w128 (of_z w128 c.args.n) ≡ c.args.n = to_z-of_z w128 c.args.n c.ranges.n in
    let divisor_is : to_z w128 (of_z w128 c.args.m) ≡ c.args.m = to_z-of_z w128 c.args.m c.ranges.m in
    let floor_is : to_z w128 (of_z w128 c.floor-down.result) ≡ c.floor-down.result = grind (arith, to_z-of_z) in
    let next_is : to_z w128 (of_z w128 (to_z w128 (of_z w128 c.floor-down.result) +ℤ pos 1)) ≡ c.floor-down.result +ℤ pos 1 = grind (arith, to_z-of_z) in
    let rest_upper_half : (c.args.m -ℤ c.left_of-rest.result) ≤ℤ c.left_of-rest.result = omega (arith, ints, c.if-rest-m.false, c.left_of-rest.ensures.low, c.left_of-rest.ensures.high) in
    let rest_below : c.left_of-rest.result <ℤ c.args.m = subst (λ (k : ℤ). c.left_of-rest.result <ℤ k) divisor_is c.left_of-rest.ensures.high in
    next_is ∙ nearest_up c.args.n c.args.m c.floor-down.result c.left_of-rest.result c.requires.positive
    (taken_apart _ _ _ _ _ _ c.left_of-rest.result dividend_is floor_is divisor_is c.left_of-rest.ensures.value) rest_below rest_upper_half

pub returns-else-rest-m-clause-bounds : goal.returns-else-rest-m-clause-bounds
returns-else-rest-m-clause-bounds c = subst (λ (q : ℤ). IsNearest c.args.n (unsigned_abs c.args.m) q) (sym (returns-else-rest-m-clause-value c))
    (nearest_is c.args.n (unsigned_abs c.args.m) (abs_pos c.args.m c.requires.positive))

pub returns-else-rest-m-clause-size : goal.returns-else-rest-m-clause-size
returns-else-rest-m-clause-size c = subst (λ (q : ℤ). unsigned_abs q ≤ unsigned_abs c.args.n) (sym (returns-else-rest-m-clause-value c))
    (nearest_size c.args.n (unsigned_abs c.args.m) (abs_pos c.args.m c.requires.positive))
