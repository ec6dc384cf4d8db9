use Rattle.std.proofs.Common.{◌≡◌, ℤ, pos, ◌+ℤ◌, ◌<ℤ◌, sym, ◌∙◌, subst, to_z, of_z, arith, unsigned_abs, ◌≤◌}
use Rattle.std.proofs.lemmas.Int.{ints, to_z-of_z}
use Rattle.std.specs.Int.{w128}
use Rattle.whole_math.proofs.Absolute.{abs_pos}
use Rattle.whole_math.proofs.Quotients.{taken_apart, ceil_exact, ceil_next}
use Rattle.whole_math.proofs.Rounding.{ceil_is, ceil_size}
use Rattle.whole_math.specs.Rounding.{IsCeil}
use Rattle.whole_math.proofs.ceil.Goals as goal

pub returns-then-rest-eq0-clause-value : goal.returns-then-rest-eq0-clause-value
returns-then-rest-eq0-clause-value c =
    let dividend_is : to_z w128 (of_z w128 c.args.n) ≡ c.args.n = to_z-of_z w128 c.args.n c.ranges.n in
    let divisor_is : to_z w128 (of_z w128 c.args.m) ≡ c.args.m = to_z-of_z w128 c.args.m c.ranges.m in
    let floor_is : to_z w128 (of_z w128 c.floor-down.result) ≡ c.floor-down.result = grind (arith, to_z-of_z) in
    let rest_is_zero : c.left_of-rest.result ≡ pos 0 = omega (arith, ints, c.if-rest-eq0.true) in
    floor_is ∙ ceil_exact c.args.n c.args.m c.floor-down.result c.left_of-rest.result c.requires.positive
    (taken_apart _ _ _ _ _ _ c.left_of-rest.result dividend_is floor_is divisor_is c.left_of-rest.ensures.value) rest_is_zero

pub returns-then-rest-eq0-clause-bounds : goal.returns-then-rest-eq0-clause-bounds
returns-then-rest-eq0-clause-bounds c = subst (λ (q : ℤ). IsCeil c.args.n (unsigned_abs c.args.m) q) (sym (returns-then-rest-eq0-clause-value c))
    (ceil_is c.args.n (unsigned_abs c.args.m) (abs_pos c.args.m c.requires.positive))

pub returns-else-rest-eq0-clause-value : goal.returns-else-rest-eq0-clause-value
returns-else-rest-eq0-clause-value c =
    let dividend_is : to_z w128 (of_z w128 c.args.n) ≡ c.args.n = to_z-of_z w128 c.args.n c.ranges.n in
    let divisor_is : to_z w128 (of_z w128 c.args.m) ≡ c.args.m = to_z-of_z w128 c.args.m c.ranges.m in
    let floor_is : to_z w128 (of_z w128 c.floor-down.result) ≡ c.floor-down.result = grind (arith, to_z-of_z) in
    let next_is : to_z w128 (of_z w128 (to_z w128 (of_z w128 c.floor-down.result) +ℤ pos 1)) ≡ c.floor-down.result +ℤ pos 1 = grind (arith, to_z-of_z) in
    let rest_positive : pos 0 <ℤ c.left_of-rest.result = omega (arith, ints, c.if-rest-eq0.false, c.left_of-rest.ensures.low) in
    let rest_below : c.left_of-rest.result <ℤ c.args.m = subst (λ (k : ℤ). c.left_of-rest.result <ℤ k) divisor_is c.left_of-rest.ensures.high in
    next_is ∙ ceil_next c.args.n c.args.m c.floor-down.result c.left_of-rest.result c.requires.positive
    (taken_apart _ _ _ _ _ _ c.left_of-rest.result dividend_is floor_is divisor_is c.left_of-rest.ensures.value) rest_positive rest_below

pub returns-else-rest-eq0-clause-bounds : goal.returns-else-rest-eq0-clause-bounds
returns-else-rest-eq0-clause-bounds c = subst (λ (q : ℤ). IsCeil c.args.n (unsigned_abs c.args.m) q) (sym (returns-else-rest-eq0-clause-value c))
    (ceil_is c.args.n (unsigned_abs c.args.m) (abs_pos c.args.m c.requires.positive))

pub returns-else-rest-eq0-clause-size : goal.returns-else-rest-eq0-clause-size
returns-else-rest-eq0-clause-size c = subst (λ (q : ℤ). unsigned_abs q ≤ unsigned_abs c.args.n) (sym (returns-else-rest-eq0-clause-value c))
    (ceil_size c.args.n (unsigned_abs c.args.m) (abs_pos c.args.m c.requires.positive))
