use Rattle.std.proofs.Common.{◌≡◌, ◌+ℤ◌, ◌-ℤ◌, ◌*ℤ◌, ◌≤ℤ◌, ◌<ℤ◌, arith, to_z, of_z, ap₂, ◌∙◌}
use Rattle.std.proofs.lemmas.Int.{ints, to_z-of_z}
use Rattle.std.specs.Int.{w64, w128}
use Rattle.iv_core.proofs.QuotientLaws.{stepped}
use Rattle.iv_core.proofs.quotients.floor_beside.Goals as goal

pub step_of-requires-clause-low : goal.step_of-requires-clause-low
step_of-requires-clause-low c = grind (arith, ints, to_z-of_z)

pub overflow_add-result : goal.overflow_add-result
overflow_add-result c = omega (arith, ints, c.step_of.ensures.size)

pub returns-clause-value : goal.returns-clause-value
returns-clause-value c =
    let same_numerator : to_z w128 (of_z w128 c.args.n) ≡ c.args.n = to_z-of_z w128 c.args.n c.ranges.n in
    let same_guess : to_z w64 (of_z w64 c.args.guess) ≡ c.args.guess = to_z-of_z w64 c.args.guess c.ranges.guess in
    let same_divisor : to_z w64 (of_z w64 c.args.c) ≡ c.args.c = to_z-of_z w64 c.args.c c.ranges.c in
    let same_rest : to_z w128 (of_z w128 c.left_of-left.result) ≡ c.left_of-left.result = to_z-of_z w128 c.left_of-left.result (record { sfits = c.left_of-left.type_inv }) in
    let rest_is : c.left_of-left.result ≡ c.args.n -ℤ (c.args.guess *ℤ c.args.c) = c.left_of-left.ensures ∙ ap₂ (λ x y. x -ℤ y) same_numerator (ap₂ (λ x y. x *ℤ y) same_guess same_divisor) in
    let low : (c.step_of.result *ℤ c.args.c) ≤ℤ c.left_of-left.result = grind (arith, to_z-of_z) in
    let high : c.left_of-left.result <ℤ ((c.step_of.result *ℤ c.args.c) +ℤ c.args.c) = grind (arith, to_z-of_z) in
    let sum_is : to_z w128 (of_z w128 (to_z w128 (of_z w128 (to_z w64 (of_z w64 c.args.guess))) +ℤ to_z w128 (of_z w128 c.step_of.result))) ≡ c.args.guess +ℤ c.step_of.result = omega (arith, ints, c.step_of.ensures.size) in
    sum_is ∙ stepped c.args.n c.args.guess c.args.c c.step_of.result c.left_of-left.result c.requires.positive rest_is low high
