use Rattle.std.proofs.Common.{◌≡◌, ℤ, pos, ◌-ℤ◌, ◌*ℤ◌, ◌≤ℤ◌, ◌<ℤ◌, arith, to_z, of_z, ap₂, ◌∙◌}
use Rattle.std.proofs.lemmas.Int.{ints, to_z-of_z}
use Rattle.std.specs.Int.{w64, w128}
use Rattle.iv_core.proofs.QuotientLaws.{settled}
use Rattle.iv_core.proofs.quotients.floor_near.Goals as goal

pub returns-then-is_rest-clause-value : goal.returns-then-is_rest-clause-value
returns-then-is_rest-clause-value c =
    let same_numerator : to_z w128 (of_z w128 c.args.n) ≡ c.args.n = to_z-of_z w128 c.args.n c.ranges.n in
    let same_guess : to_z w64 (of_z w64 c.args.guess) ≡ c.args.guess = to_z-of_z w64 c.args.guess c.ranges.guess in
    let same_divisor : to_z w64 (of_z w64 c.args.c) ≡ c.args.c = to_z-of_z w64 c.args.c c.ranges.c in
    let same_rest : to_z w128 (of_z w128 c.left_of-left.result) ≡ c.left_of-left.result = to_z-of_z w128 c.left_of-left.result (record { sfits = c.left_of-left.type_inv }) in
    let rest_is : c.left_of-left.result ≡ c.args.n -ℤ (c.args.guess *ℤ c.args.c) = c.left_of-left.ensures ∙ ap₂ (λ x y. x -ℤ y) same_numerator (ap₂ (λ x y. x *ℤ y) same_guess same_divisor) in
    let within = c.is_rest.ensures c.if-is_rest.true in
    let low : pos 0 ≤ℤ c.left_of-left.result = omega (arith, ints, within.0, same_rest) in
    let high : c.left_of-left.result <ℤ c.args.c = omega (arith, ints, within.1, same_rest, same_divisor) in
    let result_is : to_z w128 (of_z w128 (to_z w64 (of_z w64 c.args.guess))) ≡ c.args.guess = omega (arith, ints) in
    result_is ∙ settled c.args.n c.args.guess c.args.c c.left_of-left.result c.requires.positive rest_is low high
