use Rattle.std.proofs.Common.{◌≡◌, ◌^◌, ℤ, pos, ◌-ℤ◌, neg_ℤ, to_z, of_z, w64, arith}
use Rattle.std.specs.Int.{w128}
use Rattle.std.proofs.lemmas.Int.{ints, to_z-of_z}
use Rattle.whole_math.specs.Rounding.{ceil_div}
use Rattle.int_search.proofs.LevelLaws.{fresh_from}
use Rattle.int_search.proofs.steps.untouched_level.Goals as goal

pub returns : goal.returns
returns c =
    let up : ℤ = c.ceil_part-up.result in
    let is_ceiling : c.ceil_part-up.result ≡ ceil_div (neg_ℤ c.args.rest) (2 ^ 30) = grind (arith, to_z-of_z) in
    let up_kept : to_z w64 (of_z w64 (to_z w128 (of_z w128 c.ceil_part-up.result))) ≡ c.ceil_part-up.result = omega (arith, ints) in
    let down_kept : to_z w64 (of_z w64 (to_z w64 (of_z w64 (to_z w128 (of_z w128 c.ceil_part-up.result))) -ℤ pos 1)) ≡ c.ceil_part-up.result -ℤ pos 1 = omega (arith, ints) in
    fresh_from c.args.rest c.args.low up _ _ _ _ _ is_ceiling c.ceil_part-up.ensures.size c.requires up_kept down_kept (grind (arith, to_z-of_z)) (grind (arith, to_z-of_z)) (grind (arith, to_z-of_z))
