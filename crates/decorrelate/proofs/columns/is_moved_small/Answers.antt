use Rattle.std.proofs.Common.{◌≡◌, ◌^◌, ◌<◌, ◌≤◌, ℤ, unsigned_abs, arith, to_z, of_z, ◌∙◌, subst}
use Rattle.std.specs.Int.{w128}
use Rattle.whole_math.proofs.Words.{as_w128}
use Rattle.decorrelate.proofs.columns.is_moved_small.Goals as goal

pub returns-clause-small : goal.returns-clause-small
returns-clause-small c =
    let word : to_z w128 (of_z w128 c.rest-x.result) ≡ c.rest-x.result = as_w128 c.rest-x.result (omega (arith, c.rest-x.ensures.size)) in
    λ e. subst (λ (z : ℤ). unsigned_abs z < 2 ^ 30) (word ∙ c.rest-x.ensures.value) (c.is_small.ensures.small e)

pub returns-clause-wide : goal.returns-clause-wide
returns-clause-wide c =
    let word : to_z w128 (of_z w128 c.rest-x.result) ≡ c.rest-x.result = as_w128 c.rest-x.result (omega (arith, c.rest-x.ensures.size)) in
    λ e. subst (λ (z : ℤ). 2 ^ 30 ≤ unsigned_abs z) (word ∙ c.rest-x.ensures.value) (c.is_small.ensures.wide e)
