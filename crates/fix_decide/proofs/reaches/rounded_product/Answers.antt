use Rattle.std.proofs.Common.{◌^◌, ℤ, arith, ap, ◌∙◌}
use Rattle.whole_math.specs.Rounding.{ceil_div}
use Rattle.whole_math.proofs.Words.{as_w64, as_w128}
use Rattle.fix_decide.proofs.reaches.rounded_product.Goals as goal
use Rattle.obs_rows.specs.Best.{move_exponent}

pub returns-clause-value : goal.returns-clause-value
returns-clause-value c =
    let product : ℤ = c.scalar_product.result in
    as_w64 c.rounded_up.result (omega (arith, c.rounded_up.ensures.size)) ∙ c.rounded_up.ensures.value
    ∙ ap (λ x. ceil_div x (2 ^ move_exponent)) (as_w128 product (omega (arith, c.scalar_product.ensures.size)) ∙ c.scalar_product.ensures.value)
