use Rattle.std.proofs.Common.{◌≡◌, ◌^◌, ◌<◌, ◌≤◌, List, length, map, ℤ, pos, ◌+ℤ◌, ◌≤ℤ◌, unsigned_abs, arith, sym, ap, ◌∙◌, subst, rules}
use Rattle.std.proofs.lemmas.Int.{ints}
use Rattle.whole_math.specs.Rounding.{ceil_div}
use Rattle.quadratic_form.specs.UpperSum.{size}
use Rattle.fix_decide.specs.UpperSums.{scalar_product}
use Rattle.fix_decide.proofs.Words.{radius_word}
use Rattle.fix_decide.proofs.Radii.{product_nonneg, ceil_nonneg}
use Rattle.fix_decide.proofs.reaches.radius_of.Goals as goal
use Rattle.obs_rows.specs.Best.{move_exponent}

at_least_one : (y u : ℤ) → pos 0 ≤ℤ y → pos 0 ≤ℤ u → pos 0 ≤ℤ ((y +ℤ u) +ℤ pos 1)
at_least_one y u h g = omega (arith, ints)

at_most : (y u : ℤ) → pos 0 ≤ℤ y → y ≤ℤ pos (2 ^ 20) → unsigned_abs u ≤ 2 ^ 56 → ((y +ℤ u) +ℤ pos 1) ≤ℤ pos (2 ^ 57)
at_most y u k h g = omega (arith, ints)

pub overflow_add-result-2 : goal.overflow_add-result-2
overflow_add-result-2 c =
    let ry_not_negative = c.args.row.now.ry_in.0 in
    let ry_at_most = c.args.row.now.ry_in.1 in
    omega (arith, ints, c.rounded_product.ensures.size)

pub returns-clause-value : goal.returns-clause-value
returns-clause-value c =
    let ru : List ℤ = c.args.row.now.ru in
    radius_word c.args.row.now.ry c.rounded_product.result c.args.row.now.ry_in.0 c.args.row.now.ry_in.1 c.rounded_product.ensures.size
    ∙ ap (λ u. (c.args.row.now.ry +ℤ u) +ℤ pos 1) (c.rounded_product.ensures.value ∙ ap (λ (l : List ℤ). ceil_div (scalar_product ru l) (2 ^ move_exponent)) c.sizes.ensures.value)

pub returns-clause-from : goal.returns-clause-from
returns-clause-from c =
    let ru : List ℤ = c.args.row.now.ru in
    let has_first : 0 < length c.args.row.now.ru = search rules in
    let has_second : 1 < length c.args.row.now.ru = search rules in
    let has_third : 2 < length c.args.row.now.ru = search rules in
    let product_is : c.rounded_product.result ≡ ceil_div (scalar_product ru (map size c.args.moved.now)) (2 ^ move_exponent) =
    c.rounded_product.ensures.value ∙ ap (λ (l : List ℤ). ceil_div (scalar_product ru l) (2 ^ move_exponent)) c.sizes.ensures.value in
    let sum_not_negative : pos 0 ≤ℤ scalar_product ru (map size c.args.moved.now) =
    product_nonneg ru c.args.moved.now (c.args.row.now.ru_in 0 (pos 0) has_first).0 (c.args.row.now.ru_in 1 (pos 0) has_second).0 (c.args.row.now.ru_in 2 (pos 0) has_third).0 in
    let result_not_negative : pos 0 ≤ℤ c.rounded_product.result = subst (λ (x : ℤ). pos 0 ≤ℤ x) (sym product_is) (ceil_nonneg (scalar_product ru (map size c.args.moved.now)) (2 ^ move_exponent) sum_not_negative) in
    subst (λ (x : ℤ). pos 0 ≤ℤ x) (sym (radius_word c.args.row.now.ry c.rounded_product.result c.args.row.now.ry_in.0 c.args.row.now.ry_in.1 c.rounded_product.ensures.size))
    (at_least_one c.args.row.now.ry c.rounded_product.result c.args.row.now.ry_in.0 result_not_negative)

pub returns-clause-to : goal.returns-clause-to
returns-clause-to c =
    subst (λ (x : ℤ). x ≤ℤ pos (2 ^ 57)) (sym (radius_word c.args.row.now.ry c.rounded_product.result c.args.row.now.ry_in.0 c.args.row.now.ry_in.1 c.rounded_product.ensures.size))
    (at_most c.args.row.now.ry c.rounded_product.result c.args.row.now.ry_in.0 c.args.row.now.ry_in.1 c.rounded_product.ensures.size)
