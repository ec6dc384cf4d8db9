use Rattle.std.proofs.Common.{◌≡◌, ℕ, ◌^◌, ◌≤◌, pos, ◌*ℤ◌, unsigned_abs, arith, to_z, of_z, ap, ◌∙◌}
use Rattle.std.proofs.lemmas.Int.{ints, to_z-of_z}
use Rattle.std.specs.Int.{w64, w128}
use Rattle.quadratic_form.specs.declared.sizes.TheConstants.{MOST_COLUMNS}
use Rattle.whole_math.specs.Rounding.{ceil_div}
use Rattle.whole_math.proofs.Words.{as_w128}
use Rattle.elimination.proofs.entries.factor_loss.Goals as goal

short_count : (n : ℕ) → n ≤ MOST_COLUMNS → to_z w64 n ≡ pos n
short_count n h = omega (arith, ints)

pub returns-clause-value : goal.returns-clause-value
returns-clause-value c =
    let product : c.product.result ≡ pos c.args.later *ℤ c.args.a = rw (short_count c.args.later c.requires.few, to_z-of_z w64 c.args.a c.ranges.a) at c.product.ensures.value in
    let product_kept : to_z w128 (of_z w128 c.product.result) ≡ c.product.result = as_w128 c.product.result (omega (arith, c.product.ensures.size)) in
    let loss : c.ceil_shift.result ≡ ceil_div c.product.result (2 ^ 42) = rw product_kept at c.ceil_shift.ensures.value in
    let size : unsigned_abs c.ceil_shift.result ≤ unsigned_abs c.product.result = rw product_kept at c.ceil_shift.ensures.size in
    as_w128 c.ceil_shift.result (omega (arith, size, c.product.ensures.size)) ∙ loss ∙ ap (λ z. ceil_div z (2 ^ 42)) product

pub returns-clause-size : goal.returns-clause-size
returns-clause-size c =
    let product_kept : to_z w128 (of_z w128 c.product.result) ≡ c.product.result = as_w128 c.product.result (omega (arith, c.product.ensures.size)) in
    let size : unsigned_abs c.ceil_shift.result ≤ unsigned_abs c.product.result = rw product_kept at c.ceil_shift.ensures.size in
    rw (as_w128 c.ceil_shift.result (omega (arith, size, c.product.ensures.size))) (omega (arith, size, c.product.ensures.size))
