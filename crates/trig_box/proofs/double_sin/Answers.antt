use Rattle.std.proofs.Common.{◌≡◌, ◌^◌, ◌*ℤ◌, ap, ap₂, ◌∙◌, to_z, of_z}
use Rattle.std.proofs.lemmas.Int.{to_z-of_z}
use Rattle.std.specs.Int.{w64}
use Rattle.whole_math.specs.Rounding.{floor_div}
use Rattle.trig_box.proofs.Casts.{wide_is, narrow_fits, narrow_is}
use Rattle.trig_box.proofs.double_sin.Goals as goal

pub overflow_cast-result : goal.overflow_cast-result
overflow_cast-result c =
    let same_cosine : to_z w64 (of_z w64 c.args.c) ≡ c.args.c = to_z-of_z w64 c.args.c c.ranges.c in
    let same_sine : to_z w64 (of_z w64 c.args.s) ≡ c.args.s = to_z-of_z w64 c.args.s c.ranges.s in
    let product_is_exact = wide_is c.product.result (c.args.c *ℤ c.args.s) c.product.ensures.size (c.product.ensures.value ∙ ap₂ (λ x y. x *ℤ y) same_cosine same_sine) in
    narrow_fits c.floor_shift.result (floor_div (c.args.c *ℤ c.args.s) (2 ^ 61)) (c.floor_shift.ensures.value ∙ ap (λ z. floor_div z (2 ^ 61)) product_is_exact) c.requires.size

pub returns : goal.returns
returns c =
    let same_cosine : to_z w64 (of_z w64 c.args.c) ≡ c.args.c = to_z-of_z w64 c.args.c c.ranges.c in
    let same_sine : to_z w64 (of_z w64 c.args.s) ≡ c.args.s = to_z-of_z w64 c.args.s c.ranges.s in
    let product_is_exact = wide_is c.product.result (c.args.c *ℤ c.args.s) c.product.ensures.size (c.product.ensures.value ∙ ap₂ (λ x y. x *ℤ y) same_cosine same_sine) in
    narrow_is c.floor_shift.result (floor_div (c.args.c *ℤ c.args.s) (2 ^ 61)) (c.floor_shift.ensures.value ∙ ap (λ z. floor_div z (2 ^ 61)) product_is_exact) c.requires.size
