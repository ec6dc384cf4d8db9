use Rattle.std.proofs.Common.{◌≡◌, ◌*ℤ◌, arith, to_z, of_z, ap₂, ◌∙◌}
use Rattle.std.specs.Int.{w64, w128}
use Rattle.std.proofs.lemmas.Int.{ints, to_z-of_z}
use Rattle.whole_math.proofs.Words.{as_w64}
use Rattle.iv_core.proofs.ProductEnds.{InOrder, by_signs}
use Rattle.iv_core.proofs.products.product_ends.Goals as goal

pub returns : goal.returns
returns c =
    let same_a : to_z w64 (of_z w64 c.args.a) ≡ c.args.a = to_z-of_z w64 c.args.a c.ranges.a in
    let same_b : to_z w64 (of_z w64 c.args.b) ≡ c.args.b = to_z-of_z w64 c.args.b c.ranges.b in
    let same_c : to_z w64 (of_z w64 c.args.c) ≡ c.args.c = to_z-of_z w64 c.args.c c.ranges.c in
    let same_d : to_z w64 (of_z w64 c.args.d) ≡ c.args.d = to_z-of_z w64 c.args.d c.ranges.d in
    let near : InOrder c.args.c c.args.a c.args.b c.in_order-near.result.0 c.in_order-near.result.1 = record {
      kept = λ h. (let near_kept = c.in_order-near.ensures.kept (omega (arith, ints)) in (near_kept.0 ∙ same_a, near_kept.1 ∙ same_b));
      turned = λ h. (let near_turned = c.in_order-near.ensures.turned (omega (arith, ints)) in (near_turned.0 ∙ same_b, near_turned.1 ∙ same_a));
    } in
    let first : InOrder c.args.a c.args.c c.args.d c.in_order-first.result.0 c.in_order-first.result.1 = record {
      kept = λ h. (let first_kept = c.in_order-first.ensures.kept (omega (arith, ints)) in (first_kept.0 ∙ same_c, first_kept.1 ∙ same_d));
      turned = λ h. (let first_turned = c.in_order-first.ensures.turned (omega (arith, ints)) in (first_turned.0 ∙ same_d, first_turned.1 ∙ same_c));
    } in
    let products_are_ends = by_signs c.args.a c.args.b c.args.c c.args.d _ _ _ _ c.requires.ordered c.requires.others_ordered
    (λ h. omega (arith, ints, c.is_across.ensures c.if-is_across.false (omega (arith, ints))))
    (λ h. omega (arith, ints, c.is_across-2.ensures c.if-is_across-2.false (omega (arith, ints)))) near first in
    record {
      least = to_z-of_z w128 c.product.result (record { sfits = c.product.type_inv }) ∙ c.product.ensures.value
          ∙ ap₂ (λ x y. x *ℤ y) (as_w64 c.in_order-near.result.0 c.in_order-near.ensures.size) (as_w64 c.in_order-first.result.0 c.in_order-first.ensures.size) ∙ products_are_ends.0;
      most = to_z-of_z w128 c.product-2.result (record { sfits = c.product-2.type_inv }) ∙ c.product-2.ensures.value
          ∙ ap₂ (λ x y. x *ℤ y) (as_w64 c.in_order-near.result.1 c.in_order-near.ensures.other_size) (as_w64 c.in_order-first.result.1 c.in_order-first.ensures.other_size) ∙ products_are_ends.1;
      size = omega (arith, ints, c.product-2.ensures.size);
    }
