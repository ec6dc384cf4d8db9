use Rattle.std.proofs.Common.{◌≡◌, ◌^◌}
use Rattle.std.proofs.lemmas.Result.{IfOk-at_ok}
use Rattle.whole_math.specs.Rational.{Rational, InBox, ◌+ʳ◌, ◌*ʳ◌}
use Rattle.iv_core.specs.Boxes.{least_corner, most_corner}
use Rattle.whole_math.specs.Rounding.{floor_div, ceil_div}
use Rattle.iv_core.proofs.BoxLaws.{ok_of}
use Rattle.kepler_box.proofs.Parts.{product_fits, sum_fits}
use Rattle.kepler_box.proofs.right_side.Goals as goal

pub unwrap-product-requires : goal.unwrap-product-requires
unwrap-product-requires c = ok_of c.mul_to.result (λ h. product_fits c.args.e.now.lo c.args.e.now.hi c.args.sine.now.lo c.args.sine.now.hi
    (record { e_low = c.requires.e_low; e_high = c.requires.e_high; ordered = c.args.e.now.ordered; a_size = c.requires.lo_size; b_size = c.requires.hi_size }) (c.mul_to.ensures.refused.0 h))

pub unwrap-requires : goal.unwrap-requires
unwrap-requires c =
    let ends = IfOk-at_ok (λ b. (b.lo ≡ floor_div (least_corner c.args.e.now.lo c.args.e.now.hi c.args.sine.now.lo c.args.sine.now.hi) (2 ^ 64))
    × (b.hi ≡ ceil_div (most_corner c.args.e.now.lo c.args.e.now.hi c.args.sine.now.lo c.args.sine.now.hi) (2 ^ 64))) c.unwrap-product.ensures
    c.mul_to.ensures.ends in
    ok_of c.add.result (λ h. sum_fits c.args.e.now.lo c.args.e.now.hi c.args.sine.now.lo c.args.sine.now.hi c.args.m.now.lo c.args.m.now.hi c.unwrap-product.result.lo c.unwrap-product.result.hi
    (record {
      e_low = c.requires.e_low;
      e_high = c.requires.e_high;
      ordered = c.args.e.now.ordered;
      a_size = c.requires.lo_size;
      b_size = c.requires.hi_size;
    }) c.requires.mean.0 c.requires.mean.1 ends.0 ends.1 (c.add.ensures.refused.0 h))

pub returns-clause-holds : goal.returns-clause-holds
returns-clause-holds c = λ x y z h k l.
    let product = IfOk-at_ok (λ b. (x y : Rational) → InBox 60 c.args.e.now.lo c.args.e.now.hi x → InBox 60 c.args.sine.now.lo c.args.sine.now.hi y
    → InBox 56 b.lo b.hi (x *ʳ y)) c.unwrap-product.ensures c.mul_to.ensures.holds in
    let sum = IfOk-at_ok (λ b. (x y : Rational) → InBox 56 c.args.m.now.lo c.args.m.now.hi x
    → InBox 56 c.unwrap-product.result.lo c.unwrap-product.result.hi y → InBox 56 b.lo b.hi (x +ʳ y)) c.unwrap.ensures c.add.ensures.holds in
    sum x (y *ʳ z) h (product y z k l)
