use Rattle.std.proofs.Common.{◌∙◌}
use Rattle.signal_travel.proofs.Products.{by_limbs}
use Rattle.signal_travel.proofs.wide.wide_product.Goals as goal

pub returns : goal.returns
returns c = record {
  value = c.sum_of_limbs.ensures.value
      ∙ by_limbs c.args.a c.args.b c.limb_product-low.result c.limb_product-left.result c.limb_product-right.result c.limb_product-high.result
      c.limb_product-low.ensures.value c.limb_product-left.ensures.value c.limb_product-right.ensures.value c.limb_product-high.ensures.value;
}
