use Rattle.std.proofs.Common.{ℕ, ◌+◌, ◌-◌, ◌^◌, ◌<◌, arith, pow_pos}
use Rattle.iv_core.specs.Intervals.{width_of, low_product, high_product}
use Rattle.sized_box.proofs.Bounds.{reached, same_within, product_within, product_narrow}
use Rattle.sized_box.proofs.SizedBox.mul.Goals as goal

pub product_of-requires : goal.product_of-requires
product_of-requires g c =
    let x = c.args.self.now in
    let y = c.args.other.now in
    let s : ℕ = 2 ^ (g.row.K + g.row.A - g.row.TO) in
    let product_in = product_within x.held.lo x.held.hi y.held.lo y.held.hi g.row.SIZE g.row.OTHER_SIZE g.row.TO_SIZE s
    (pow_pos (g.row.K + g.row.A - g.row.TO)) x.held.ordered y.held.ordered x.within.0 x.within.1 y.within.0 y.within.1 c.requires.size in
    let stays_in_reach = reached _ _ g.row.TO_SIZE c.requires.limit product_in.0 product_in.1 in
    (omega arith, (omega arith, (omega arith, (c.requires.scale, (c.requires.coarser, stays_in_reach)))))

pub new-requires : goal.new-requires
new-requires g c =
    let x = c.args.self.now in
    let y = c.args.other.now in
    let box = c.product_of.result in
    let s : ℕ = 2 ^ (g.row.K + g.row.A - g.row.TO) in
    let divisor_positive : 0 < s = pow_pos (g.row.K + g.row.A - g.row.TO) in
    let product_in = product_within x.held.lo x.held.hi y.held.lo y.held.hi g.row.SIZE g.row.OTHER_SIZE g.row.TO_SIZE s divisor_positive x.held.ordered y.held.ordered
    x.within.0 x.within.1 y.within.0 y.within.1 c.requires.size in (
      omega arith,
      (
        omega arith,
        (
          same_within box.lo box.hi (low_product g.row.TO x.held y.held) (high_product g.row.TO x.held y.held) g.row.TO_SIZE c.product_of.ensures.lo c.product_of.ensures.hi product_in.0 product_in.1,
          product_narrow (width_of box) (width_of x.held) (width_of y.held) g.row.SIZE g.row.OTHER_SIZE g.row.WIDTH g.row.OTHER_WIDTH
              g.row.TO_WIDTH s divisor_positive x.narrow y.narrow c.requires.width (c.product_of.ensures.width g.row.SIZE g.row.OTHER_SIZE x.within y.within),
        ),
      ),
    )
