use Rattle.std.proofs.Common.{◌*◌, ◌^◌, ℤ, pos, ◌+ℤ◌, ◌-ℤ◌, ◌*ℤ◌, ◌≤ℤ◌, ◌<ℤ◌, neg_ℤ, arith, lit<, lit≤}
use Rattle.std.proofs.lemmas.Int.{ints}
use Rattle.iv_core.specs.Intervals.{low_product, high_product}
use Rattle.sized_box.proofs.Bounds.{reached, same_within, product_within}
use Rattle.signal_travel.proofs.turns.sine_times.Goals as goal

within : (c : goal.Start) → (neg_ℤ (pos 164926744166400) ≤ℤ low_product 36 c.args.sin.now c.args.x.now) × (high_product 36 c.args.sin.now c.args.x.now ≤ℤ pos 164926744166400)
within c =
    let sine = c.args.sin.now in
    let coordinate = c.args.x.now in
    product_within sine.lo sine.hi coordinate.lo coordinate.hi 70368744177664 2611340115968000000 164926744166400 (2 ^ 60) (lit< tt) sine.ordered coordinate.ordered
    c.requires.sin_size.0 c.requires.sin_size.1 c.requires.size.0 c.requires.size.1 (lit≤ tt)

pub product_of-requires : goal.product_of-requires
product_of-requires c =
    let product_within = within c in
    let is_reached = reached _ _ 164926744166400 (lit≤ tt) product_within.0 product_within.1 in
    (omega arith, (omega arith, (omega arith, (omega arith, (omega arith, is_reached)))))

pub returns-clause-size : goal.returns-clause-size
returns-clause-size c =
    let product_within = within c.before in
    same_within c.product_of.result.lo c.product_of.result.hi _ _ 164926744166400 c.product_of.ensures.lo c.product_of.ensures.hi product_within.0 product_within.1

narrow : (w u v : ℤ) → (pos (2 ^ 60) *ℤ w) <ℤ (((pos 70368744177664 *ℤ u) +ℤ (pos 2611340115968000000 *ℤ v)) +ℤ (pos 2 *ℤ pos (2 ^ 60)))
    → u ≤ℤ pos (2 ^ 18) → (pos (2 ^ 24) *ℤ w) ≤ℤ ((pos 38000000 *ℤ v) +ℤ pos (18 * 2 ^ 24))
narrow w u v h k = omega (arith, ints)

pub returns-clause-width : goal.returns-clause-width
returns-clause-width c =
    let sine = c.args.sin.now in
    let coordinate = c.args.x.now in
    narrow (c.product_of.result.hi -ℤ c.product_of.result.lo) (coordinate.hi -ℤ coordinate.lo) (sine.hi -ℤ sine.lo)
    (c.product_of.ensures.width 70368744177664 2611340115968000000 c.requires.sin_size c.requires.size) c.requires.narrow
