use Rattle.std.proofs.Common.{◌^◌, pos, neg_ℤ, ◌≤ℤ◌, arith, lit≤, lit<}
use Rattle.iv_core.specs.Intervals.{low_square, high_square}
use Rattle.sized_box.proofs.Bounds.{reached, square_within}
use Rattle.signal_travel.proofs.vectors.square_of.Goals as goal

within : (c : goal.Start) → (neg_ℤ (pos 1046036480000000000) ≤ℤ low_square 9 c.args.x.now) × (high_square 9 c.args.x.now ≤ℤ pos 1046036480000000000)
within c =
    let coordinate = c.args.x.now in
    square_within coordinate.lo coordinate.hi 3106120348467200000 1046036480000000000 (2 ^ 63) (lit< tt) coordinate.ordered c.requires.0 c.requires.1 (lit≤ tt)

pub square_of-requires : goal.square_of-requires
square_of-requires c =
    let square_within = within c in
    let is_reached = reached _ _ 1046036480000000000 (lit≤ tt) square_within.0 square_within.1 in
    (omega arith, (omega arith, (omega arith, (omega arith, is_reached))))

pub returns-clause-high : goal.returns-clause-high
returns-clause-high c = let square_within = within c.before in rw c.square_of.ensures.hi square_within.1
