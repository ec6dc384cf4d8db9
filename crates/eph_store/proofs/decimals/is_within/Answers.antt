-- The size is at most the bound exactly where the number lies between the bound and its opposite.
use Rattle.std.proofs.Common.{rules}
use Rattle.eph_store.proofs.Signs.{within_of_size, size_of_within}
use Rattle.eph_store.proofs.decimals.is_within.Goals as goal

pub returns : goal.returns
returns c = (
  λ t. within_of_size c.args.bound c.args.places c.args.d (c.on_one_scale-size.ensures.below.0 (search rules)),
  λ w. let is_below = c.on_one_scale-size.ensures.below.1 (size_of_within c.args.bound c.args.places c.args.d w) in search rules,
)
