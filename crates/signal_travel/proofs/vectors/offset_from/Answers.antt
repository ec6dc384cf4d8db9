use Rattle.std.proofs.Common.{ℤ, pos, ◌-ℤ◌, ◌≤ℤ◌, neg_ℤ, arith, lit≤}
use Rattle.std.proofs.lemmas.Int.{ints}
use Rattle.sized_box.proofs.Bounds.{reached}
use Rattle.signal_travel.proofs.vectors.offset_from.Goals as goal

low : (a d : ℤ) → neg_ℤ (pos 2618212063641600000) ≤ℤ a → d ≤ℤ pos 481036405871476736 → neg_ℤ (pos 3106120348467200000) ≤ℤ (a -ℤ d)
low a d h k = omega (arith, ints)

high : (b c : ℤ) → b ≤ℤ pos 2618212063641600000 → neg_ℤ (pos 481036405871476736) ≤ℤ c → (b -ℤ c) ≤ℤ pos 3106120348467200000
high b c h k = omega (arith, ints)

pub difference_of-requires : goal.difference_of-requires
difference_of-requires c = (
  omega arith,
  reached _ _ 3106120348467200000 (lit≤ tt)
      (low c.args.x.now.lo c.args.coordinate.now.hi c.requires.x_size.0 c.requires.size.1)
      (high c.args.x.now.hi c.args.coordinate.now.lo c.requires.x_size.1 c.requires.size.0),
)

pub returns-clause-size : goal.returns-clause-size
returns-clause-size c =
    let difference_stands = c.difference_of.ensures in (
      rw difference_stands.lo (low c.args.x.now.lo c.args.coordinate.now.hi c.requires.x_size.0 c.requires.size.1),
      rw difference_stands.hi (high c.args.x.now.hi c.args.coordinate.now.lo c.requires.x_size.1 c.requires.size.0),
    )

pub returns-clause-holds : goal.returns-clause-holds
returns-clause-holds c = λ q p h k. c.difference_of.ensures.holds q p h k
