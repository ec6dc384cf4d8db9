use Rattle.std.proofs.Common.{◌≡◌, ◌+ℤ◌, ◌-ℤ◌, arith}
use Rattle.std.proofs.lemmas.Int.{ints}
use Rattle.sized_box.proofs.Bounds.{reached, same_within}
use Rattle.sized_box.proofs.SizedBox.sub.Goals as goal

pub difference_of-requires : goal.difference_of-requires
difference_of-requires g c =
    let x = c.args.self.now in
    let y = c.args.other.now in
    let stays_in_reach = reached (x.held.lo -ℤ y.held.hi) (x.held.hi -ℤ y.held.lo) g.row.TO_SIZE c.requires.limit
    (omega (arith, ints, x.within.0, x.within.1, y.within.0, y.within.1, c.requires.size))
    (omega (arith, ints, x.within.0, x.within.1, y.within.0, y.within.1, c.requires.size)) in
    (omega arith, stays_in_reach)

pub new-requires : goal.new-requires
new-requires g c =
    let x = c.args.self.now in
    let y = c.args.other.now in
    let box = c.difference_of.result in (
      omega arith,
      (
        omega arith,
        (
          same_within box.lo box.hi (x.held.lo -ℤ y.held.hi) (x.held.hi -ℤ y.held.lo) g.row.TO_SIZE c.difference_of.ensures.lo c.difference_of.ensures.hi
              (omega (arith, ints, x.within.0, x.within.1, y.within.0, y.within.1, c.requires.size)) (omega (arith, ints, x.within.0, x.within.1, y.within.0, y.within.1, c.requires.size)),
          omega (arith, ints, c.difference_of.ensures.width, x.narrow, y.narrow, c.requires.width),
        ),
      ),
    )
