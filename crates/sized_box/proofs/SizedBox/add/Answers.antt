use Rattle.std.proofs.Common.{◌≡◌, ◌+ℤ◌, arith}
use Rattle.std.proofs.lemmas.Int.{ints}
use Rattle.sized_box.proofs.Bounds.{reached, same_within}
use Rattle.sized_box.proofs.SizedBox.add.Goals as goal

pub sum_of-requires : goal.sum_of-requires
sum_of-requires g c =
    let x = c.args.self.now in
    let y = c.args.other.now in
    let stays_in_reach = reached (x.held.lo +ℤ y.held.lo) (x.held.hi +ℤ y.held.hi) g.row.TO_SIZE c.requires.limit
    (omega (arith, ints, x.within.0, x.within.1, y.within.0, y.within.1, c.requires.size))
    (omega (arith, ints, x.within.0, x.within.1, y.within.0, y.within.1, c.requires.size)) in
    (omega arith, stays_in_reach)

pub new-requires : goal.new-requires
new-requires g c =
    let x = c.args.self.now in
    let y = c.args.other.now in
    let box = c.sum_of.result in (
      omega arith,
      (
        omega arith,
        (
          same_within box.lo box.hi (x.held.lo +ℤ y.held.lo) (x.held.hi +ℤ y.held.hi) g.row.TO_SIZE c.sum_of.ensures.lo c.sum_of.ensures.hi
              (omega (arith, ints, x.within.0, x.within.1, y.within.0, y.within.1, c.requires.size)) (omega (arith, ints, x.within.0, x.within.1, y.within.0, y.within.1, c.requires.size)),
          omega (arith, ints, c.sum_of.ensures.width, x.narrow, y.narrow, c.requires.width),
        ),
      ),
    )
