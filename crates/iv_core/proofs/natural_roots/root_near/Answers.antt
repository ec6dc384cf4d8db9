use Rattle.std.proofs.Common.{◌*◌, ◌≤◌, ◌<◌, ◌^◌, arith}
use Rattle.iv_core.proofs.NaturalRoots.{below_square, root_bound}
use Rattle.iv_core.proofs.natural_roots.root_near.Goals as goal
use Rattle.iv_core.proofs.natural_roots.root_near.Goals.{then-n-known, else-n-known}

pub settle-requires-clause-guess : goal.settle-requires-clause-guess
settle-requires-clause-guess c =
    let n = c.args.n in
    let r = c.args.guess in
    let square_is = c.square-known.ensures in
    elim c.if-n-known.branch [
      | then-n-known w ↦ (let square_below : r * r < 2 ^ 63 * 2 ^ 63 = omega arith in let guess_below : r < 2 ^ 63 = below_square r (2 ^ 63) square_below in omega arith)
      | else-n-known w ↦ (let square_below : r * r ≤ n = omega arith in let guess_below : r < 2 ^ 62 = root_bound r n square_below c.requires in omega arith)
    ]
