use Rattle.std.proofs.Common.{ℕ, ◌+◌, ◌-◌, ◌^◌, ◌<◌, arith, pow_pos}
use Rattle.iv_core.specs.Intervals.{width_of, low_square, high_square}
use Rattle.sized_box.proofs.Bounds.{reached, same_within, square_within, square_narrow}
use Rattle.sized_box.proofs.SizedBox.square.Goals as goal

pub square_of-requires : goal.square_of-requires
square_of-requires g c =
    let x = c.args.self.now in
    let s : ℕ = 2 ^ (g.row.K + g.row.K - g.row.TO) in
    let square_in = square_within x.held.lo x.held.hi g.row.SIZE g.row.TO_SIZE s (pow_pos (g.row.K + g.row.K - g.row.TO)) x.held.ordered x.within.0 x.within.1 c.requires.size in
    let stays_in_reach = reached _ _ g.row.TO_SIZE c.requires.limit square_in.0 square_in.1 in
    (omega arith, (omega arith, (c.requires.scale, (c.requires.coarser, stays_in_reach))))

pub new-requires : goal.new-requires
new-requires g c =
    let x = c.args.self.now in
    let box = c.square_of.result in
    let s : ℕ = 2 ^ (g.row.K + g.row.K - g.row.TO) in
    let divisor_positive : 0 < s = pow_pos (g.row.K + g.row.K - g.row.TO) in
    let square_in = square_within x.held.lo x.held.hi g.row.SIZE g.row.TO_SIZE s divisor_positive x.held.ordered x.within.0 x.within.1 c.requires.size in (
      omega arith,
      (
        omega arith,
        (
          same_within box.lo box.hi (low_square g.row.TO x.held) (high_square g.row.TO x.held) g.row.TO_SIZE c.square_of.ensures.lo c.square_of.ensures.hi square_in.0 square_in.1,
          square_narrow (width_of box) (width_of x.held) g.row.SIZE g.row.WIDTH g.row.TO_WIDTH s divisor_positive x.narrow c.requires.width (c.square_of.ensures.width g.row.SIZE x.within),
        ),
      ),
    )
