-- Each quantity of a solution lies in the box of its step.
use Rattle.std.proofs.Common.{pos, refl}
use Rattle.whole_math.specs.Rational.{Rational, of_whole, ◌*ʳ◌, ◌+ʳ◌, times}
use Rattle.whole_math.proofs.Boxes.{InBox-along}
use Rattle.eph_store.specs.Decimals.{value_of}
use Rattle.sv_orbit.proofs.Values.{scaled_motion, scaled_sum}
use Rattle.sv_orbit.proofs.shape.mean_motion.Goals as goal

pub returns : goal.returns
returns c = λ sent q n.
    let solves = n.solves in
    let root_axis : Rational = value_of c.args.eph.now.root_a in
    let motion_change : Rational = value_of c.args.eph.now.dn in
    let tens = c.mul-tens.ensures.holds q.root_mu (of_whole (pos 10000)) (c.root_of_mu.ensures q.root_mu solves.root_of_mu) c.ten_thousand.ensures.holds in
    let cube = c.cube.ensures.holds q.axis solves.semi_major_axis in
    let computed = c.div-computed.ensures.holds (q.root_mu *ʳ of_whole (pos 10000)) (q.axis *ʳ root_axis) (times 10000 q.computed_motion) tens cube
    (scaled_motion q.computed_motion q.axis root_axis q.root_mu solves.computed_mean_motion) in
    let sum = c.add.ensures.holds (times 10000 q.computed_motion) (times 10000 motion_change) computed (c.decimal_box-change.ensures.holds (times 10000 motion_change) refl) in
    InBox-along 60 c.add.result.held.lo c.add.result.held.hi (times 10000 q.computed_motion +ʳ times 10000 motion_change) (times 10000 q.motion)
    (scaled_sum q.motion q.computed_motion motion_change solves.corrected_mean_motion) sum
