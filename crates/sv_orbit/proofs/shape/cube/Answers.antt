use Rattle.whole_math.specs.Rational.{Rational, ◌*ʳ◌}
use Rattle.std.proofs.Common.{refl}
use Rattle.eph_store.specs.Decimals.{value_of}
use Rattle.sv_orbit.proofs.Values.{cube_least}
use Rattle.sv_orbit.proofs.shape.cube.Goals as goal

pub returns-clause-least : goal.returns-clause-least
returns-clause-least c =
    let root_axis : Rational = value_of c.args.eph.now.root_a in
    cube_least c.mul.result.held root_axis c.args.eph.now.root_a_in.low (c.mul.ensures.holds (root_axis *ʳ root_axis) root_axis (c.axis.ensures.holds (root_axis *ʳ root_axis) refl) c.root_of_axis.ensures) c.mul.result.narrow
