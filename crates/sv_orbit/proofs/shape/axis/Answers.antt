use Rattle.whole_math.specs.Rational.{Rational, ◌*ʳ◌}
use Rattle.whole_math.proofs.RationalLaws.{≈_sym}
use Rattle.whole_math.proofs.Boxes.{InBox-along}
use Rattle.eph_store.specs.Decimals.{value_of}
use Rattle.sv_orbit.proofs.Values.{axis_least}
use Rattle.sv_orbit.proofs.shape.axis.Goals as goal

pub returns-clause-holds : goal.returns-clause-holds
returns-clause-holds c = λ x e.
    let root_axis : Rational = value_of c.args.eph.now.root_a in
    InBox-along 36 c.square.result.held.lo c.square.result.held.hi (root_axis *ʳ root_axis) x (≈_sym x (root_axis *ʳ root_axis) e) (c.square.ensures.holds root_axis c.root_of_axis.ensures)

pub returns-clause-least : goal.returns-clause-least
returns-clause-least c =
    let root_axis : Rational = value_of c.args.eph.now.root_a in
    axis_least c.square.result.held root_axis c.args.eph.now.root_a_in.low (c.square.ensures.holds root_axis c.root_of_axis.ensures) c.square.result.narrow
