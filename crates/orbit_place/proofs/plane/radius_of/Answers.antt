use Rattle.whole_math.specs.Rational.{◌*ʳ◌}
use Rattle.orbit_place.proofs.Radii.{radius_least}
use Rattle.orbit_place.proofs.plane.radius_of.Goals as goal

pub returns-clause-holds : goal.returns-clause-holds
returns-clause-holds c = λ x y z h k l. c.add.ensures.holds (x *ʳ y) z (c.mul-bare.ensures.holds x y h k) l

pub returns-clause-least : goal.returns-clause-least
returns-clause-least c = radius_least c.args.axis.now.held c.args.share.now.held c.args.change.now.held c.add.result.held c.requires.axis_least
    c.requires.share_least c.args.change.now.within c.add.result.narrow (returns-clause-holds c)
