-- The constants of a system, as the equations take them.
use Rattle.whole_math.specs.Rational.{of_whole}
use Rattle.eph_store.specs.Decimals.{decimal}
use Rattle.orbit_model.specs.Elements.{Constants}
use Rattle.sv_orbit.specs.declared.world.World.{World}

-- F is given in 10^-19 s/√m
abbrev pub constants_of : World → Constants
constants_of w = record { mu = of_whole w.mu; relativity = decimal w.rel 19 }
