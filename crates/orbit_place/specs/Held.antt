-- What the boxes of an orbit and of a place hold.
use Rattle.std.proofs.Common.{lit<}
use Rattle.whole_math.specs.Rational.{Rational, ◌-ʳ◌, ◌*ʳ◌, times, divided}
use Rattle.iv_core.specs.Intervals.{Holds}
use Rattle.orbit_model.specs.Elements.{Elements, Constants, earth_rate}
use Rattle.trig_box.specs.AnglePairs.{Pair}
use Rattle.orbit_model.specs.Solution.{Quantities, IsSatelliteSolution, IsPairOf5}
use Rattle.orbit_place.specs.Rotations.{HoldsBoth}
use Rattle.orbit_place.specs.declared.orbit.Orbit.{Orbit}

-- the boxes hold the numbers of a record and the quantities that the place is made from; times are over 10^4 s, and rates are times it
pub record HoldsOrbit (b : Orbit) (eph : Elements) (q : Quantities) : Type 0 where
  pub eccentricity : Holds b.shape.eccentricity.held eph.ecc
  pub anomaly : HoldsBoth b.anomaly.cos b.anomaly.sin q.eccentric_pair
  pub axis : Holds b.axis.held q.axis
  pub epoch_time : Holds b.epoch_time.held (divided q.tk 10000 (lit< tt))
  pub perigee : (p : Pair) → IsPairOf5 eph.peri p → HoldsBoth b.perigee.cos b.perigee.sin p
  pub inclination : Holds b.inclination.held eph.incl
  pub node : Holds b.node.held eph.node
  pub inclination_rate : Holds b.inclination_rate.held (times 10000 eph.incl_rate)
  pub node_rate : Holds b.node_rate.held (times 10000 eph.node_rate -ʳ times 10000 earth_rate)
  pub cuc : Holds b.cuc.held eph.cuc
  pub cus : Holds b.cus.held eph.cus
  pub cic : Holds b.cic.held eph.cic
  pub cis : Holds b.cis.held eph.cis
  pub crc : Holds b.crc.held eph.crc
  pub crs : Holds b.crs.held eph.crs
  pub earth_turn : Holds b.earth_turn.held (earth_rate *ʳ eph.toe_second)

-- P holds of the quantities of every solution whose numbers lie in the boxes
abbrev pub ForSolutions : Orbit → (Quantities → Type 0) → Type 0
ForSolutions b P = (world : Constants) (eph : Elements) (sent : Rational) (q : Quantities) → HoldsOrbit b eph q → IsSatelliteSolution world eph sent q → P q
