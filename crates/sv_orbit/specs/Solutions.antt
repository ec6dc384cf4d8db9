-- What a satellite's box holds.
use Rattle.iv_core.specs.Intervals.{Holds}
use Rattle.orbit_model.specs.Solution.{Quantities}
use Rattle.orbit_model.specs.SeenPlaces.{sent_place}
use Rattle.orbit_model.specs.Places.{HoldsPlace}
use Rattle.sv_orbit.specs.declared.place.SvBox.{SvBox}

-- the coordinates and the clock of a solution lie in the boxes
pub record HoldsSolution (b : SvBox) (q : Quantities) : Type 0 where
  pub place : HoldsPlace b.place (sent_place q)
  pub clock : Holds b.clock q.clock
