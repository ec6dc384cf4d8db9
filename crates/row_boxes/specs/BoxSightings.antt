-- How the receivers may have seen a satellite whose place and clock lie in a box.
use Rattle.std.specs.Prelude.{List, ℤ}
use Rattle.iv_core.specs.Intervals.{Holds}
use Rattle.sv_orbit.specs.declared.place.SvBox.{SvBox}
use Rattle.orbit_model.specs.SeenPlaces.{Position, IsSeenPlace, place_at}
use Rattle.orbit_model.specs.Places.{HasSeenPlace, HoldsPlace}
use Rattle.row_boxes.specs.Sightings.{Sighting}

-- the satellite's place and clock lie in its box, and the receiver at the point sees the rest
pub record IsSighting (sv : SvBox) (point : List ℤ) (s : Sighting) : Type 0 where
  pub sent_in : HoldsPlace sv.place s.sent
  pub clock_in : Holds sv.clock s.clock
  pub seen_is : IsSeenPlace s.sent (place_at point) s.travel s.seen

-- some sighting; and from each place in the box the satellite is seen
pub record HasSighting (sv : SvBox) (point : List ℤ) : Type 0 where
  pub sighting : Sighting
  pub is : IsSighting sv point sighting
  pub every : (sent : Position) → HoldsPlace sv.place sent → HasSeenPlace sent (place_at point)
