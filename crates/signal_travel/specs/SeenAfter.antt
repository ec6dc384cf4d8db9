-- Where a receiver sees a satellite if the Earth turns in another time than light travels.
use Rattle.whole_math.specs.Rational.{Rational, ◌*ʳ◌, IsNearRoot}
use Rattle.trig_box.specs.AnglePairs.{Pair, IsAnglePair}
use Rattle.orbit_model.specs.Elements.{earth_rate}
use Rattle.orbit_model.specs.SeenPlaces.{Position, difference, square, turned_back, AreSamePlace, over_light_speed_squared}

-- `seen` is where the Earth's turn in the time `turned` leaves the place `sent`, and light comes from there in the time `travel`. Where
-- both times are one, it is what IsSeenPlace says
pub record IsSeenAfter (sent point : Position) (turned travel : Rational) (seen : Position) : Type 0 where
  pub turn : Pair
  pub turn_is : IsAnglePair 5 (earth_rate *ʳ turned) turn.cos turn.sin
  pub seen_is : AreSamePlace seen (turned_back turn sent)
  pub travel_is : IsNearRoot travel (over_light_speed_squared (square (difference seen point)))
