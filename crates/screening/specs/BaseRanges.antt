-- How far the base is from where it sees a satellite.
use Rattle.whole_math.specs.Rational.{Rational}
use Rattle.iv_core.specs.Intervals.{Holds}
use Rattle.orbit_model.specs.SeenPlaces.{Position, IsSeenPlace, range_of}
use Rattle.orbit_model.specs.Places.{HoldsPlace}
use Rattle.screening.specs.declared.sv_pair.SvPair.{SvPair}

-- the box of the range holds that of every place in the base's box, as it is seen from the point
abbrev pub HoldsRange : Position → SvPair → Type 0
HoldsRange point v = (sent seen : Position) (travel : Rational) → HoldsPlace v.base.place sent → IsSeenPlace sent point travel seen → Holds v.base_range (range_of travel)
