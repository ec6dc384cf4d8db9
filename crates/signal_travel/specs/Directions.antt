-- What a spread says of a number, and three of a direction.
use Rattle.std.specs.Prelude.{◌^◌, List, [], ◌∷◌, pos}
use Rattle.whole_math.specs.Rational.{Rational, Near, of_whole, ◌*ʳ◌}
use Rattle.orbit_model.specs.SeenPlaces.{Position}
use Rattle.obs_rows.specs.declared.units.TheConstants.{DIRECTION_EXPONENT}
use Rattle.signal_travel.specs.declared.spread.Spread.{Spread}

-- q, as a row's direction, is within the radius of the centre
abbrev pub IsInSpread : Spread → Rational → Type 0
IsInSpread s q = Near s.centre s.radius (of_whole (pos (2 ^ DIRECTION_EXPONENT)) *ʳ q)

-- each rational is in the spread in its place, and the lists are equally long
abbrev pub AreInSpreads : List Spread → List Rational → Type 0
AreInSpreads [] [] = Unit {0}
AreInSpreads [] (q ∷ qs) = ⊥
AreInSpreads (s ∷ ss) [] = ⊥
AreInSpreads (s ∷ ss) (q ∷ qs) = IsInSpread s q × AreInSpreads ss qs

-- each coordinate is in its spread
abbrev pub HoldsDirection : List Spread → Position → Type 0
HoldsDirection spreads q = AreInSpreads spreads (q.x ∷ q.y ∷ q.z ∷ [])
