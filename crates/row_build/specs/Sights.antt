-- What the rover sees of an entry's satellite, and what both receivers do.
use Rattle.std.specs.Prelude.{◌≡◌, ℕ, Some, List, [], ◌∷◌, slice_get, ℤ}
use Rattle.orbit_model.specs.SeenPlaces.{Position, IsDisplacement, IsMeanDirection, place_at}
use Rattle.signal_travel.specs.declared.spread.Spread.{Spread}
use Rattle.signal_travel.specs.Directions.{IsInSpread}
use Rattle.screening.specs.declared.sv_pair.SvPair.{SvPair}
use Rattle.row_boxes.specs.declared.sights.Sight.{Sight}
use Rattle.row_boxes.specs.Sightings.{Sighting}
use Rattle.row_boxes.specs.BoxSightings.{IsSighting, HasSighting}
use Rattle.row_boxes.specs.YBoxes.{HoldsPseudoranges}
use Rattle.row_build.specs.BasePseudoranges.{IsBasePseudorange}
use Rattle.row_build.specs.declared.entries.SeenSat.{SeenSat}

-- each coordinate of the direction is in its spread of the three
abbrev pub IsInSpreads : List Spread → Position → Type 0
IsInSpreads spreads direction = (a b c : Spread) → spreads ≡ a ∷ b ∷ c ∷ [] → IsInSpread a direction.x × IsInSpread b direction.y × IsInSpread c direction.z

-- the pseudorange and each mean direction of every way in which the rover at the point may have seen the entry's satellite
pub record IsRoverSight (v : SvPair) (point : List ℤ) (sight : Sight) : Type 0 where
  pub pseudorange : HoldsPseudoranges v.rover point sight.pseudorange
  pub direction : (s : Sighting) (move direction : Position) → IsSighting v.rover point s → IsDisplacement move → IsMeanDirection s.seen (place_at point) move direction →
      IsInSpreads sight.direction direction

-- each is that of the entry in its place; there may be fewer than entries
abbrev pub AreRoverSights : List SvPair → List ℤ → List Sight → Type 0
AreRoverSights boxes point sights = (place : ℕ) (v : SvPair) (sight : Sight) → slice_get boxes place ≡ Some v → slice_get sights place ≡ Some sight → IsRoverSight v point sight

-- what the base sees there, and the rover at the point, from which there is something to see
pub record IsSeen (e : SeenSat) (base point : List ℤ) : Type 0 where
  pub base_pseudorange : IsBasePseudorange e.sv.now base e.base_pseudorange
  pub rover : IsRoverSight e.sv.now point e.rover
  pub exists : HasSighting e.sv.now.rover point
