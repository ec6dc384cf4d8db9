-- What both receivers see of an entry, and the direction that a row takes from it.
use Rattle.std.proofs.Common.{◌≡◌, List, [], ◌∷◌, length, ℤ, arith, refl, sym, subst₂}
use Rattle.orbit_model.specs.SeenPlaces.{Position}
use Rattle.signal_travel.specs.declared.spread.Spread.{Spread}
use Rattle.row_boxes.specs.Directions.{HasDirection}
use Rattle.row_boxes.specs.YBoxes.{HasSightings, HoldsBoth}
use Rattle.row_build.specs.declared.entries.SeenSat.{SeenSat}
use Rattle.row_build.specs.Sights.{IsInSpreads, IsSeen}
use Rattle.row_build.specs.Rows.{IsInU, seen_by}

pub held_by_both : (e : SeenSat) (base point : List ℤ) → IsSeen e base point → HoldsBoth (seen_by e.sv.now base point) e.base_pseudorange e.rover.pseudorange
held_by_both e base point s = record { base_held = s.base_pseudorange.holds; rover_held = s.rover.pseudorange }

pub both_see : (e : SeenSat) (base point : List ℤ) → IsSeen e base point → HasSightings (seen_by e.sv.now base point)
both_see e base point s = record { base = s.base_pseudorange.exists; rover = s.exists }

-- the direction boxes that are made of spreads hold what these hold
pub in_u : (spreads : List Spread) (u ru : List ℤ) (q : Position) → length spreads ≡ 3 → HasDirection spreads u ru → IsInSpreads spreads q →
    IsInU 0 u ru q.x × IsInU 1 u ru q.y × IsInU 2 u ru q.z
in_u [] u ru q three are held = absurd (omega (arith, three))
in_u (a ∷ []) u ru q three are held = absurd (omega (arith, three))
in_u (a ∷ b ∷ []) u ru q three are held = absurd (omega (arith, three))
in_u (a ∷ b ∷ c ∷ []) u ru q three are held =
    let in_each = held a b c refl in
    subst₂ (λ (x y : List ℤ). IsInU 0 x y q.x × IsInU 1 x y q.y × IsInU 2 x y q.z) (sym are.0) (sym are.1) (in_each.0, in_each.1, in_each.2)
in_u (a ∷ b ∷ c ∷ d ∷ ds) u ru q three are held = absurd (omega (arith, three))
