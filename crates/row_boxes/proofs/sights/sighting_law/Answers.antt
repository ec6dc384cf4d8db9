use Rattle.std.proofs.Common.{◌≡◌, List, [], ◌∷◌, ℤ, length, get_or, pos, arith, sym, subst}
use Rattle.whole_math.proofs.Lists.{three_items}
use Rattle.whole_math.specs.Boxes.{of_scale}
use Rattle.iv_core.specs.declared.Iv.{Iv}
use Rattle.iv_core.specs.Intervals.{Holds}
use Rattle.iv_core.proofs.BoxLaws.{low_held}
use Rattle.orbit_model.specs.SeenPlaces.{Position, place_at}
use Rattle.orbit_model.specs.Places.{HasSeenPlace, IsReceiverPlace, HoldsPlace}
use Rattle.orbit_model.proofs.Exists.{seen_place_exists}
use Rattle.obs_rows.specs.ReceiverPoints.{IsReceiverPoint}
use Rattle.signal_travel.proofs.Sights.{receiver_place}
use Rattle.row_boxes.proofs.sights.sighting_law.Goals as goal

-- the lower ends
abbrev corner_of : Iv 36 → Iv 36 → Iv 36 → Position
corner_of a b c = record { x = of_scale 36 a.lo; y = of_scale 36 b.lo; z = of_scale 36 c.lo }

corner_in : (s : List (Iv 36)) (a b c : Iv 36) → s ≡ a ∷ b ∷ c ∷ [] → HoldsPlace s (corner_of a b c)
corner_in s a b c e = subst (λ (t : List (Iv 36)). HoldsPlace t (corner_of a b c)) (sym e) (low_held a, (low_held b, (low_held c, tt)))

-- what is held by name
named : (s : List (Iv 36)) (a b c : Iv 36) (p : Position) → s ≡ a ∷ b ∷ c ∷ [] → HoldsPlace s p → Holds a p.x × Holds b p.y × Holds c p.z
named s a b c p e h = let holds_place : HoldsPlace (a ∷ b ∷ c ∷ []) p = subst (λ (t : List (Iv 36)). HoldsPlace t p) e h in (holds_place.0, holds_place.1.0, holds_place.1.1.0)

pub returns : goal.returns
returns c =
    let first_box : Iv 36 = c.index-sv-0.result in
    let boxes : List (Iv 36) = c.args.sv.now.place in
    let point : List ℤ = c.args.point.now in
    let x : Iv 36 = get_or boxes 0 first_box in
    let y : Iv 36 = get_or boxes 1 first_box in
    let z : Iv 36 = get_or boxes 2 first_box in
    let three_boxes : length boxes ≡ 3 = omega arith in
    let three_coordinates : length point ≡ 3 = omega arith in
    let boxes_are_three : boxes ≡ x ∷ y ∷ z ∷ [] = three_items boxes first_box first_box first_box three_boxes in
    let place : IsReceiverPlace (place_at point) = receiver_place (get_or point 0 (pos 0)) (get_or point 1 (pos 0)) (get_or point 2 (pos 0))
    (subst (λ (s : List ℤ). IsReceiverPoint s) (three_items point (pos 0) (pos 0) (pos 0) three_coordinates) c.requires) in
    let every : (sent : Position) → HoldsPlace boxes sent → HasSeenPlace sent (place_at point) = λ sent h.
    let holds_each = named boxes x y z sent boxes_are_three h in
    seen_place_exists sent (place_at point) (c.args.sv.now.away x y z boxes_are_three sent.x sent.y sent.z holds_each.0 holds_each.1 holds_each.2) place in
    let sent : Position = corner_of x y z in
    let held : HoldsPlace boxes sent = corner_in boxes x y z boxes_are_three in
    let seen : HasSeenPlace sent (place_at point) = every sent held in
    record {
      sighting = record { sent = sent; clock = of_scale 60 c.args.sv.now.clock.lo; seen = seen.seen; travel = seen.travel };
      is = record { sent_in = held; clock_in = low_held c.args.sv.now.clock; seen_is = seen.is_seen };
      every = every;
    }
