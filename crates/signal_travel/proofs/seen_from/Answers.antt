use Rattle.std.proofs.Common.{subst}
use Rattle.orbit_model.specs.SeenPlaces.{Position, point_of}
use Rattle.orbit_model.specs.Places.{HasSeenPlace}
use Rattle.orbit_model.proofs.Exists.{seen_place_exists}
use Rattle.signal_travel.proofs.Handed.{same_point, held}
use Rattle.signal_travel.proofs.Sights.{point_place}
use Rattle.signal_travel.proofs.seen_from.Goals as goal

pub returns-clause-exists : goal.returns-clause-exists
returns-clause-exists c = λ x y z sent e h.
    let holds_place = held c.args.sv.now.place c.sent_box.result.place sent c.sent_box.ensures h in
    subst (λ (p : Position). HasSeenPlace sent p) (same_point c.args.point.now x y z c.point_at.result.x c.point_at.result.y c.point_at.result.z e c.point_at.ensures)
    (seen_place_exists sent (point_of c.point_at.result.x c.point_at.result.y c.point_at.result.z) (c.sent_box.result.away sent.x sent.y sent.z holds_place.0 holds_place.1 holds_place.2) (point_place c.point_at.result))
