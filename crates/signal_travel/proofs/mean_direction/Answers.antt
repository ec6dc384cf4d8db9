use Rattle.std.proofs.Common.{sym, subst}
use Rattle.orbit_model.specs.SeenPlaces.{Position, IsMeanDirection}
use Rattle.signal_travel.proofs.Handed.{same_point, held}
use Rattle.signal_travel.proofs.mean_direction.Goals as goal

pub returns : goal.returns
returns c = λ x y z place move direction e h m d.
    let point = c.point_at.result in
    let direction_holds = c.direction_to-direction.ensures place move direction (held c.args.seen.now.place c.seen_place.result.place place c.seen_place.ensures h) m
    (subst (λ (q : Position). IsMeanDirection place q move direction) (sym (same_point c.args.point.now x y z point.x point.y point.z e c.point_at.ensures)) d) in
    (direction_holds.0, (direction_holds.1, (direction_holds.2, tt)))
