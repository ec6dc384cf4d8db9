use Rattle.std.proofs.Common.{subst}
use Rattle.whole_math.specs.Rational.{◌*ʳ◌}
use Rattle.iv_core.specs.declared.Iv.{Iv}
use Rattle.orbit_model.specs.Places.{IsBetweenDistances}
use Rattle.orbit_place.specs.Directions.{direction}
use Rattle.orbit_place.proofs.Transports.{held_along, x_with, y_with, z_with}
use Rattle.orbit_place.proofs.Distances.{away, narrower, all_narrow, first_is, second_is, third_is}
use Rattle.orbit_place.proofs.place_of.Goals as goal

pub returns-clause-holds : goal.returns-clause-holds
returns-clause-holds c = λ world eph sent q h s.
    let latitude = q.corrected_pair in
    let inclination = q.inclination_pair in
    let node = q.node_pair in
    let radius_held = c.in_plane-plane.ensures.radius world eph sent q h s in
    let direction_held = c.direction_of-direction.ensures.holds latitude inclination node (c.in_plane-plane.ensures.latitude world eph sent q h s)
    (c.inclination_of-inclination.ensures.holds world eph sent q h s (c.in_plane-plane.ensures.twice world eph sent q h s)) (c.node_of.ensures.holds world eph sent q h s) in (
      held_along c.mul-x.result.held (q.radius *ʳ (direction latitude inclination node).x) q.x
          (x_with q.x q.plane_x q.plane_y q.radius latitude.cos latitude.sin node.cos node.sin inclination.cos s.position_in_plane_x s.position_in_plane_y s.earth_fixed_x)
          (c.mul-x.ensures.holds q.radius (direction latitude inclination node).x radius_held direction_held.0),
      (
        held_along c.mul-y.result.held (q.radius *ʳ (direction latitude inclination node).y) q.y
            (y_with q.y q.plane_x q.plane_y q.radius latitude.cos latitude.sin node.cos node.sin inclination.cos s.position_in_plane_x s.position_in_plane_y s.earth_fixed_y)
            (c.mul-y.ensures.holds q.radius (direction latitude inclination node).y radius_held direction_held.1),
        (
          held_along c.mul-z.result.held (q.radius *ʳ (direction latitude inclination node).z) q.z (z_with q.z q.plane_y q.radius latitude.sin inclination.sin s.position_in_plane_y s.earth_fixed_z)
              (c.mul-z.ensures.holds q.radius (direction latitude inclination node).z radius_held direction_held.2),
          tt,
        ),
      ),
    )

pub returns-clause-narrow : goal.returns-clause-narrow
returns-clause-narrow c =
    all_narrow c.mul-x.result.held c.mul-y.result.held c.mul-z.result.held (narrower _ c.mul-x.result.narrow) (narrower _ c.mul-y.result.narrow) (narrower _ c.mul-z.result.narrow)

pub returns-clause-away : goal.returns-clause-away
returns-clause-away c = λ a b e h.
    let unit = c.direction_of-direction.result in
    let x = c.mul-x.result.held in
    let y = c.mul-y.result.held in
    let z = c.mul-z.result.held in
    let between_distances : IsBetweenDistances 19000000 38000000 x y z =
    away c.in_plane-plane.result.radius.held unit.x.held unit.y.held unit.z.held x y z c.in_plane-plane.result.radius_least
    c.in_plane-plane.result.radius.within unit.near_sphere
    (narrower _ c.mul-x.result.narrow) (narrower _ c.mul-y.result.narrow) (narrower _ c.mul-z.result.narrow)
    (λ r t hr ht. (c.mul-x.ensures.holds r t.x hr ht.0, c.mul-y.ensures.holds r t.y hr ht.1, c.mul-z.ensures.holds r t.z hr ht.2)) in
    subst (λ (k : Iv 36). IsBetweenDistances 19000000 38000000 k b e) (first_is a b e x y z h)
    (subst (λ (k : Iv 36). IsBetweenDistances 19000000 38000000 x k e) (second_is a b e x y z h)
    (subst (λ (k : Iv 36). IsBetweenDistances 19000000 38000000 x y k) (third_is a b e x y z h) between_distances))
