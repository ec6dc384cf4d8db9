use Rattle.orbit_place.proofs.Turns.{both_along}
use Rattle.orbit_place.specs.Directions.{direction}
use Rattle.orbit_place.proofs.Spheres.{has_direction}
use Rattle.orbit_place.proofs.Turned.{direction_held, point_along}
use Rattle.orbit_place.proofs.directions.direction_of.Goals as goal

pub near_sphere-requires-clause-near : goal.near_sphere-requires-clause-near
near_sphere-requires-clause-near c =
    let latitude = c.args.latitude.now in
    let inclination = c.args.inclination.now in
    let node = c.args.node.now in
    has_direction latitude.cos latitude.sin inclination.cos inclination.sin node.cos node.sin c.sub-x.result.held c.add-y.result.held c.mul-z.result.held
    (λ u i n hu hi hn. direction_held c.cosine-ahead.result.held c.sine-aside.result.held c.cosine-level.result.held c.sine-steep.result.held c.cosine-cos.result.held c.sine-sin.result.held
    c.mul-across.result.held c.mul-first.result.held c.mul-second.result.held c.mul-third.result.held c.mul-fourth.result.held c.sub-x.result.held c.add-y.result.held c.mul-z.result.held
    c.mul-across.ensures.holds c.mul-first.ensures.holds c.mul-second.ensures.holds c.mul-third.ensures.holds c.mul-fourth.ensures.holds
    c.sub-x.ensures.holds c.add-y.ensures.holds c.mul-z.ensures.holds u i n
    (both_along c.cosine-ahead.result.held c.sine-aside.result.held latitude.cos latitude.sin u c.cosine-ahead.ensures c.sine-aside.ensures hu)
    (both_along c.cosine-level.result.held c.sine-steep.result.held inclination.cos inclination.sin i c.cosine-level.ensures c.sine-steep.ensures hi)
    (both_along c.cosine-cos.result.held c.sine-sin.result.held node.cos node.sin n c.cosine-cos.ensures c.sine-sin.ensures hn))
    latitude.near_circle inclination.near_circle node.near_circle

pub returns : goal.returns
returns c = record {
  holds = λ u i n hu hi hn.
      let latitude = c.args.latitude.now in
      let inclination = c.args.inclination.now in
      let node = c.args.node.now in
      let point = c.near_sphere.result in
      point_along point.x.held point.y.held point.z.held c.sub-x.result.held c.add-y.result.held c.mul-z.result.held (direction u i n) c.near_sphere.ensures.x c.near_sphere.ensures.y c.near_sphere.ensures.z
      (direction_held c.cosine-ahead.result.held c.sine-aside.result.held c.cosine-level.result.held c.sine-steep.result.held c.cosine-cos.result.held c.sine-sin.result.held
      c.mul-across.result.held c.mul-first.result.held c.mul-second.result.held c.mul-third.result.held c.mul-fourth.result.held c.sub-x.result.held c.add-y.result.held c.mul-z.result.held
      c.mul-across.ensures.holds c.mul-first.ensures.holds c.mul-second.ensures.holds c.mul-third.ensures.holds c.mul-fourth.ensures.holds
      c.sub-x.ensures.holds c.add-y.ensures.holds c.mul-z.ensures.holds u i n
      (both_along c.cosine-ahead.result.held c.sine-aside.result.held latitude.cos latitude.sin u c.cosine-ahead.ensures c.sine-aside.ensures hu)
      (both_along c.cosine-level.result.held c.sine-steep.result.held inclination.cos inclination.sin i c.cosine-level.ensures c.sine-steep.ensures hi)
      (both_along c.cosine-cos.result.held c.sine-sin.result.held node.cos node.sin n c.cosine-cos.ensures c.sine-sin.ensures hn));
}
