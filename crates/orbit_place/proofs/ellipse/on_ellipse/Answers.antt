use Rattle.std.proofs.Common.{arith}
use Rattle.orbit_place.proofs.Ellipses.{has_true_pair, quotients_held}
use Rattle.orbit_place.proofs.Turns.{both_along}
use Rattle.orbit_place.proofs.ellipse.on_ellipse.Goals as goal

pub new-true_anomaly-requires : goal.new-true_anomaly-requires
new-true_anomaly-requires c =
    let eccentricity = c.args.shape.now.eccentricity in
    let anomaly = c.args.anomaly.now in
    let cos = c.div-cos.result.held in
    let sin = c.div-sin.result.held in (
      omega arith,
      (
        has_true_pair eccentricity.held anomaly.cos anomaly.sin c.args.shape.now.root.held c.radius_of-radius.result.held cos sin (record {
          small = eccentricity.within;
          radius_holds = c.radius_of-radius.ensures.holds;
          radius_least = c.radius_of-radius.ensures.least;
          root_near = c.args.shape.now.root_near;
          quotients = quotients_held eccentricity.held anomaly.cos anomaly.sin c.cosine.result.held c.sine.result.held c.args.shape.now.root.held
              c.radius_of-radius.result.held c.sub-shifted.result.held c.mul-shortened.result.held cos sin
              c.cosine.ensures c.sine.ensures c.radius_of-radius.ensures.holds c.sub-shifted.ensures.holds c.mul-shortened.ensures.holds c.div-cos.ensures.holds c.div-sin.ensures.holds;
        }) anomaly.near_circle,
        (c.div-cos.result.narrow, (c.div-sin.result.narrow, (omega arith, omega arith))),
      ),
    )

pub returns-clause-true_anomaly : goal.returns-clause-true_anomaly
returns-clause-true_anomaly c = λ e w p v h k r i.
    let ecc = c.args.shape.now.eccentricity in
    let anomaly = c.args.anomaly.now in
    let cos = c.div-cos.result.held in
    let sin = c.div-sin.result.held in
    both_along c.new-true_anomaly.result.cos c.new-true_anomaly.result.sin cos sin v c.new-true_anomaly.ensures.cos c.new-true_anomaly.ensures.sin
    (quotients_held ecc.held anomaly.cos anomaly.sin c.cosine.result.held c.sine.result.held c.args.shape.now.root.held c.radius_of-radius.result.held
    c.sub-shifted.result.held c.mul-shortened.result.held cos sin
    c.cosine.ensures c.sine.ensures c.radius_of-radius.ensures.holds c.sub-shifted.ensures.holds c.mul-shortened.ensures.holds c.div-cos.ensures.holds c.div-sin.ensures.holds
    e w p v h k (c.args.shape.now.root_in e w h r) i)
