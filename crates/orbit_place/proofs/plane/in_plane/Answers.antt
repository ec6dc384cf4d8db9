use Rattle.whole_math.specs.Rational.{◌+ʳ◌, ◌-ʳ◌, ◌*ʳ◌}
use Rattle.trig_box.specs.AnglePairs.{double}
use Rattle.orbit_model.specs.Solution.{one, harmonic, turned}
use Rattle.orbit_place.specs.Rotations.{HoldsBoth}
use Rattle.orbit_place.specs.Held.{ForSolutions}
use Rattle.orbit_place.proofs.Transports.{held_along, pair_along, radius_with}
use Rattle.orbit_place.proofs.plane.in_plane.Goals as goal

pub returns : goal.returns
returns c =
    let orbit = c.args.orbit.now in
    let argument = c.latitude_of-argument.result in
    let double_ = c.double-twice.result in
    let change = c.angle_change-change.result.held in
    let correction = c.radius_change-correction.result.held in
    let latitude = c.corrected-latitude.result in
    let radius = c.radius_of-radius.result.held in
    let phi : ForSolutions orbit (λ q. HoldsBoth argument.cos argument.sin q.latitude_pair) = λ world eph sent q h s.
    pair_along argument.cos argument.sin (turned q.true_pair q.perigee_pair) q.latitude_pair s.argument_of_latitude
    (c.latitude_of-argument.ensures.holds q.true_pair q.perigee_pair
    (c.on_ellipse-ellipse.ensures.true_anomaly eph.ecc q.root_rest q.eccentric_pair q.true_pair h.eccentricity h.anomaly s.root_of_rest
    (s.true_anomaly_cos, s.true_anomaly_sin)) (h.perigee q.perigee_pair s.perigee)) in
    let twice : ForSolutions orbit (λ q. HoldsBoth double_.cos double_.sin q.twice_pair) = λ world eph sent q h s.
    pair_along double_.cos double_.sin (double q.latitude_pair) q.twice_pair s.twice_the_argument (c.double-twice.ensures.holds q.latitude_pair (phi world eph sent q h s)) in
    record {
      radius = λ world eph sent q h s.
          held_along radius (q.axis *ʳ (one -ʳ eph.ecc *ʳ q.eccentric_pair.cos) +ʳ harmonic eph.crs eph.crc q.twice_pair) q.radius
          (radius_with q.radius (q.axis *ʳ (one -ʳ eph.ecc *ʳ q.eccentric_pair.cos)) q.radius_change
          (harmonic eph.crs eph.crc q.twice_pair) s.corrected_radius s.radius_correction)
          (c.radius_of-radius.ensures.holds q.axis (one -ʳ eph.ecc *ʳ q.eccentric_pair.cos) (harmonic eph.crs eph.crc q.twice_pair) h.axis
          (c.on_ellipse-ellipse.ensures.radius eph.ecc q.eccentric_pair h.eccentricity h.anomaly)
          (c.radius_change-correction.ensures.holds eph.crs eph.crc q.twice_pair h.crs h.crc (twice world eph sent q h s)));
      latitude = λ world eph sent q h s.
          pair_along latitude.cos latitude.sin (turned q.latitude_pair q.change_pair) q.corrected_pair s.corrected_latitude
          (c.corrected-latitude.ensures.holds q.latitude_change q.latitude_pair q.change_pair (phi world eph sent q h s)
          (held_along change (harmonic eph.cus eph.cuc q.twice_pair) q.latitude_change s.latitude_correction
          (c.angle_change-change.ensures.holds eph.cus eph.cuc q.twice_pair h.cus h.cuc (twice world eph sent q h s))) s.change_of_latitude);
      twice = twice;
    }
