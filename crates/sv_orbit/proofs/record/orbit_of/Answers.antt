-- Each number and each quantity lies in its box.
use Rattle.std.proofs.Common.{sym, subst, arith}
use Rattle.std.proofs.lemmas.Int.{ints}
use Rattle.iv_core.specs.declared.Iv.{Iv}
use Rattle.iv_core.specs.Intervals.{Holds}
use Rattle.sv_orbit.specs.ClockTerms.{per_ten_thousand}
use Rattle.eph_store.specs.Decimals.{value_of}
use Rattle.sv_orbit.proofs.record.orbit_of.Goals as goal

pub eccentric_pair-requires-clause-mean_narrow : goal.eccentric_pair-requires-clause-mean_narrow
eccentric_pair-requires-clause-mean_narrow c = let narrow = c.args.timing.now.mean.narrow in omega (arith, ints, narrow)

pub eccentric_pair-requires-clause-eccentricity_narrow : goal.eccentric_pair-requires-clause-eccentricity_narrow
eccentric_pair-requires-clause-eccentricity_narrow c = let narrow = c.args.made.now.clock.eccentricity.narrow in omega (arith, ints, narrow)

pub returns : goal.returns
returns c = λ sent world q n t.
    let made = c.args.made.now in
    let solves = n.solves in
    record {
      eccentricity = made.eccentricity_in;
      anomaly = c.eccentric_pair.ensures.holds q.mean (value_of made.clock.eph.ecc) q.eccentric q.eccentric_pair t.mean made.clock.eccentricity_in solves.kepler;
      axis = made.axis_in q.axis solves.semi_major_axis;
      epoch_time = subst (λ (b : Iv 60). Holds b (per_ten_thousand q.tk)) (sym c.loose.ensures) t.epoch_time;
      perigee = made.perigee_in;
      inclination = made.inclination_in;
      node = made.node_in;
      inclination_rate = made.inclination_rate_in;
      node_rate = made.node_rate_in;
      cuc = made.cuc_in;
      cus = made.cus_in;
      cic = made.cic_in;
      cis = made.cis_in;
      crc = made.crc_in;
      crs = made.crs_in;
      earth_turn = made.earth_turn_in;
    }
