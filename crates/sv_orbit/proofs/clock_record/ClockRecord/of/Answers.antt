-- Each number lies in its box.
use Rattle.std.proofs.Common.{◌^◌, refl}
use Rattle.whole_math.specs.Rational.{times}
use Rattle.eph_store.specs.Decimals.{value_of}
use Rattle.sv_orbit.proofs.Values.{holds_own}
use Rattle.sv_orbit.proofs.clock_record.ClockRecord.of.Goals as goal

pub invariant_of-result : goal.invariant_of-result
invariant_of-result c =
    let eph = c.args.eph.now in
    record {
      bias_in = c.bias_of.ensures;
      drift_in = c.decimal_box.ensures.holds (times (10 ^ 4) (value_of eph.af1)) refl;
      aging_in = c.decimal_box-2.ensures.holds (times (10 ^ 8) (value_of eph.af2)) refl;
      eccentricity_in = c.eccentricity.ensures.holds;
      eccentricity_low = c.eccentricity.ensures.low;
      start_in = holds_own 56 c.decimal_box-3.result.held (value_of eph.m0) c.decimal_box-3.ensures;
      motion_in = c.mean_motion.ensures;
      relativity_in = c.relativity.ensures;
    }
