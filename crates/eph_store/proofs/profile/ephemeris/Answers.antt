-- The ghost fields are the ranges of the usable record.
use Rattle.std.proofs.Common.{arith}
use Rattle.eph_store.proofs.ProfileLaws.{usable_range, tick_in, second_of_week, late_enough, early_enough, near_is, toc_in_range}
use Rattle.eph_store.proofs.profile.ephemeris.Goals as goal

pub invariant_of-result : goal.invariant_of-result
invariant_of-result c =
    let is_usable = c.requires.usable in
    let near = near_is c.args.raw.now c.args.week c.args.second _ c.requires.time c.week_tick.ensures (toc_in_range c.args.raw.now is_usable) in
    record {
      second_in = c.requires.time.second_in;
      toe_in = tick_in c.args.week c.args.second _ c.week_tick.ensures c.requires.time.week_in c.requires.time.second_in;
      second_of_week = second_of_week c.args.week c.args.second _ c.week_tick.ensures c.requires.time.second_in;
      toc_late_enough = late_enough _ _ near;
      toc_early_enough = early_enough _ _ near;
      root_a_in = usable_range c.args.raw.now 3 is_usable (omega arith);
      ecc_in = usable_range c.args.raw.now 4 is_usable (omega arith);
      m0_in = usable_range c.args.raw.now 5 is_usable (omega arith);
      peri_in = usable_range c.args.raw.now 6 is_usable (omega arith);
      node_in = usable_range c.args.raw.now 7 is_usable (omega arith);
      incl_in = usable_range c.args.raw.now 8 is_usable (omega arith);
      dn_in = usable_range c.args.raw.now 9 is_usable (omega arith);
      node_rate_in = usable_range c.args.raw.now 10 is_usable (omega arith);
      incl_rate_in = usable_range c.args.raw.now 11 is_usable (omega arith);
      cuc_in = usable_range c.args.raw.now 12 is_usable (omega arith);
      cus_in = usable_range c.args.raw.now 13 is_usable (omega arith);
      cic_in = usable_range c.args.raw.now 14 is_usable (omega arith);
      cis_in = usable_range c.args.raw.now 15 is_usable (omega arith);
      crc_in = usable_range c.args.raw.now 16 is_usable (omega arith);
      crs_in = usable_range c.args.raw.now 17 is_usable (omega arith);
      af0_in = usable_range c.args.raw.now 18 is_usable (omega arith);
      af1_in = usable_range c.args.raw.now 19 is_usable (omega arith);
      af2_in = usable_range c.args.raw.now 20 is_usable (omega arith);
    }
