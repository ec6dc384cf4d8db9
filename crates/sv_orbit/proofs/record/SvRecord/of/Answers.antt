-- Each number lies in its box; the clock's record is of this ephemeris.
use Rattle.std.proofs.Common.{◌≡◌, ◌^◌, pos, refl, sym, subst}
use Rattle.iv_core.specs.declared.Iv.{Iv}
use Rattle.iv_core.specs.Intervals.{Holds}
use Rattle.trig_box.specs.AnglePairs.{Pair}
use Rattle.orbit_model.specs.Elements.{earth_rate}
use Rattle.orbit_model.specs.Solution.{IsPairOf5}
use Rattle.orbit_place.specs.Rotations.{HoldsBoth}
use Rattle.whole_math.specs.Rational.{Rational, ◌≈◌, of_whole, ◌-ʳ◌, ◌*ʳ◌, times}
use Rattle.eph_store.specs.declared.ephemeris.Eph.{Eph}
use Rattle.eph_store.specs.Decimals.{value_of}
use Rattle.sv_orbit.proofs.Values.{holds_own}
use Rattle.sv_orbit.proofs.record.SvRecord.of.Goals as goal

pub invariant_of-result : goal.invariant_of-result
invariant_of-result c =
    let eph = c.args.eph.now in
    let same_elements : c.of-clock.result.eph ≡ eph = c.of-clock.ensures.eph in
    record {
      eccentricity_in = subst (λ (b : Iv 60). Holds b (value_of c.of-clock.result.eph.ecc)) (sym c.of.ensures) c.of-clock.result.eccentricity_in;
      axis_in = subst (λ (f : Eph). (x : Rational) → x ≈ value_of f.root_a *ʳ value_of f.root_a → Holds c.axis.result.held x) (sym same_elements) c.axis.ensures.holds;
      axis_least = c.axis.ensures.least;
      perigee_in = subst (λ (f : Eph). (p : Pair) → IsPairOf5 (value_of f.peri) p → HoldsBoth c.perigee.result.cos c.perigee.result.sin p) (sym same_elements) c.perigee.ensures;
      inclination_in = subst (λ (f : Eph). Holds c.decimal_box.result.held (value_of f.incl)) (sym same_elements) (holds_own 56 c.decimal_box.result.held (value_of eph.incl) c.decimal_box.ensures);
      node_in = subst (λ (f : Eph). Holds c.decimal_box-2.result.held (value_of f.node)) (sym same_elements) (holds_own 56 c.decimal_box-2.result.held (value_of eph.node) c.decimal_box-2.ensures);
      inclination_rate_in = subst (λ (f : Eph). Holds c.decimal_box-3.result.held (times (10 ^ 4) (value_of f.incl_rate))) (sym same_elements)
          (c.decimal_box-3.ensures.holds (times (10 ^ 4) (value_of eph.incl_rate)) refl);
      node_rate_in = subst (λ (f : Eph). Holds c.relative_rate.result.held (times (10 ^ 4) (value_of f.node_rate) -ʳ times (10 ^ 4) earth_rate)) (sym same_elements)
          (c.relative_rate.ensures (times (10 ^ 4) (value_of eph.node_rate)) (c.decimal_box-4.ensures.holds (times (10 ^ 4) (value_of eph.node_rate)) refl));
      earth_turn_in = subst (λ (f : Eph). Holds c.earth_turn.result.held (earth_rate *ʳ of_whole (pos f.toe_second))) (sym same_elements) c.earth_turn.ensures;
      cuc_in = subst (λ (f : Eph). Holds c.decimal_box-5.result.held (value_of f.cuc)) (sym same_elements) (holds_own 60 c.decimal_box-5.result.held (value_of eph.cuc) c.decimal_box-5.ensures);
      cus_in = subst (λ (f : Eph). Holds c.decimal_box-6.result.held (value_of f.cus)) (sym same_elements) (holds_own 60 c.decimal_box-6.result.held (value_of eph.cus) c.decimal_box-6.ensures);
      cic_in = subst (λ (f : Eph). Holds c.decimal_box-7.result.held (value_of f.cic)) (sym same_elements) (holds_own 60 c.decimal_box-7.result.held (value_of eph.cic) c.decimal_box-7.ensures);
      cis_in = subst (λ (f : Eph). Holds c.decimal_box-8.result.held (value_of f.cis)) (sym same_elements) (holds_own 60 c.decimal_box-8.result.held (value_of eph.cis) c.decimal_box-8.ensures);
      crc_in = subst (λ (f : Eph). Holds c.decimal_box-9.result.held (value_of f.crc)) (sym same_elements) (holds_own 40 c.decimal_box-9.result.held (value_of eph.crc) c.decimal_box-9.ensures);
      crs_in = subst (λ (f : Eph). Holds c.decimal_box-10.result.held (value_of f.crs)) (sym same_elements) (holds_own 40 c.decimal_box-10.result.held (value_of eph.crs) c.decimal_box-10.ensures);
    }
