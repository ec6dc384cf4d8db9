use Rattle.std.proofs.Common.{◌^◌, pos}
use Rattle.whole_math.specs.Rational.{Rational, ◌*ʳ◌, times, of_whole}
use Rattle.eph_store.specs.Decimals.{decimal, value_of}
use Rattle.sv_orbit.proofs.Values.{relativity_is}
use Rattle.sv_orbit.proofs.clock_record.relativity.Goals as goal

pub returns : goal.returns
returns c =
    let relativity : Rational = decimal c.args.world.now.rel 19 in
    let ecc : Rational = value_of c.args.eph.now.ecc in
    let root_axis : Rational = value_of c.args.eph.now.root_a in
    let by_root = c.mul-by_root.ensures.holds (times (10 ^ 4) relativity) root_axis c.factor_of-factor.ensures c.root_of_axis.ensures in
    let both = c.mul-both.ensures.holds (times (10 ^ 4) relativity *ʳ root_axis) ecc by_root c.eccentricity.ensures.holds in
    c.div.ensures.holds (times (10 ^ 4) relativity *ʳ root_axis *ʳ ecc) (of_whole (pos 10000)) (relativity *ʳ ecc *ʳ root_axis) both c.ten_thousand.ensures.holds (relativity_is relativity ecc root_axis)
