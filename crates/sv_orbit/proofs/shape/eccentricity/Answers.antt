use Rattle.std.proofs.Common.{lit<, lit≤}
use Rattle.eph_store.specs.Decimals.{value_of}
use Rattle.sv_orbit.proofs.Values.{from_to_within, holds_own, low_of_nn}
use Rattle.sv_orbit.proofs.shape.eccentricity.Goals as goal

pub decimal_box-requires : goal.decimal_box-requires
decimal_box-requires c = (lit< tt, (lit≤ tt, (lit≤ tt, (from_to_within 0 3125 5 c.args.eph.now.ecc c.args.eph.now.ecc_in, (lit≤ tt, lit≤ tt)))))

pub returns-clause-holds : goal.returns-clause-holds
returns-clause-holds c = holds_own 60 c.decimal_box.result.held (value_of c.args.eph.now.ecc) c.decimal_box.ensures

pub returns-clause-low : goal.returns-clause-low
returns-clause-low c = low_of_nn 60 5 c.decimal_box.result.held (value_of c.args.eph.now.ecc) c.args.eph.now.ecc_in.low c.decimal_box.ensures
