use Rattle.std.proofs.Common.{lit<, lit≤}
use Rattle.eph_store.specs.Decimals.{value_of}
use Rattle.sv_orbit.proofs.Values.{from_to_within, holds_own}
use Rattle.sv_orbit.proofs.shape.root_of_axis.Goals as goal

pub decimal_box-requires : goal.decimal_box-requires
decimal_box-requires c = (lit< tt, (lit≤ tt, (lit≤ tt, (from_to_within 4500 6000 0 c.args.eph.now.root_a c.args.eph.now.root_a_in, (lit≤ tt, lit≤ tt)))))

pub returns : goal.returns
returns c = holds_own 48 c.decimal_box.result.held (value_of c.args.eph.now.root_a) c.decimal_box.ensures
