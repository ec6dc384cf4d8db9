use Rattle.std.proofs.Common.{w64, to_z, of_z}
use Rattle.std.proofs.lemmas.Int.{to_z-of_z}
use Rattle.sv_orbit.specs.Records.{constants_of}
use Rattle.sim_session.proofs.Smalls.{clock_cast}
use Rattle.sim_session.proofs.Solutions.{code_is}
use Rattle.sim_session.proofs.passes.code_after.Goals as goal

pub returns-clause-near : goal.returns-clause-near
returns-clause-near c =
    let receiver = c.args.receiver.now in
    code_is (constants_of c.args.world.now) c.args.eph.now c.args.tag.0 (to_z w64 (of_z w64 c.args.code)) c.args.code receiver.point
    c.distance_at-distance.result.units (to_z w64 (of_z w64 receiver.clock)) receiver.clock c.code_of.result (to_z w64 (of_z w64 c.code_of.result))
    (to_z-of_z w64 c.args.code c.ranges.code) (clock_cast receiver.clock receiver.clock_in) (to_z-of_z w64 c.code_of.result (record { sfits = c.code_of.type_inv }))
    c.distance_at-distance.ensures c.code_of.ensures.near
