use Rattle.eph_store.specs.Decimals.{value_of}
use Rattle.sv_orbit.proofs.Values.{holds_own}
use Rattle.sv_orbit.proofs.record.perigee.Goals as goal

pub returns : goal.returns
returns c = λ p k.
    let perigee = value_of c.args.eph.now.peri in
    c.rotation_of.ensures.holds perigee p (holds_own 56 c.decimal_box.result.held perigee c.decimal_box.ensures) k
