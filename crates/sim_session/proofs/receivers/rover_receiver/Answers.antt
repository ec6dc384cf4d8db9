use Rattle.std.proofs.Common.{pos, ◌+ℤ◌, ◌*ℤ◌}
use Rattle.sim_session.proofs.Points.{earth_along, first_is, further_is, rover_point}
use Rattle.sim_session.proofs.Steps.{same_three}
use Rattle.sim_session.proofs.receivers.rover_receiver.Goals as goal

pub invariant_of-result-clause-on_earth : goal.invariant_of-result-clause-on_earth
invariant_of-result-clause-on_earth c =
    let args = c.args in
    let place_allowed = c.requires in
    earth_along _ _ _ (pos 63781370000 +ℤ (pos 10 *ℤ args.x)) (pos 10 *ℤ args.y) (pos 10 *ℤ args.z) (first_is args.x place_allowed.x) (further_is args.y place_allowed.y) (further_is args.z place_allowed.z) (rover_point args.x args.y args.z place_allowed.x place_allowed.y place_allowed.z)

pub returns-clause-point : goal.returns-clause-point
returns-clause-point c =
    let args = c.args in
    let place_allowed = c.requires in
    same_three _ _ _ (pos 63781370000 +ℤ (pos 10 *ℤ args.x)) (pos 10 *ℤ args.y) (pos 10 *ℤ args.z) (first_is args.x place_allowed.x) (further_is args.y place_allowed.y) (further_is args.z place_allowed.z)
