use Rattle.std.proofs.Common.{arith}
use Rattle.orbit_place.proofs.Spheres.{all_within}
use Rattle.orbit_place.proofs.directions.near_sphere.Goals as goal

pub new-requires : goal.new-requires
new-requires c =
    let required = c.requires in
    let within = all_within 12 30714 c.args.x c.args.y c.args.z required.near (omega arith) required.x_narrow required.y_narrow required.z_narrow (omega arith) in
    (omega arith, (omega arith, (within.0, required.x_narrow)))

pub new-requires-2 : goal.new-requires-2
new-requires-2 c =
    let required = c.requires in
    let within = all_within 12 30714 c.args.x c.args.y c.args.z required.near (omega arith) required.x_narrow required.y_narrow required.z_narrow (omega arith) in
    (omega arith, (omega arith, (within.1, required.y_narrow)))

pub new-requires-3 : goal.new-requires-3
new-requires-3 c =
    let required = c.requires in
    let within = all_within 12 30714 c.args.x c.args.y c.args.z required.near (omega arith) required.x_narrow required.y_narrow required.z_narrow (omega arith) in
    (omega arith, (omega arith, (within.2, required.z_narrow)))
