use Rattle.std.proofs.Common.{arith}
use Rattle.orbit_place.proofs.Reaches.{both_within}
use Rattle.orbit_place.proofs.rotations.Rotation.sine.Goals as goal

pub new-requires : goal.new-requires
new-requires g c =
    let rotation = c.args.self.now in
    let within = both_within g.row.OFF g.row.WIDTH rotation.cos rotation.sin rotation.near_circle rotation.close rotation.cos_narrow rotation.sin_narrow rotation.fine in
    (omega arith, (omega arith, (within.1, rotation.sin_narrow)))
