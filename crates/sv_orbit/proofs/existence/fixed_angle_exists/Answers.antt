use Rattle.sv_orbit.proofs.Fixed.{fixed_angle}
use Rattle.sv_orbit.proofs.existence.fixed_angle_exists.Goals as goal

pub returns : goal.returns
returns c = fixed_angle
