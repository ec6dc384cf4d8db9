use Rattle.sv_orbit.proofs.Directions.{mean_direction}
use Rattle.sv_orbit.proofs.existence.mean_direction_exists.Goals as goal

pub returns : goal.returns
returns c = mean_direction
