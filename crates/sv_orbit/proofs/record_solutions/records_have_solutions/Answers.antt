use Rattle.sv_orbit.proofs.Ranges.{near, exact}
use Rattle.sv_orbit.proofs.record_solutions.records_have_solutions.Goals as goal

pub returns : goal.returns
returns c = record { near = near; exact = exact }
