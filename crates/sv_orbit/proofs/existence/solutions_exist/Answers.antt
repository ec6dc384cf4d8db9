use Rattle.sv_orbit.proofs.Solutions.{near_solution_exists, solution_exists, exact_is_near, near_is_exact}
use Rattle.sv_orbit.proofs.existence.solutions_exist.Goals as goal

pub returns : goal.returns
returns c = record { near = near_solution_exists; exact = solution_exists; exact_is_near = exact_is_near; near_is_exact = near_is_exact }
