use Rattle.sim_jobs.proofs.Printed.{line_first}
use Rattle.sim_jobs.proofs.written.line_law.Goals as goal

pub returns : goal.returns
returns c = line_first
