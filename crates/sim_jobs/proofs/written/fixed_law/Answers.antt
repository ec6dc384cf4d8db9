use Rattle.sim_jobs.proofs.Fixed.{fixed_read}
use Rattle.sim_jobs.proofs.written.fixed_law.Goals as goal

pub returns : goal.returns
returns c = fixed_read
