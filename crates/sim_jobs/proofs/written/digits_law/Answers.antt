use Rattle.sim_jobs.proofs.Fields.{whole_digits}
use Rattle.sim_jobs.proofs.written.digits_law.Goals as goal

pub returns : goal.returns
returns c = whole_digits
