use Rattle.sim_jobs.proofs.NavFile.{file_is}
use Rattle.sim_jobs.proofs.navigation.navigation_law.Goals as goal

pub returns : goal.returns
returns c = file_is
