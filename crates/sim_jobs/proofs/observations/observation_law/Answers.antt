use Rattle.sim_jobs.proofs.ObsFile.{file_is}
use Rattle.sim_jobs.proofs.observations.observation_law.Goals as goal

pub returns : goal.returns
returns c = file_is
