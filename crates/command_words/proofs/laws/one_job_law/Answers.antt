use Rattle.command_words.proofs.OneJob.{one_job}
use Rattle.command_words.proofs.laws.one_job_law.Goals as goal

pub returns : goal.returns
returns c = one_job
