use Rattle.job_answers.proofs.ReadingLaws.{obs_once}
use Rattle.job_answers.proofs.file_laws.one_obs_law.Goals as goal

pub returns : goal.returns
returns c = λ system text_of name text file other is a b. obs_once system text_of name text file other is a b
