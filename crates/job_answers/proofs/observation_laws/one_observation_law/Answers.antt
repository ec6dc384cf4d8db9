use Rattle.std.proofs.Common.{sym, ◌∙◌}
use Rattle.job_answers.proofs.FormatLaws.{file_given}
use Rattle.job_answers.proofs.observation_laws.one_observation_law.Goals as goal

pub returns : goal.returns
returns c = λ system lines file other is same. let both = sym (file_given system lines file is) ∙ file_given system lines other same in cc (both)
