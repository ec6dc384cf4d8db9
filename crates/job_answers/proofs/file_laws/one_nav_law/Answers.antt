use Rattle.job_answers.proofs.ReadingLaws.{nav_once}
use Rattle.job_answers.proofs.file_laws.one_nav_law.Goals as goal

pub returns : goal.returns
returns c = λ system text_of name text records others is a b. nav_once system text_of name text records others is a b
