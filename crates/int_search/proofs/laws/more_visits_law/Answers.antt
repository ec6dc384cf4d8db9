use Rattle.int_search.proofs.EndLaws.{answers_more}
use Rattle.int_search.proofs.laws.more_visits_law.Goals as goal

pub returns : goal.returns
returns c = answers_more
