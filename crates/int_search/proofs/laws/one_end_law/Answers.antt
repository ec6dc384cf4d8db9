use Rattle.int_search.proofs.EndLaws.{one_end}
use Rattle.int_search.proofs.laws.one_end_law.Goals as goal

pub returns : goal.returns
returns c = one_end
