use Rattle.vector_bound.proofs.Sessions.{near_for_rows}
use Rattle.vector_bound.proofs.laws.vector_law.Goals as goal

pub returns : goal.returns
returns c = near_for_rows
