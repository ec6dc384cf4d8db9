use Rattle.row_build.proofs.Carried.{rows_carried}
use Rattle.row_build.proofs.laws.carried_law.Goals as goal

pub returns : goal.returns
returns c = rows_carried
