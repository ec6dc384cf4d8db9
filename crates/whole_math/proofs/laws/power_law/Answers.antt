use Rattle.whole_math.proofs.Powers.{power_split}
use Rattle.whole_math.proofs.laws.power_law.Goals as goal

pub returns : goal.returns
returns c = power_split
