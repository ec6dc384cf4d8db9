use Rattle.whole_math.proofs.Boxes.{wider, ordered_ends}
use Rattle.whole_math.proofs.rational_laws.box_laws.Goals as goal

pub returns-clause-ends : goal.returns-clause-ends
returns-clause-ends c = λ scale lo hi q. (λ h. h, λ h. h)

pub returns-clause-wider : goal.returns-clause-wider
returns-clause-wider c = wider

pub returns-clause-ordered : goal.returns-clause-ordered
returns-clause-ordered c = ordered_ends
