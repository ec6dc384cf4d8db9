use Rattle.whole_math.proofs.Over.{common, over_add, over_mul}
use Rattle.whole_math.proofs.rational_laws.common_denominator_laws.Goals as goal

pub returns-clause-exists : goal.returns-clause-exists
returns-clause-exists c = common

pub returns-clause-sum : goal.returns-clause-sum
returns-clause-sum c = over_add

pub returns-clause-product : goal.returns-clause-product
returns-clause-product c = over_mul
