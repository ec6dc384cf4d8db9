use Rattle.whole_math.proofs.RationalLaws.{≤ʳ_trans, not_≤ʳ, ≤ʳ_antisym, <ʳ_not}
use Rattle.whole_math.proofs.rational_laws.order_laws.Goals as goal

pub returns-clause-transitive : goal.returns-clause-transitive
returns-clause-transitive c = ≤ʳ_trans

pub returns-clause-total : goal.returns-clause-total
returns-clause-total c = not_≤ʳ

pub returns-clause-antisymmetric : goal.returns-clause-antisymmetric
returns-clause-antisymmetric c = ≤ʳ_antisym

pub returns-clause-strict : goal.returns-clause-strict
returns-clause-strict c = <ʳ_not
