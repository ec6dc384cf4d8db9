use Rattle.whole_math.proofs.RationalLaws.{≈_sym, ≈_trans, add_r-same, mul_r-same, ≤ʳ_along}
use Rattle.whole_math.proofs.Boxes.{InBox-along, Near-along}
use Rattle.whole_math.proofs.rational_laws.equality_laws.Goals as goal

pub returns-clause-symmetric : goal.returns-clause-symmetric
returns-clause-symmetric c = ≈_sym

pub returns-clause-transitive : goal.returns-clause-transitive
returns-clause-transitive c = ≈_trans

pub returns-clause-sum : goal.returns-clause-sum
returns-clause-sum c = add_r-same

pub returns-clause-product : goal.returns-clause-product
returns-clause-product c = mul_r-same

pub returns-clause-order : goal.returns-clause-order
returns-clause-order c = ≤ʳ_along

pub returns-clause-boxes : goal.returns-clause-boxes
returns-clause-boxes c = InBox-along

pub returns-clause-near : goal.returns-clause-near
returns-clause-near c = Near-along
