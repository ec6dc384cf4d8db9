use Rattle.whole_math.proofs.RationalLaws.{add_r-mono, mul_r-mono, square_r-nonneg, of_whole-le, of_whole-add, of_whole-mul}
use Rattle.whole_math.proofs.rational_laws.ordered_ring_laws.Goals as goal

pub returns-clause-sum : goal.returns-clause-sum
returns-clause-sum c = add_r-mono

pub returns-clause-product : goal.returns-clause-product
returns-clause-product c = mul_r-mono

pub returns-clause-square : goal.returns-clause-square
returns-clause-square c = square_r-nonneg

pub returns-clause-whole_order : goal.returns-clause-whole_order
returns-clause-whole_order c = of_whole-le

pub returns-clause-whole_sum : goal.returns-clause-whole_sum
returns-clause-whole_sum c = of_whole-add

pub returns-clause-whole_product : goal.returns-clause-whole_product
returns-clause-whole_product c = of_whole-mul
