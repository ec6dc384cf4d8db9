use Rattle.whole_math.proofs.RationalLaws.{add_r-comm, add_r-assoc, add_r-zero, add_r-neg, sub_r-is, mul_r-comm, mul_r-assoc, mul_r-one, mul_r-add}
use Rattle.whole_math.proofs.rational_laws.ring_laws.Goals as goal

pub returns-clause-sum_commutes : goal.returns-clause-sum_commutes
returns-clause-sum_commutes c = add_r-comm

pub returns-clause-sum_associates : goal.returns-clause-sum_associates
returns-clause-sum_associates c = add_r-assoc

pub returns-clause-zero : goal.returns-clause-zero
returns-clause-zero c = add_r-zero

pub returns-clause-negative : goal.returns-clause-negative
returns-clause-negative c = add_r-neg

pub returns-clause-difference : goal.returns-clause-difference
returns-clause-difference c = sub_r-is

pub returns-clause-product_commutes : goal.returns-clause-product_commutes
returns-clause-product_commutes c = mul_r-comm

pub returns-clause-product_associates : goal.returns-clause-product_associates
returns-clause-product_associates c = mul_r-assoc

pub returns-clause-one : goal.returns-clause-one
returns-clause-one c = mul_r-one

pub returns-clause-distributive : goal.returns-clause-distributive
returns-clause-distributive c = mul_r-add
