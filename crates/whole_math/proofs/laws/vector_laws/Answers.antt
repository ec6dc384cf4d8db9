use Rattle.whole_math.proofs.Vectors.{dot_added, dot_scaled, dot_swap, squared_norm_nonneg, sum_shift}
use Rattle.whole_math.proofs.laws.vector_laws.Goals as goal

pub returns-clause-linear : goal.returns-clause-linear
returns-clause-linear c = dot_added

pub returns-clause-factor : goal.returns-clause-factor
returns-clause-factor c = dot_scaled

pub returns-clause-symmetric : goal.returns-clause-symmetric
returns-clause-symmetric c = dot_swap

pub returns-clause-squares : goal.returns-clause-squares
returns-clause-squares c = squared_norm_nonneg

pub returns-clause-sum : goal.returns-clause-sum
returns-clause-sum c = sum_shift
