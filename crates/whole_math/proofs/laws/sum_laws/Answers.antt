use Rattle.whole_math.proofs.Sums.{sum_of-add, sum_of-scale, sum_of-append, sum_of-swap}
use Rattle.whole_math.proofs.laws.sum_laws.Goals as goal

pub returns-clause-linear : goal.returns-clause-linear
returns-clause-linear c = λ f g xs. sum_of-add f g xs

pub returns-clause-factor : goal.returns-clause-factor
returns-clause-factor c = λ k f xs. sum_of-scale k f xs

pub returns-clause-append : goal.returns-clause-append
returns-clause-append c = λ f xs ys. sum_of-append f xs ys

pub returns-clause-exchange : goal.returns-clause-exchange
returns-clause-exchange c = λ f xs ys. sum_of-swap f xs ys
