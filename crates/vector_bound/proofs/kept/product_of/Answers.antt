use Rattle.std.proofs.Common.{◌^◌, unsigned_abs, ◌≤◌, ℤ, sym, subst, arith}
use Rattle.whole_math.proofs.Order.{abs_mul_le}
use Rattle.vector_bound.proofs.Words.{product_word}
use Rattle.vector_bound.proofs.kept.product_of.Goals as goal

pub returns-clause-value : goal.returns-clause-value
returns-clause-value c = product_word c.args.a c.args.m (2 ^ 40) (2 ^ 81) (omega arith) (omega arith) (omega arith) c.requires.a c.requires.m

pub returns-clause-size : goal.returns-clause-size
returns-clause-size c = subst (λ (x : ℤ). unsigned_abs x ≤ 2 ^ 121) (sym (returns-clause-value c)) (abs_mul_le c.args.a c.args.m (2 ^ 40) (2 ^ 81) c.requires.a c.requires.m)
