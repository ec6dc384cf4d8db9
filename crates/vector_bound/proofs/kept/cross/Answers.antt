use Rattle.std.proofs.Common.{◌^◌, unsigned_abs, ◌≤◌, ℤ, ◌-ℤ◌, ◌*ℤ◌, ap, ◌∙◌, sym, subst, arith}
use Rattle.std.specs.Int.{w128}
use Rattle.std.proofs.Common.{FitsSigned}
use Rattle.vector_bound.proofs.Words.{word, word_of, fits, cross_word, cross_size}
use Rattle.vector_bound.proofs.kept.cross.Goals as goal

wider : (x : ℤ) → unsigned_abs x ≤ 2 ^ 81 → unsigned_abs x ≤ 2 ^ 126
wider x h = omega (arith, h)

pub overflow_sub-result : goal.overflow_sub-result
overflow_sub-result c = subst (λ (x : ℤ). FitsSigned w128 x) (sym (cross_word c.args.p c.args.q c.args.r c.args.s c.requires.p c.requires.q c.requires.r c.requires.s))
    (fits (c.args.p *ℤ c.args.q -ℤ c.args.r *ℤ c.args.s) (wider (c.args.p *ℤ c.args.q -ℤ c.args.r *ℤ c.args.s) (cross_size c.args.p c.args.q c.args.r c.args.s c.requires.p c.requires.q c.requires.r c.requires.s)))

pub returns-clause-value : goal.returns-clause-value
returns-clause-value c = ap (λ x. word x) (cross_word c.args.p c.args.q c.args.r c.args.s c.requires.p c.requires.q c.requires.r c.requires.s)
    ∙ word_of (c.args.p *ℤ c.args.q -ℤ c.args.r *ℤ c.args.s) (2 ^ 81) (omega arith) (cross_size c.args.p c.args.q c.args.r c.args.s c.requires.p c.requires.q c.requires.r c.requires.s)

pub returns-clause-size : goal.returns-clause-size
returns-clause-size c = subst (λ (x : ℤ). unsigned_abs x ≤ 2 ^ 81) (sym (returns-clause-value c)) (cross_size c.args.p c.args.q c.args.r c.args.s c.requires.p c.requires.q c.requires.r c.requires.s)
