use Rattle.std.proofs.Common.{◌≡◌, ◌^◌, ◌≤◌, ℤ, pos, ◌*ℤ◌, ◌≤ℤ◌, slice_index_or, IfSome, unsigned_abs, to_z, of_z, sym, ap₂, ◌∙◌, subst, arith}
use Rattle.std.specs.Int.{w64}
use Rattle.whole_math.proofs.Words.{as_w64}
use Rattle.whole_math.proofs.Order.{square_nn}
use Rattle.whole_math.proofs.Inequalities.{prod_nn}
use Rattle.vector_bound.proofs.Words.{word_of}
use Rattle.vector_bound.proofs.slacks.radius_square.Goals as goal

small : (x : ℤ) → unsigned_abs x ≤ 2 ^ 46 → to_z w64 (of_z w64 x) ≡ x
small x h = as_w64 x (omega (arith, h))

pub returns-clause-value : goal.returns-clause-value
returns-clause-value c = subst (λ (x : ℤ). IfSome c.times_square.result (λ s. s ≡ x))
    (ap₂ (λ x y. x *ℤ (y *ℤ y)) (word_of c.radius_of.result (2 ^ 100) (omega arith) c.radius_of.ensures.size ∙ c.radius_of.ensures.value) (small c.args.m c.requires.size)) c.times_square.ensures.value

pub returns-clause-none : goal.returns-clause-none
returns-clause-none c =
    let same = ap₂ (λ x y. x *ℤ (y *ℤ y)) (word_of c.radius_of.result (2 ^ 100) (omega arith) c.radius_of.ensures.size ∙ c.radius_of.ensures.value) (small c.args.m c.requires.size) in
    let r_from : pos 0 ≤ℤ slice_index_or c.args.normal.now.r c.args.column (pos 0) = subst (λ (x : ℤ). pos 0 ≤ℤ x) c.radius_of.ensures.value c.radius_of.ensures.from in
    λ none to. c.times_square.ensures.none none (subst (λ (x : ℤ). pos 0 ≤ℤ x) (sym same) (prod_nn r_from (square_nn c.args.m))) (subst (λ (x : ℤ). x ≤ℤ pos (2 ^ 118)) (sym same) to)
