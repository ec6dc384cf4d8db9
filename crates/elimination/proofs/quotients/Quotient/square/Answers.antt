use Rattle.std.proofs.Common.{◌≡◌, ◌^◌, ◌≤◌, ℤ, ◌*ℤ◌, unsigned_abs, arith, to_z, of_z, sym, ◌∙◌, subst}
use Rattle.std.specs.Int.{w128}
use Rattle.whole_math.proofs.Words.{as_w128}
use Rattle.elimination.specs.StepEntries.{square_over}
use Rattle.elimination.proofs.RowWords.{short, widened_is, wide, wide_positive}
use Rattle.elimination.proofs.quotients.Quotient.square.Goals as goal
use Rattle.elimination.proofs.quotients.Quotient.square.Goals.{After-ceil}

pub returns-in-Some-clause-value : goal.returns-in-Some-clause-value
returns-in-Some-clause-value c = widened_is c.in-Some.square c.in-Some.ensures.size ∙ c.in-Some.ensures.value

pub returns-in-Some-clause-size : goal.returns-in-Some-clause-size
returns-in-Some-clause-size c = rw (widened_is c.in-Some.square c.in-Some.ensures.size) (omega (arith, c.in-Some.ensures.size))

pub ceil-requires : goal.ceil-requires
ceil-requires c = record { positive = wide_positive c.args.self.now.a c.args.self.now.a_in c.args.self.now.positive }

-- the quotient upward, as a word
size : (c : After-ceil) → unsigned_abs c.ceil.result ≤ 2 ^ 104
size c =
    let product_kept : to_z w128 (of_z w128 c.product.result) ≡ c.product.result = as_w128 c.product.result (omega (arith, c.product.ensures.size)) in
    let within : unsigned_abs c.ceil.result ≤ unsigned_abs c.product.result = rw product_kept at c.ceil.ensures.size in
    omega (arith, within, c.product.ensures.size)

kept : (c : After-ceil) → to_z w128 (of_z w128 c.ceil.result) ≡ c.ceil.result
kept c = as_w128 c.ceil.result (omega (arith, size c))

pub returns-in-None-clause-value : goal.returns-in-None-clause-value
returns-in-None-clause-value c =
    let s = c.args.self.now in
    let product : c.product.result ≡ c.args.self.now.p *ℤ c.args.self.now.p = rw (short s.p s.p_in) at c.product.ensures.value in
    let product_kept : to_z w128 (of_z w128 c.product.result) ≡ c.product.result = as_w128 c.product.result (omega (arith, c.product.ensures.size)) in
    let is : c.ceil.result ≡ square_over c.args.self.now.p c.args.self.now.a = rw (product_kept, product, wide s.a s.a_in) at c.ceil.ensures.value in
    kept (goal.at.returns-in-None-clause-value c).After-ceil ∙ is

pub returns-in-None-clause-size : goal.returns-in-None-clause-size
returns-in-None-clause-size c =
    let d = (goal.at.returns-in-None-clause-size c).After-ceil in
    subst (λ (z : ℤ). unsigned_abs z ≤ 2 ^ 104) (sym (kept d)) (size d)
