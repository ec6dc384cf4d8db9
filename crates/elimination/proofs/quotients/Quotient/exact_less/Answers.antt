use Rattle.std.proofs.Common.{◌≡◌, ◌^◌, ◌≤◌, ℤ, ◌-ℤ◌, ◌*ℤ◌, unsigned_abs, arith, to_z, of_z, sym, ap₂, ◌∙◌, subst}
use Rattle.std.proofs.lemmas.Int.{to_z-of_z}
use Rattle.std.specs.Int.{w64, w128}
use Rattle.whole_math.proofs.Words.{as_w128}
use Rattle.elimination.specs.StepEntries.{nearest_quotient, IsSmallOnly}
use Rattle.elimination.proofs.RowWords.{short, wide, wide_size, wide_positive}
use Rattle.elimination.proofs.quotients.Quotient.exact_less.Goals as goal
use Rattle.elimination.proofs.quotients.Quotient.exact_less.Goals.{After-nearest-loss}

pub nearest-loss-requires : goal.nearest-loss-requires
nearest-loss-requires c = record { positive = wide_positive c.args.self.now.a c.args.self.now.a_in c.args.self.now.positive }

pub long_less-requires-clause-entry_size : goal.long_less-requires-clause-entry_size
long_less-requires-clause-entry_size c = wide_size c.args.entry c.requires.entry_size

-- the quotient, as a word
size : (c : After-nearest-loss) → unsigned_abs c.nearest-loss.result ≤ 2 ^ 104
size c =
    let product_kept : to_z w128 (of_z w128 c.product.result) ≡ c.product.result = as_w128 c.product.result (omega (arith, c.product.ensures.size)) in
    let within : unsigned_abs c.nearest-loss.result ≤ unsigned_abs c.product.result = rw product_kept at c.nearest-loss.ensures.size in
    omega (arith, within, c.product.ensures.size)

kept : (c : After-nearest-loss) → to_z w128 (of_z w128 c.nearest-loss.result) ≡ c.nearest-loss.result
kept c = as_w128 c.nearest-loss.result (omega (arith, size c))

value : (c : After-nearest-loss) → to_z w128 (of_z w128 c.nearest-loss.result) ≡ nearest_quotient c.args.self.now.p c.args.q c.args.self.now.a
value c =
    let s = c.args.self.now in
    let product : c.product.result ≡ c.args.self.now.p *ℤ c.args.q = rw (short s.p s.p_in, to_z-of_z w64 c.args.q c.ranges.q) at c.product.ensures.value in
    let product_kept : to_z w128 (of_z w128 c.product.result) ≡ c.product.result = as_w128 c.product.result (omega (arith, c.product.ensures.size)) in
    let is : c.nearest-loss.result ≡ nearest_quotient c.args.self.now.p c.args.q c.args.self.now.a = rw (product_kept, product, wide s.a s.a_in) at c.nearest-loss.ensures.value in
    kept c ∙ is

pub long_less-requires-clause-loss_size : goal.long_less-requires-clause-loss_size
long_less-requires-clause-loss_size c = subst (λ (z : ℤ). unsigned_abs z ≤ 2 ^ 104) (sym (kept c)) (size c)

pub returns : goal.returns
returns c = subst (λ (z : ℤ). IsSmallOnly z c.long_less.result) (ap₂ (λ x y. x -ℤ y) (wide c.args.entry c.requires.entry_size) (value (goal.at.returns c).After-nearest-loss))
    (record { value = c.long_less.ensures.value; small = c.long_less.ensures.small; refused = c.long_less.ensures.refused })
