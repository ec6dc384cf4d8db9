use Rattle.std.proofs.Common.{◌≡◌, ◌+◌, ◌^◌, ◌≤◌, [], ◌∷◌, ℤ, pos, ◌-ℤ◌, ◌+ℤ◌, ◌*ℤ◌, ◌≤ℤ◌, unsigned_abs, refl, ap₂, ◌∙◌, arith}
use Rattle.std.proofs.lemmas.Int.{ints, to_z-of_z}
use Rattle.std.specs.Int.{w128}
use Rattle.whole_math.proofs.Ring.{◌⊗◌}
use Rattle.whole_math.proofs.Inequalities.{same_by}
use Rattle.whole_math.proofs.Words.{as_w64}
use Rattle.vector_bound.proofs.Words.{word, word_of}
use Rattle.vector_bound.proofs.LeastReach.{short, short_word}
use Rattle.vector_bound.proofs.reaches.margin.Goals as goal

positive : (x : ℤ) → pos 1 ≤ℤ x → pos 0 ≤ℤ x
positive x h = omega (arith, ints, h)

squared : (x : ℤ) → unsigned_abs x ≤ 2 ^ 60 → short x ≡ x
squared x h = as_w64 x (omega (arith, h))

turned : (a b c : ℤ) → c ≡ a *ℤ b → c ≡ b *ℤ a
turned a b c e = e ∙ same_by (a ∷ b ∷ []) (λ a b. (a ⊗ b, b ⊗ a)) refl

pub returns-clause-value : goal.returns-clause-value
returns-clause-value c =
    let x : ℤ = c.args.x in
    let x_word : short c.args.x ≡ c.args.x = short_word c.args.x (positive c.args.x c.requires.x_from) c.requires.x_to in
    let mu_word : word c.args.mu ≡ c.args.mu = to_z-of_z w128 c.args.mu c.ranges.mu in
    let l_word : word c.args.l ≡ c.args.l = to_z-of_z w128 c.args.l c.ranges.l in
    let k_word : word c.args.k ≡ c.args.k = to_z-of_z w128 c.args.k c.ranges.k in
    let square_is : short c.square.result ≡ c.args.x *ℤ c.args.x = squared c.square.result c.square.ensures.size ∙ c.square.ensures.value ∙ ap₂ (λ a b. a *ℤ b) x_word x_word in
    let curved : word c.wide_product-curved.result ≡ c.args.mu *ℤ (c.args.x *ℤ c.args.x) = word_of c.wide_product-curved.result (2 ^ (60 + 40)) (omega arith) c.wide_product-curved.ensures.size
    ∙ turned (c.args.x *ℤ c.args.x) c.args.mu c.wide_product-curved.result (c.wide_product-curved.ensures.value ∙ ap₂ (λ a b. a *ℤ b) square_is mu_word) in
    let steep : word c.wide_product-steep.result ≡ c.args.l *ℤ c.args.x = word_of c.wide_product-steep.result (2 ^ (30 + 90)) (omega arith) c.wide_product-steep.ensures.size
    ∙ turned c.args.x c.args.l c.wide_product-steep.result (c.wide_product-steep.ensures.value ∙ ap₂ (λ a b. a *ℤ b) x_word l_word) in
    to_z-of_z w128 c.less_both.result c.less_both.ensures.fits ∙ c.less_both.ensures.value ∙ ap₂ (λ a b. a -ℤ b) curved (ap₂ (λ a b. a +ℤ b) k_word steep)
