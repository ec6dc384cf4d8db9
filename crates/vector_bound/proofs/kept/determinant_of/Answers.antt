use Rattle.std.proofs.Common.{◌≡◌, ◌+◌, ◌^◌, unsigned_abs, ◌≤◌, ℤ, ◌+ℤ◌, ◌-ℤ◌, ◌*ℤ◌, FitsSigned, ap₂, ◌∙◌, sym, subst, arith}
use Rattle.std.specs.Int.{w128}
use Rattle.vector_bound.proofs.Words.{word, word_of, fits, cross_of, times_of, three_fit, difference_size, sum_size}
use Rattle.vector_bound.proofs.kept.determinant_of.Goals as goal

large : (x : ℤ) → unsigned_abs x ≤ 2 ^ 121 → word x ≡ x
large x h = word_of x (2 ^ 121) (omega arith) h

two_fit : (x y : ℤ) → unsigned_abs x ≤ 2 ^ 121 → unsigned_abs y ≤ 2 ^ 121 → FitsSigned w128 (word x -ℤ word y)
two_fit x y h i = subst (λ (z : ℤ). FitsSigned w128 z) (sym (ap₂ (λ a b. a -ℤ b) (large x h) (large y i))) (fits (x -ℤ y) (within (x -ℤ y) (difference_size x y (2 ^ 121) (2 ^ 121) h i)))
  where
    within : (x : ℤ) → unsigned_abs x ≤ 2 ^ 121 + 2 ^ 121 → unsigned_abs x ≤ 2 ^ 126
    within x h = omega (arith, h)

sum_fit : (x y z : ℤ) → unsigned_abs x ≤ 2 ^ 121 → unsigned_abs y ≤ 2 ^ 121 → unsigned_abs z ≤ 2 ^ 121 → FitsSigned w128 (word (word x -ℤ word y) +ℤ word z)
sum_fit x y z h i j = subst (λ (t : ℤ). FitsSigned w128 t) (sym (ap₂ (λ a b. a +ℤ b) (ap₂ (λ a b. word (a -ℤ b)) (large x h) (large y i) ∙ word_of (x -ℤ y) (2 ^ 121 + 2 ^ 121) (omega arith) (difference_size x y (2 ^ 121) (2 ^ 121) h i)) (large z j)))
    (fits (x -ℤ y +ℤ z) (within (x -ℤ y +ℤ z) (sum_size (x -ℤ y) z (2 ^ 121 + 2 ^ 121) (2 ^ 121) (difference_size x y (2 ^ 121) (2 ^ 121) h i) j)))
  where
    within : (x : ℤ) → unsigned_abs x ≤ 2 ^ 121 + 2 ^ 121 + 2 ^ 121 → unsigned_abs x ≤ 2 ^ 126
    within x h = omega (arith, h)

pub overflow_sub-result : goal.overflow_sub-result
overflow_sub-result c = two_fit c.product_of-first.result c.product_of-second.result c.product_of-first.ensures.size c.product_of-second.ensures.size

pub overflow_add-result : goal.overflow_add-result
overflow_add-result c = sum_fit c.product_of-first.result c.product_of-second.result c.product_of-third.result c.product_of-first.ensures.size c.product_of-second.ensures.size c.product_of-third.ensures.size

pub returns-clause-value : goal.returns-clause-value
returns-clause-value c =
    let r = c.requires in
    let a : ℤ = c.args.a in
    let b : ℤ = c.args.b in
    let k : ℤ = c.args.c in
    let f : ℤ = c.args.f in
    let g : ℤ = c.args.g in
    let h : ℤ = c.args.h in
    let one : c.product_of-first.result ≡ a *ℤ (b *ℤ k -ℤ h *ℤ h) =
    times_of c.product_of-first.result a c.cross.result (b *ℤ k -ℤ h *ℤ h) r.a c.cross.ensures.size (cross_of c.cross.result b k h h r.b r.c r.h r.h c.cross.ensures.value) c.product_of-first.ensures.value in
    let two : c.product_of-second.result ≡ f *ℤ (f *ℤ k -ℤ h *ℤ g) =
    times_of c.product_of-second.result f c.cross-2.result (f *ℤ k -ℤ h *ℤ g) r.f c.cross-2.ensures.size (cross_of c.cross-2.result f k h g r.f r.c r.h r.g c.cross-2.ensures.value) c.product_of-second.ensures.value in
    let three : c.product_of-third.result ≡ g *ℤ (f *ℤ h -ℤ b *ℤ g) =
    times_of c.product_of-third.result g c.cross-3.result (f *ℤ h -ℤ b *ℤ g) r.g c.cross-3.ensures.size (cross_of c.cross-3.result f h b g r.f r.h r.b r.g c.cross-3.ensures.value) c.product_of-third.ensures.value in
    three_fit c.product_of-first.result c.product_of-second.result c.product_of-third.result c.product_of-first.ensures.size c.product_of-second.ensures.size c.product_of-third.ensures.size
    ∙ ap₂ (λ x y. x +ℤ y) (ap₂ (λ x y. x -ℤ y) one two) three

pub returns-clause-size : goal.returns-clause-size
returns-clause-size c = subst (λ (x : ℤ). unsigned_abs x ≤ 2 ^ 123) (sym (three_fit x y z c.product_of-first.ensures.size c.product_of-second.ensures.size c.product_of-third.ensures.size))
    (within (x -ℤ y +ℤ z) (sum_size (x -ℤ y) z (2 ^ 121 + 2 ^ 121) (2 ^ 121) (difference_size x y (2 ^ 121) (2 ^ 121) c.product_of-first.ensures.size c.product_of-second.ensures.size) c.product_of-third.ensures.size))
  where
    x : ℤ
    x = c.product_of-first.result

    y : ℤ
    y = c.product_of-second.result

    z : ℤ
    z = c.product_of-third.result

    within : (x : ℤ) → unsigned_abs x ≤ 2 ^ 121 + 2 ^ 121 + 2 ^ 121 → unsigned_abs x ≤ 2 ^ 123
    within x h = omega (arith, h)
