-- What a square that is at most a multiple and a constant says of its root.
use Rattle.std.proofs.Common.{◌⊎◌, inl, inr, [], ◌∷◌, ℤ, pos, ◌+ℤ◌, ◌*ℤ◌, neg_ℤ, ◌≤ℤ◌, ◌<ℤ◌, arith, refl, sym, subst}
use Rattle.std.proofs.lemmas.Int.{ints}
use Rattle.std.specs.Int.{int_max}
use Rattle.whole_math.specs.Bounds.{Within}
use Rattle.whole_math.proofs.Ring.{◌⊕◌, ◌⊖◌, ◌⊗◌, ng}
use Rattle.whole_math.proofs.Order.{lins}
use Rattle.whole_math.proofs.Absolute.{abs_square}
use Rattle.whole_math.proofs.Extremes.{max_is, max_case}
use Rattle.whole_math.proofs.Inequalities.{le_by, both_nn, prod_nn, less_nn, one_nn, later, halve, le_trans_ℤ, nat}
use Rattle.quadratic_form.specs.UpperSum.{size}
use Rattle.vector_bound.proofs.Curvatures.{AtLeastSquares}

pub product_one : (a b : ℤ) → pos 1 ≤ℤ a → pos 1 ≤ℤ b → pos 1 ≤ℤ (a *ℤ b)
product_one a b h k = le_by (a ∷ b ∷ []) (λ a b. (nat 1, a ⊗ b, (a ⊖ nat 1) ⊗ (b ⊖ nat 1) ⊕ (a ⊖ nat 1 ⊕ (b ⊖ nat 1)))) refl (both_nn (prod_nn (less_nn h) (less_nn k)) (both_nn (less_nn h) (less_nn k)))

-- mu s² ≤ e l s + e² k, where l x + k ≤ mu x²
pub root_below : (mu l k x e s : ℤ) → pos 1 ≤ℤ mu → pos 0 ≤ℤ k → pos 1 ≤ℤ x → pos 1 ≤ℤ e → (l *ℤ x +ℤ k) ≤ℤ (mu *ℤ (x *ℤ x)) → (mu *ℤ (s *ℤ s)) ≤ℤ (e *ℤ (l *ℤ s) +ℤ e *ℤ e *ℤ k) → s ≤ℤ (e *ℤ x)
root_below mu l k x e s h₀ h₁ h₂ h₃ h₄ h₅ = elim (test s (e *ℤ x)) [ inl p ↦ p | inr p ↦ absurd (never p) ]
  where
    test : (a b : ℤ) → (a ≤ℤ b) ⊎ (b <ℤ a)
    test a b = grind (arith, ints)

    contrary : pos 1 ≤ℤ pos 0 → ⊥
    contrary h = omega (arith, lins)

    never : (e *ℤ x) <ℤ s → ⊥
    never p = contrary (le_by (mu ∷ l ∷ k ∷ x ∷ e ∷ s ∷ []) (λ mu l k x e s. (
      nat 1,
      nat 0,
      x ⊗ (e ⊗ (l ⊗ s) ⊕ e ⊗ e ⊗ k ⊖ mu ⊗ (s ⊗ s)) ⊕ e ⊗ s ⊗ (mu ⊗ (x ⊗ x) ⊖ (l ⊗ x ⊕ k)) ⊕ ((s ⊖ (e ⊗ x ⊕ nat 1)) ⊗ (x ⊗ mu ⊗ s ⊕ e ⊗ k) ⊕ (x ⊗ mu ⊗ s ⊖ nat 1 ⊕ e ⊗ k)),
    )) refl (both_nn (both_nn (prod_nn (one_nn h₂) (less_nn h₅)) (prod_nn (prod_nn (one_nn h₃) (one_nn s_one)) (less_nn h₄)))
        (both_nn (prod_nn (less_nn (later p)) (both_nn (one_nn all_one) (prod_nn (one_nn h₃) h₁))) (both_nn (less_nn all_one) (prod_nn (one_nn h₃) h₁)))))
      where
        s_one : pos 1 ≤ℤ s
        s_one = le_trans_ℤ (product_one e x h₃ h₂) (weaker (e *ℤ x) s p)
          where
            weaker : (a b : ℤ) → a <ℤ b → a ≤ℤ b
            weaker a b h = omega (arith, lins)

        all_one : pos 1 ≤ℤ (x *ℤ mu *ℤ s)
        all_one = product_one (x *ℤ mu) s (product_one x mu h₂ h₀) s_one

-- ---- three numbers and the greatest size
abbrev pub greatest : ℤ → ℤ → ℤ → ℤ
greatest x y z = int_max (int_max (size x) (size y)) (size z)

in_size : (x : ℤ) → Within (size x) x
in_size x = (low x, high x)
  where
    low : (x : ℤ) → neg_ℤ (size x) ≤ℤ x
    low x = omega (arith, ints)

    high : (x : ℤ) → x ≤ℤ size x
    high x = omega (arith, ints)

pub wider : (a b x : ℤ) → a ≤ℤ b → Within a x → Within b x
wider a b x h w = (low a b x h w.0, le_trans_ℤ w.1 h)
  where
    low : (a b x : ℤ) → a ≤ℤ b → neg_ℤ a ≤ℤ x → neg_ℤ b ≤ℤ x
    low a b x h k = omega (arith, lins)

pub in_greatest : (x y z : ℤ) → Within (greatest x y z) x × (Within (greatest x y z) y × Within (greatest x y z) z)
in_greatest x y z =
    let two : ℤ = int_max (size x) (size y) in
    let first_two : (size x ≤ℤ two) × (size y ≤ℤ two) = max_is (size x) (size y) in
    let all : (two ≤ℤ int_max two (size z)) × (size z ≤ℤ int_max two (size z)) = max_is two (size z) in (
      wider (size x) (int_max two (size z)) x (le_trans_ℤ first_two.0 all.0) (in_size x),
      (wider (size y) (int_max two (size z)) y (le_trans_ℤ first_two.1 all.0) (in_size y), wider (size z) (int_max two (size z)) z all.1 (in_size z)),
    )

pub greatest_square : (mu q x y z : ℤ) → AtLeastSquares mu q x y z → (mu *ℤ (greatest x y z *ℤ greatest x y z)) ≤ℤ q
greatest_square mu q x y z h = max_case P (int_max (size x) (size y)) (size z) (max_case P (size x) (size y) (of_size x h.x_square) (of_size y h.y_square)) (of_size z h.z_square)
  where
    P : ℤ → Type 0
    P s = (mu *ℤ (s *ℤ s)) ≤ℤ q

    of_size : (x : ℤ) → (mu *ℤ (x *ℤ x)) ≤ℤ q → P (size x)
    of_size x h = subst (λ (t : ℤ). (mu *ℤ t) ≤ℤ q) (sym (abs_square x)) h

-- a product against its sizes
pub less_product : (g t b s : ℤ) → Within b g → Within s t → neg_ℤ (g *ℤ t) ≤ℤ (b *ℤ s)
less_product g t b s h k = halve (le_by (g ∷ t ∷ b ∷ s ∷ []) (λ g t b s. (nat 2 ⊗ ng (g ⊗ t), nat 2 ⊗ (b ⊗ s), (g ⊖ ng b) ⊗ (t ⊖ ng s) ⊕ (b ⊖ g) ⊗ (s ⊖ t))) refl
    (both_nn (prod_nn (less_nn h.0) (less_nn k.0)) (prod_nn (less_nn h.1) (less_nn k.1))))

pub slopes_below : (g₁ g₂ g₃ x y z s : ℤ) → Within s x → Within s y → Within s z →
    neg_ℤ (x *ℤ g₁ +ℤ (y *ℤ g₂ +ℤ z *ℤ g₃)) ≤ℤ ((size g₁ +ℤ (size g₂ +ℤ size g₃)) *ℤ s)
slopes_below g₁ g₂ g₃ x y z s h i j = step (x *ℤ g₁) (y *ℤ g₂) (z *ℤ g₃) (size g₁) (size g₂) (size g₃) s
    (swapped g₁ x s h) (swapped g₂ y s i) (swapped g₃ z s j)
  where
    swapped : (g x s : ℤ) → Within s x → neg_ℤ (x *ℤ g) ≤ℤ (size g *ℤ s)
    swapped g x s h = le_by_swap (less_product g x (size g) s (in_size g) h)
      where
        le_by_swap : neg_ℤ (g *ℤ x) ≤ℤ (size g *ℤ s) → neg_ℤ (x *ℤ g) ≤ℤ (size g *ℤ s)
        le_by_swap k = le_by (g ∷ x ∷ size g ∷ s ∷ []) (λ g x b s. (ng (x ⊗ g), b ⊗ s, b ⊗ s ⊖ ng (g ⊗ x))) refl (less_nn k)

    step : (p q r a b c s : ℤ) → neg_ℤ p ≤ℤ (a *ℤ s) → neg_ℤ q ≤ℤ (b *ℤ s) → neg_ℤ r ≤ℤ (c *ℤ s) → neg_ℤ (p +ℤ (q +ℤ r)) ≤ℤ ((a +ℤ (b +ℤ c)) *ℤ s)
    step p q r a b c s h i j = le_by (p ∷ q ∷ r ∷ a ∷ b ∷ c ∷ s ∷ []) (λ p q r a b c s. (ng (p ⊕ (q ⊕ r)), (a ⊕ (b ⊕ c)) ⊗ s, a ⊗ s ⊖ ng p ⊕ (b ⊗ s ⊖ ng q ⊕ (c ⊗ s ⊖ ng r)))) refl
        (both_nn (less_nn h) (both_nn (less_nn i) (less_nn j)))
