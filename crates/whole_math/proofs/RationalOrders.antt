-- Equations and orders between rationals that follow from others: by a combination of equations, and by a certificate.
use Rattle.std.proofs.Common.{◌≡◌, ℕ, zero, suc, List, [], ◌∷◌, ℤ, pos, ◌+ℤ◌, ◌*ℤ◌, ◌≤ℤ◌, ◌<ℤ◌, arith, ap, ◌∙◌, refl}
use Rattle.whole_math.proofs.Ring.{Ex, va, ko, ◌⊕◌, ◌⊖◌, ◌⊗◌, norm}
use Rattle.whole_math.proofs.Order.{lins, mul_nn, square_nn, add_nn, diff_nn, le_from_diff, mul_le_cancel, mul_eq_cancel}
use Rattle.whole_math.proofs.Inequalities.{same_by, pos_nn}
use Rattle.whole_math.proofs.Certificates.{Hy, Ce, ◌≼◌, hy, nm, sq, ◌⊞◌, ◌⊠◌, gap_of, as_ex, cancel}
use Rattle.whole_math.specs.Rational.{Rational, ◌≈◌, ◌≤ʳ◌, ◌+ʳ◌, ◌-ʳ◌, ◌*ʳ◌}
use Rattle.whole_math.proofs.RationalIdentities.{ev_r, balanced, ring_r}

-- ---- a combination of equations
infix 5 ◌≐◌
pub data Equation : Type 0 where
  ◌≐◌ : Ex → Ex → Equation

abbrev pub AreEqual : List Rational → List Equation → Type 0
AreEqual r [] = Unit {0}
AreEqual r ((a ≐ b) ∷ es) = (ev_r r a ≈ ev_r r b) × AreEqual r es

-- Σ c (a - b), with a factor c for each equation
abbrev pub combined : List Equation → List Ex → Ex
combined [] cs = ko (pos 0)
combined ((a ≐ b) ∷ es) [] = ko (pos 0)
combined ((a ≐ b) ∷ es) (c ∷ cs) = (c ⊗ (a ⊖ b)) ⊕ combined es cs

zero_sum : (p q : Rational) → p.num ≡ pos 0 → q.num ≡ pos 0 → (p +ʳ q).num ≡ pos 0
zero_sum p q e f = ap (λ a. a *ℤ pos q.den +ℤ q.num *ℤ pos p.den) e ∙ ap (λ b. pos 0 *ℤ pos q.den +ℤ b *ℤ pos p.den) f ∙ none (pos q.den) (pos p.den)
  where
    none : (d e : ℤ) → pos 0 *ℤ d +ℤ pos 0 *ℤ e ≡ pos 0
    none d e = same_by (d ∷ e ∷ []) (λ d e. (ko (pos 0) ⊗ d ⊕ ko (pos 0) ⊗ e, ko (pos 0))) refl

zero_product : (p q : Rational) → q.num ≡ pos 0 → (p *ʳ q).num ≡ pos 0
zero_product p q f = ap (λ b. p.num *ℤ b) f ∙ same_by (p.num ∷ []) (λ a. (a ⊗ ko (pos 0), ko (pos 0))) refl

zero_difference : (p q : Rational) → p ≈ q → (p -ʳ q).num ≡ pos 0
zero_difference p q e = omega (arith, lins, e)

no_difference : (p q : Rational) → (p -ʳ q).num ≡ pos 0 → p ≈ q
no_difference p q e = omega (arith, lins, e)

combined_zero : (r : List Rational) (es : List Equation) (cs : List Ex) → AreEqual r es → (ev_r r (combined es cs)).num ≡ pos 0
combined_zero r [] cs h = refl
combined_zero r ((a ≐ b) ∷ es) [] h = refl
combined_zero r ((a ≐ b) ∷ es) (c ∷ cs) h =
    zero_sum (ev_r r c *ʳ (ev_r r a -ʳ ev_r r b)) (ev_r r (combined es cs))
    (zero_product (ev_r r c) (ev_r r a -ʳ ev_r r b) (zero_difference (ev_r r a) (ev_r r b) h.0)) (combined_zero r es cs h.1)

-- what is equal to 0 is 0
zero_along : (p q : Rational) → p ≈ q → q.num ≡ pos 0 → p.num ≡ pos 0
zero_along p q e f = mul_eq_cancel p.num (pos 0) q.den q.positive (e ∙ ap (λ a. a *ℤ pos p.den) f ∙ same_by (pos p.den ∷ pos q.den ∷ []) (λ d e. (ko (pos 0) ⊗ d, ko (pos 0) ⊗ e)) refl)

-- l = u, where l - u is a combination of the equations
pub equal_r : (r : List Rational) (es : List Equation) (cs : List Ex) (l u : Ex) → norm (balanced r (l ⊖ u) (combined es cs)) ≡ norm (balanced r (combined es cs) (l ⊖ u)) →
    AreEqual r es → ev_r r l ≈ ev_r r u
equal_r r es cs l u e h = no_difference (ev_r r l) (ev_r r u) (zero_along (ev_r r l -ʳ ev_r r u) (ev_r r (combined es cs)) (ring_r r (l ⊖ u) (combined es cs) e) (combined_zero r es cs h))

-- ---- certificates
abbrev pub AreGiven : List Rational → List Hy → Type 0
AreGiven r [] = Unit {0}
AreGiven r ((a ≼ b) ∷ hs) = (ev_r r a ≤ʳ ev_r r b) × AreGiven r hs

nn_sum : (p q : Rational) → pos 0 ≤ℤ p.num → pos 0 ≤ℤ q.num → pos 0 ≤ℤ (p +ʳ q).num
nn_sum p q h k = add_nn (p.num *ℤ pos q.den) (q.num *ℤ pos p.den) (mul_nn p.num (pos q.den) h (pos_nn q.den)) (mul_nn q.num (pos p.den) k (pos_nn p.den))

nn_difference : (p q : Rational) → p ≤ʳ q → pos 0 ≤ℤ (q -ʳ p).num
nn_difference p q h = diff_nn (p.num *ℤ pos q.den) (q.num *ℤ pos p.den) h

nn_along : (p q : Rational) → p ≈ q → pos 0 ≤ℤ q.num → pos 0 ≤ℤ p.num
nn_along p q e h = mul_le_cancel (pos 0) p.num q.den q.positive (step (p.num *ℤ pos q.den) (q.num *ℤ pos p.den) (pos 0 *ℤ pos q.den)
    (mul_nn q.num (pos p.den) h (pos_nn p.den)) e (same_by (pos q.den ∷ []) (λ d. (ko (pos 0) ⊗ d, ko (pos 0))) refl))
  where
    step : (a b c : ℤ) → pos 0 ≤ℤ b → a ≡ b → c ≡ pos 0 → c ≤ℤ a
    step a b c h e f = omega (arith, lins)

gap_nn : (r : List Rational) (hs : List Hy) (i : ℕ) → AreGiven r hs → pos 0 ≤ℤ (ev_r r (gap_of hs i)).num
gap_nn r [] i g = pos_nn 0
gap_nn r ((a ≼ b) ∷ hs) zero g = nn_difference (ev_r r a) (ev_r r b) g.0
gap_nn r ((a ≼ b) ∷ hs) (suc i) g = gap_nn r hs i g.1

certified_nn : (r : List Rational) (hs : List Hy) (d : Ce) → AreGiven r hs → pos 0 ≤ℤ (ev_r r (as_ex hs d)).num
certified_nn r hs (hy i) g = gap_nn r hs i g
certified_nn r hs (nm n) g = pos_nn n
certified_nn r hs (sq e) g = square_nn (ev_r r e).num
certified_nn r hs (a ⊞ b) g = nn_sum (ev_r r (as_ex hs a)) (ev_r r (as_ex hs b)) (certified_nn r hs a g) (certified_nn r hs b g)
certified_nn r hs (a ⊠ b) g = mul_nn (ev_r r (as_ex hs a)).num (ev_r r (as_ex hs b)).num (certified_nn r hs a g) (certified_nn r hs b g)

of_difference : (p q : Rational) → pos 0 ≤ℤ (q -ʳ p).num → p ≤ʳ q
of_difference p q h = le_from_diff (p.num *ℤ pos q.den) (q.num *ℤ pos p.den) h

-- l ≤ u, where u - l is the certificate's value and a combination of equations
pub order_r : (r : List Rational) (hs : List Hy) (es : List Equation) (l u : Ex) (d : Ce) (cs : List Ex) →
    norm (balanced r (u ⊖ l) (as_ex hs d ⊕ combined es cs)) ≡ norm (balanced r (as_ex hs d ⊕ combined es cs) (u ⊖ l)) →
    AreGiven r hs → AreEqual r es → ev_r r l ≤ʳ ev_r r u
order_r r hs es l u d cs e g h =
    of_difference (ev_r r l) (ev_r r u)
    (nn_along (ev_r r u -ʳ ev_r r l) (ev_r r (as_ex hs d) +ʳ ev_r r (combined es cs)) (ring_r r (u ⊖ l) (as_ex hs d ⊕ combined es cs) e)
    (nn_sum (ev_r r (as_ex hs d)) (ev_r r (combined es cs)) (certified_nn r hs d g) (zero_nn (ev_r r (combined es cs)).num (combined_zero r es cs h))))
  where
    zero_nn : (a : ℤ) → a ≡ pos 0 → pos 0 ≤ℤ a
    zero_nn a e = omega (arith, lins)

-- a factor above 0 cancels
pub cancel_r : (c p q : Rational) → pos 0 <ℤ c.num → c *ʳ p ≤ʳ c *ʳ q → p ≤ʳ q
cancel_r c p q h k = of_difference p q (cancel c.num (pos 0) (q -ʳ p).num h
    (step (c.num *ℤ pos 0) (c.num *ℤ (q -ʳ p).num) (same_by (c.num ∷ []) (λ c. (c ⊗ ko (pos 0), ko (pos 0))) refl) product))
  where
    product : pos 0 ≤ℤ (c.num *ℤ (q -ʳ p).num)
    product = nn_along (c *ʳ (q -ʳ p)) (c *ʳ q -ʳ c *ʳ p)
        (ring_r (c ∷ p ∷ q ∷ []) (va 0 ⊗ (va 2 ⊖ va 1)) ((va 0 ⊗ va 2) ⊖ (va 0 ⊗ va 1)) refl) (nn_difference (c *ʳ p) (c *ʳ q) k)

    step : (a b : ℤ) → a ≡ pos 0 → pos 0 ≤ℤ b → a ≤ℤ b
    step a b e h = omega (arith, lins)
