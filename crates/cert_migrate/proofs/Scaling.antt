-- Sums of squares of what is scaled.
use Rattle.std.proofs.Common.{◌≡◌, ⊎_elim, List, [], ◌∷◌, ℤ, pos, ◌+ℤ◌, ◌≤ℤ◌, ap, refl, subst}
use Rattle.whole_math.proofs.Ring.{va, ko, ng, ◌⊕◌, ◌⊖◌, ◌⊗◌}
use Rattle.whole_math.specs.Vectors.{len}
use Rattle.whole_math.specs.Rational.{Rational, ◌≈◌, ◌≤ʳ◌, ◌<ʳ◌, of_whole, ◌+ʳ◌, ◌-ʳ◌, ◌*ʳ◌}
use Rattle.whole_math.proofs.RationalLaws.{≤ʳ_along, mul_r-mono, <ʳ_not, not_≤ʳ}
use Rattle.whole_math.proofs.RationalOrders.{equal_r, ◌≐◌}
use Rattle.whole_math.specs.Spread.{Baseline, sum_of_rationals, squared_norm_of_rationals, spread_of_rationals}

-- each of the second list is k times that of the first
abbrev pub AreScaled : Rational → List Rational → List Rational → Type 0
AreScaled k [] [] = Unit {0}
AreScaled k [] (y ∷ t) = ⊥
AreScaled k (x ∷ s) [] = ⊥
AreScaled k (x ∷ s) (y ∷ t) = (y ≈ k *ʳ x) × AreScaled k s t

pub record AreScaledBaselines (k : Rational) (b c : Baseline) : Type 0 where
  pub b1 : c.b1 ≈ k *ʳ b.b1
  pub b2 : c.b2 ≈ k *ʳ b.b2
  pub b3 : c.b3 ≈ k *ʳ b.b3

len_same : (k : Rational) (s t : List Rational) → AreScaled k s t → len s ≡ len t
len_same k [] [] h = refl
len_same k [] (y ∷ t) h = absurd h
len_same k (x ∷ s) [] h = absurd h
len_same k (x ∷ s) (y ∷ t) h = ap (λ m. pos 1 +ℤ m) (len_same k s t h.1)

pub sum_scaled : (k : Rational) (s t : List Rational) → AreScaled k s t → sum_of_rationals t ≈ k *ʳ sum_of_rationals s
sum_scaled k [] [] h = equal_r (k ∷ []) [] [] (ko (pos 0)) (va 0 ⊗ ko (pos 0)) refl tt
sum_scaled k [] (y ∷ t) h = absurd h
sum_scaled k (x ∷ s) [] h = absurd h
sum_scaled k (x ∷ s) (y ∷ t) h =
    equal_r (y ∷ sum_of_rationals t ∷ k ∷ x ∷ sum_of_rationals s ∷ []) ((va 0 ≐ va 2 ⊗ va 3) ∷ (va 1 ≐ va 2 ⊗ va 4) ∷ []) (ko (pos 1) ∷ ko (pos 1) ∷ []) (va 0 ⊕ va 1) (va 2 ⊗ (va 3 ⊕ va 4)) refl
    (h.0, (sum_scaled k s t h.1, tt))

norm_scaled : (k : Rational) (s t : List Rational) → AreScaled k s t → squared_norm_of_rationals t ≈ k *ʳ k *ʳ squared_norm_of_rationals s
norm_scaled k [] [] h = equal_r (k ∷ []) [] [] (ko (pos 0)) ((va 0 ⊗ va 0) ⊗ ko (pos 0)) refl tt
norm_scaled k [] (y ∷ t) h = absurd h
norm_scaled k (x ∷ s) [] h = absurd h
norm_scaled k (x ∷ s) (y ∷ t) h =
    equal_r (y ∷ squared_norm_of_rationals t ∷ k ∷ x ∷ squared_norm_of_rationals s ∷ []) ((va 0 ≐ va 2 ⊗ va 3) ∷ (va 1 ≐ (va 2 ⊗ va 2) ⊗ va 4) ∷ []) ((va 0 ⊕ va 2 ⊗ va 3) ∷ ko (pos 1) ∷ [])
    (va 0 ⊗ va 0 ⊕ va 1) ((va 2 ⊗ va 2) ⊗ (va 3 ⊗ va 3 ⊕ va 4)) refl
    (h.0, (norm_scaled k s t h.1, tt))

spread_scaled : (k : Rational) (s t : List Rational) → AreScaled k s t → spread_of_rationals t ≈ k *ʳ k *ʳ spread_of_rationals s
spread_scaled k s t h = subst (λ (n : ℤ). of_whole n *ʳ squared_norm_of_rationals t -ʳ sum_of_rationals t *ʳ sum_of_rationals t ≈ k *ʳ k *ʳ spread_of_rationals s)
    (len_same k s t h)
    (equal_r (squared_norm_of_rationals t ∷ sum_of_rationals t ∷ k ∷ squared_norm_of_rationals s ∷ sum_of_rationals s ∷ of_whole (len s) ∷ [])
    ((va 0 ≐ (va 2 ⊗ va 2) ⊗ va 3) ∷ (va 1 ≐ va 2 ⊗ va 4) ∷ []) (va 5 ∷ ng (va 1 ⊕ va 2 ⊗ va 4) ∷ [])
    (va 5 ⊗ va 0 ⊖ va 1 ⊗ va 1) ((va 2 ⊗ va 2) ⊗ (va 5 ⊗ va 3 ⊖ va 4 ⊗ va 4)) refl
    (norm_scaled k s t h, (sum_scaled k s t h, tt)))

-- a weighted spread
pub term_scaled : (k : Rational) (w : ℤ) (s t : List Rational) → AreScaled k s t → of_whole w *ʳ spread_of_rationals t ≈ k *ʳ k *ʳ (of_whole w *ʳ spread_of_rationals s)
term_scaled k w s t h =
    equal_r (spread_of_rationals t ∷ k ∷ spread_of_rationals s ∷ of_whole w ∷ []) ((va 0 ≐ (va 1 ⊗ va 1) ⊗ va 2) ∷ []) (va 3 ∷ []) (va 3 ⊗ va 0) ((va 1 ⊗ va 1) ⊗ (va 3 ⊗ va 2)) refl
    (spread_scaled k s t h, tt)

-- y - u·b - n, with the baseline, y and n scaled
pub residual_scaled : (k : Rational) (b c : Baseline) (y u1 u2 u3 : Rational) (n m : ℤ) → AreScaledBaselines k b c → of_whole m ≈ k *ʳ of_whole n
    → k *ʳ y -ʳ (u1 *ʳ c.b1 +ʳ (u2 *ʳ c.b2 +ʳ u3 *ʳ c.b3)) -ʳ of_whole m ≈ k *ʳ
    (y -ʳ (u1 *ʳ b.b1 +ʳ (u2 *ʳ b.b2 +ʳ u3 *ʳ b.b3)) -ʳ of_whole n)
residual_scaled k b c y u1 u2 u3 n m h i =
    equal_r (y ∷ u1 ∷ u2 ∷ u3 ∷ b.b1 ∷ b.b2 ∷ b.b3 ∷ of_whole n ∷ k ∷ c.b1 ∷ c.b2 ∷ c.b3 ∷ of_whole m ∷ [])
    ((va 9 ≐ va 8 ⊗ va 4) ∷ (va 10 ≐ va 8 ⊗ va 5) ∷ (va 11 ≐ va 8 ⊗ va 6) ∷ (va 12 ≐ va 8 ⊗ va 7) ∷ [])
    (ng (va 1) ∷ ng (va 2) ∷ ng (va 3) ∷ ng (ko (pos 1)) ∷ [])
    ((va 8 ⊗ va 0 ⊖ (va 1 ⊗ va 9 ⊕ (va 2 ⊗ va 10 ⊕ va 3 ⊗ va 11))) ⊖ va 12) (va 8 ⊗ ((va 0 ⊖ (va 1 ⊗ va 4 ⊕ (va 2 ⊗ va 5 ⊕ va 3 ⊗ va 6))) ⊖ va 7)) refl
    (h.b1, (h.b2, (h.b3, (i, tt))))

-- what is less is so without a factor that isn't negative
pub less_back : (f p q p' q' : Rational) → pos 0 ≤ℤ f.num → p' ≈ f *ʳ p → q' ≈ f *ʳ q → p' <ʳ q' → p <ʳ q
less_back f p q p' q' n e i h = ⊎_elim
    (λ (w : q ≤ʳ p). absurd (<ʳ_not p' q' h (≤ʳ_along (q *ʳ f) q' (p *ʳ f) p' (same q q' i) (same p p' e) (mul_r-mono q p f n w))))
    (λ (s : p <ʳ q). s)
    (not_≤ʳ q p)
  where
    same : (x y : Rational) → y ≈ f *ʳ x → x *ʳ f ≈ y
    same x y e = equal_r (y ∷ f ∷ x ∷ []) ((va 0 ≐ va 1 ⊗ va 2) ∷ []) (ng (ko (pos 1)) ∷ []) (va 2 ⊗ va 1) (va 0) refl (e, tt)
