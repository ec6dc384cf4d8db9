-- Bounds in size, of sums, products and quotients.
use Rattle.std.proofs.Common.{◌≡◌, List, [], ◌∷◌, ℤ, pos, ◌*ℤ◌, ◌≤ℤ◌, ◌<ℤ◌, arith, refl}
use Rattle.std.proofs.lemmas.Int.{ints, by_lt_z}
use Rattle.whole_math.proofs.Ring.{va, ko, ◌⊕◌, ◌⊖◌, ◌⊗◌, ng}
use Rattle.whole_math.proofs.Order.{lins, lt_pos, mul_le_right}
use Rattle.whole_math.proofs.Inequalities.{same_by, pos_nn}
use Rattle.whole_math.proofs.Certificates.{Hy, ◌≼◌, hy, ◌⊞◌, ◌⊠◌, mul_positive}
use Rattle.whole_math.specs.Rational.{Rational, ◌≈◌, ◌≤ʳ◌, of_whole, ◌+ʳ◌, neg_r, ◌-ʳ◌, ◌*ʳ◌, IsAtMostInSize}
use Rattle.whole_math.proofs.RationalLaws.{≤ʳ_trans}
use Rattle.whole_math.proofs.RationalOrders.{order_r, cancel_r, ◌≐◌}

-- ---- numbers from 0 on
pub from_zero : (x : Rational) → pos 0 ≤ℤ x.num → of_whole (pos 0) ≤ʳ x
from_zero x h = step x.num (pos x.den) h (same_by (pos x.den ∷ []) (λ d. (ko (pos 0) ⊗ d, ko (pos 0))) refl) (same_by (x.num ∷ []) (λ a. (a ⊗ ko (pos 1), a)) refl)
  where
    step : (a d : ℤ) → pos 0 ≤ℤ a → pos 0 *ℤ d ≡ pos 0 → a *ℤ pos 1 ≡ a → (pos 0 *ℤ d) ≤ℤ (a *ℤ pos 1)
    step a d h e f = omega (arith, lins)

-- what is at least a number above 0 is above 0
pub positive_above : (c q : Rational) → pos 0 <ℤ c.num → c ≤ʳ q → pos 0 <ℤ q.num
positive_above c q h l = by_lt_z (pos 0) q.num (λ k. k)
    (λ k. absurd (step (c.num *ℤ pos q.den) (q.num *ℤ pos c.den) (mul_positive c.num (pos q.den) h (lt_pos 0 q.den q.positive))
    (mul_le_right (pos c.den) q.num (pos 0) (pos_nn c.den) k) (same_by (pos c.den ∷ []) (λ d. (ko (pos 0) ⊗ d, ko (pos 0))) refl) l))
  where
    step : (a b : ℤ) → pos 0 <ℤ a → b ≤ℤ (pos 0 *ℤ pos c.den) → pos 0 *ℤ pos c.den ≡ pos 0 → a ≤ℤ b → ⊥
    step a b h k e l = omega (arith, lins)

-- ---- bounds
pub size_add : (a b p q : Rational) → IsAtMostInSize a p → IsAtMostInSize b q → IsAtMostInSize (a +ʳ b) (p +ʳ q)
size_add a b p q h k = (
  order_r (a ∷ b ∷ p ∷ q ∷ []) ((va 2 ≼ va 0) ∷ (va 3 ≼ va 1) ∷ []) [] (va 2 ⊕ va 3) (va 0 ⊕ va 1) (hy 0 ⊞ hy 1) [] refl (h.0, (k.0, tt)) tt,
  order_r (a ∷ b ∷ p ∷ q ∷ []) ((ng (va 2) ≼ va 0) ∷ (ng (va 3) ≼ va 1) ∷ []) [] (ng (va 2 ⊕ va 3)) (va 0 ⊕ va 1) (hy 0 ⊞ hy 1) [] refl (h.1, (k.1, tt)) tt,
)

pub size_sub : (a b p q : Rational) → IsAtMostInSize a p → IsAtMostInSize b q → IsAtMostInSize (a +ʳ b) (p -ʳ q)
size_sub a b p q h k = (
  order_r (a ∷ b ∷ p ∷ q ∷ []) ((va 2 ≼ va 0) ∷ (ng (va 3) ≼ va 1) ∷ []) [] (va 2 ⊖ va 3) (va 0 ⊕ va 1) (hy 0 ⊞ hy 1) [] refl (h.0, (k.1, tt)) tt,
  order_r (a ∷ b ∷ p ∷ q ∷ []) ((ng (va 2) ≼ va 0) ∷ (va 3 ≼ va 1) ∷ []) [] (ng (va 2 ⊖ va 3)) (va 0 ⊕ va 1) (hy 0 ⊞ hy 1) [] refl (h.1, (k.0, tt)) tt,
)

-- 2 (a b - p q) = (a - p)(b + q) + (a + p)(b - q)
pub size_mul : (a b p q : Rational) → IsAtMostInSize a p → IsAtMostInSize b q → IsAtMostInSize (a *ʳ b) (p *ʳ q)
size_mul a b p q h k =
    let values : List Rational = a ∷ b ∷ p ∷ q ∷ [] in
    let hypotheses : List Hy = (va 2 ≼ va 0) ∷ (ng (va 2) ≼ va 0) ∷ (va 3 ≼ va 1) ∷ (ng (va 3) ≼ va 1) ∷ [] in (
      cancel_r (of_whole (pos 2)) (p *ʳ q) (a *ʳ b) (omega (arith, ints))
          (order_r values hypotheses [] (ko (pos 2) ⊗ (va 2 ⊗ va 3)) (ko (pos 2) ⊗ (va 0 ⊗ va 1)) (hy 0 ⊠ hy 3 ⊞ hy 1 ⊠ hy 2) [] refl (h.0, (h.1, (k.0, (k.1, tt)))) tt),
      cancel_r (of_whole (pos 2)) (neg_r (p *ʳ q)) (a *ʳ b) (omega (arith, ints))
          (order_r values hypotheses [] (ko (pos 2) ⊗ ng (va 2 ⊗ va 3)) (ko (pos 2) ⊗ (va 0 ⊗ va 1)) (hy 0 ⊠ hy 2 ⊞ hy 1 ⊠ hy 3) [] refl (h.0, (h.1, (k.0, (k.1, tt)))) tt),
    )

pub size_along : (b p q : Rational) → p ≈ q → IsAtMostInSize b p → IsAtMostInSize b q
size_along b p q e h = (
  order_r (b ∷ p ∷ q ∷ []) ((va 1 ≼ va 0) ∷ []) ((va 1 ≐ va 2) ∷ []) (va 2) (va 0) (hy 0) (ko (pos 1) ∷ []) refl (h.0, tt) (e, tt),
  order_r (b ∷ p ∷ q ∷ []) ((ng (va 1) ≼ va 0) ∷ []) ((va 1 ≐ va 2) ∷ []) (ng (va 2)) (va 0) (hy 0) (ng (ko (pos 1)) ∷ []) refl (h.1, tt) (e, tt),
)

pub size_looser : (a b p : Rational) → a ≤ʳ b → IsAtMostInSize a p → IsAtMostInSize b p
size_looser a b p l h = (≤ʳ_trans p a b h.0 l, ≤ʳ_trans (neg_r p) a b h.1 l)

-- |p q| ≤ a and q ≥ c > 0 give |p| ≤ x, where a ≤ x c
pub size_over : (a c x p q : Rational) → pos 0 <ℤ c.num → pos 0 ≤ℤ x.num → c ≤ʳ q → a ≤ʳ x *ʳ c → IsAtMostInSize a (p *ʳ q) → IsAtMostInSize x p
size_over a c x p q c0 x0 l m h =
    let values : List Rational = a ∷ c ∷ x ∷ p ∷ q ∷ [] in
    let hypotheses : List Hy = (va 1 ≼ va 4) ∷ (va 0 ≼ va 2 ⊗ va 1) ∷ (ko (pos 0) ≼ va 2) ∷ (va 3 ⊗ va 4 ≼ va 0) ∷ (ng (va 3 ⊗ va 4) ≼ va 0) ∷ [] in
    let above : pos 0 <ℤ q.num = positive_above c q c0 l in
    let root_nonnegative : of_whole (pos 0) ≤ʳ x = from_zero x x0 in (
      cancel_r q p x above (order_r values hypotheses [] (va 4 ⊗ va 3) (va 4 ⊗ va 2) (hy 3 ⊞ hy 1 ⊞ hy 2 ⊠ hy 0) [] refl (l, (m, (root_nonnegative, (h.0, (h.1, tt))))) tt),
      cancel_r q (neg_r p) x above (order_r values hypotheses [] (va 4 ⊗ ng (va 3)) (va 4 ⊗ va 2) (hy 4 ⊞ hy 1 ⊞ hy 2 ⊠ hy 0) [] refl (l, (m, (root_nonnegative, (h.0, (h.1, tt))))) tt),
    )
