-- Boxes around a bound in size, boxes that are made wider, and how far the ends of a narrow box are from what it holds.
use Rattle.std.proofs.Common.{◌≡◌, ℕ, ◌^◌, List, [], ◌∷◌, ℤ, pos, ◌+ℤ◌, ◌-ℤ◌, ◌*ℤ◌, neg_ℤ, ◌≤ℤ◌, arith, refl}
use Rattle.whole_math.proofs.IntLaws.{neg_mul_ℤ}
use Rattle.whole_math.proofs.Ring.{va, ◌⊕◌, ◌⊖◌, ◌⊗◌}
use Rattle.whole_math.proofs.Order.{lins, mul_le_cancel}
use Rattle.whole_math.proofs.Inequalities.{same_by, le_trans_ℤ}
use Rattle.whole_math.proofs.Certificates.{◌≼◌, hy, ◌⊞◌}
use Rattle.whole_math.specs.Rational.{Rational, ◌≤ʳ◌, ◌+ʳ◌, ◌-ʳ◌, IsAtMostInSize, InBox}
use Rattle.whole_math.specs.Boxes.{of_scale, IsNearBox}
use Rattle.whole_math.proofs.Boxes.{wider}
use Rattle.whole_math.proofs.RationalLaws.{≤ʳ_trans, ≤ʳ_from_same}
use Rattle.whole_math.proofs.RationalOrders.{order_r}

-- ---- bounds in size
pub size_of_box : (k m : ℕ) (lo hi : ℤ) (q : Rational) → neg_ℤ (pos m) ≤ℤ lo → hi ≤ℤ pos m → InBox k lo hi q → IsAtMostInSize (of_scale k (pos m)) q
size_of_box k m lo hi q l h i =
    let in_wider_box = wider k lo hi (neg_ℤ (pos m)) (pos m) q l h i in
    (in_wider_box.1, turned (q.num *ℤ pos (2 ^ k)) (neg_ℤ q.num *ℤ pos (2 ^ k)) (pos m *ℤ pos q.den) (neg_ℤ (pos m) *ℤ pos q.den) (neg_mul_ℤ q.num (pos (2 ^ k))) (neg_mul_ℤ (pos m) (pos q.den)) in_wider_box.0)
  where
    turned : (a b c d : ℤ) → b ≡ neg_ℤ a → d ≡ neg_ℤ c → d ≤ℤ a → b ≤ℤ c
    turned a b c d e f h = omega (arith, lins)

pub box_of_size : (k m : ℕ) (q : Rational) → IsAtMostInSize (of_scale k (pos m)) q → InBox k (neg_ℤ (pos m)) (pos m) q
box_of_size k m q h = (
  turned (q.num *ℤ pos (2 ^ k)) (neg_ℤ q.num *ℤ pos (2 ^ k)) (pos m *ℤ pos q.den) (neg_ℤ (pos m) *ℤ pos q.den)
      (neg_mul_ℤ q.num (pos (2 ^ k))) (neg_mul_ℤ (pos m) (pos q.den)) h.1,
  h.0,
)
  where
    turned : (a b c d : ℤ) → b ≡ neg_ℤ a → d ≡ neg_ℤ c → b ≤ℤ c → d ≤ℤ a
    turned a b c d e f h = omega (arith, lins)

-- ---- what is near a box lies in a wider one
pub box_of_near : (k : ℕ) (lo hi p : ℤ) (d q : Rational) → d ≤ʳ of_scale k p → IsNearBox k lo hi d q → InBox k (lo -ℤ p) (hi +ℤ p) q
box_of_near k lo hi p d q l n =
    let inside : Rational = n.inside in
    let values : List Rational = q ∷ inside ∷ d ∷ of_scale k p ∷ of_scale k lo ∷ of_scale k hi ∷ [] in
    let low : of_scale k lo -ʳ of_scale k p ≤ʳ q =
    order_r values ((va 4 ≼ va 1) ∷ (va 1 ⊖ va 0 ≼ va 2) ∷ (va 2 ≼ va 3) ∷ []) [] (va 4 ⊖ va 3) (va 0) (hy 0 ⊞ hy 1 ⊞ hy 2) [] refl (n.held.0, (n.near.1, (l, tt))) tt in
    let high : q ≤ʳ of_scale k hi +ʳ of_scale k p =
    order_r values ((va 1 ≼ va 5) ∷ (va 0 ⊖ va 1 ≼ va 2) ∷ (va 2 ≼ va 3) ∷ []) [] (va 0) (va 5 ⊕ va 3) (hy 0 ⊞ hy 1 ⊞ hy 2) [] refl (n.held.1, (n.near.0, (l, tt))) tt in (
      ≤ʳ_trans (of_scale k (lo -ℤ p)) (of_scale k lo -ʳ of_scale k p) q (≤ʳ_from_same (of_scale k (lo -ℤ p)) (of_scale k lo -ʳ of_scale k p)
          (same_by (lo ∷ p ∷ pos (2 ^ k) ∷ []) (λ l p s. ((l ⊖ p) ⊗ (s ⊗ s), (l ⊗ s ⊖ p ⊗ s) ⊗ s)) refl)) low,
      ≤ʳ_trans q (of_scale k hi +ʳ of_scale k p) (of_scale k (hi +ℤ p)) high (≤ʳ_from_same (of_scale k hi +ʳ of_scale k p)
          (of_scale k (hi +ℤ p)) (same_by (hi ∷ p ∷ pos (2 ^ k) ∷ []) (λ h p s. ((h ⊗ s ⊕ p ⊗ s) ⊗ s, (h ⊕ p) ⊗ (s ⊗ s))) refl)),
    )

-- ---- a narrow box that holds a number has ends near it
pub low_end : (k : ℕ) (lo hi w l : ℤ) (q : Rational) → (hi -ℤ lo) ≤ℤ w → of_scale k l ≤ʳ q → InBox k lo hi q → (l -ℤ w) ≤ℤ lo
low_end k lo hi w l q n h i = step (mul_le_cancel l hi q.den q.positive (le_trans_ℤ h i.1))
  where
    step : l ≤ℤ hi → (l -ℤ w) ≤ℤ lo
    step g = omega (arith, lins)

pub high_end : (k : ℕ) (lo hi w h : ℤ) (q : Rational) → (hi -ℤ lo) ≤ℤ w → q ≤ʳ of_scale k h → InBox k lo hi q → hi ≤ℤ (h +ℤ w)
high_end k lo hi w h q n g i = step (mul_le_cancel lo h q.den q.positive (le_trans_ℤ i.0 g))
  where
    step : lo ≤ℤ h → hi ≤ℤ (h +ℤ w)
    step g = omega (arith, lins)
