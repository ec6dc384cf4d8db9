-- Boxes: equal rationals lie in the same ones, and a box in a wider one.
use Rattle.std.proofs.Common.{ℕ, ◌^◌, ℤ, pos, ◌+ℤ◌, ◌-ℤ◌, ◌*ℤ◌, neg_ℤ, ◌≤ℤ◌, arith, pow_pos, sym, ◌≡◌}
use Rattle.whole_math.proofs.IntLaws.{neg_mul_ℤ}
use Rattle.whole_math.proofs.Order.{lins, mul_le_right, mul_le_cancel}
use Rattle.whole_math.proofs.Inequalities.{pos_nn, le_eq}
use Rattle.whole_math.specs.Rational.{Rational, ◌≈◌, of_whole, neg_r, Near, InBox}
use Rattle.whole_math.specs.Boxes.{of_scale}
use Rattle.whole_math.proofs.RationalLaws.{≈_sym, ≤ʳ_trans, ≤ʳ_from_same}

-- ---- equal rationals lie in the same boxes
pub InBox-along : (k : ℕ) (lo hi : ℤ) (p q : Rational) → p ≈ q → InBox k lo hi p → InBox k lo hi q
InBox-along k lo hi p q e h = (≤ʳ_trans (of_scale k lo) p q h.0 (≤ʳ_from_same p q e), ≤ʳ_trans q p (of_scale k hi) (≤ʳ_from_same q p (≈_sym p q e)) h.1)

pub Near-along : (c r : ℤ) (p q : Rational) → p ≈ q → Near c r p → Near c r q
Near-along c r p q e h = (≤ʳ_trans (of_whole (c -ℤ r)) p q h.0 (≤ʳ_from_same p q e), ≤ʳ_trans q p (of_whole (c +ℤ r)) (≤ʳ_from_same q p (≈_sym p q e)) h.1)

-- ---- ends
-- a number between the ends, at the scale of the box, is in it
pub end_in : (k : ℕ) (lo hi u : ℤ) → lo ≤ℤ u → u ≤ℤ hi → InBox k lo hi (of_scale k u)
end_in k lo hi u h g = (mul_le_right (pos (2 ^ k)) lo u (pos_nn (2 ^ k)) h, mul_le_right (pos (2 ^ k)) u hi (pos_nn (2 ^ k)) g)

pub point_in : (k : ℕ) (x lo hi : ℤ) → lo ≡ x → hi ≡ x → InBox k lo hi (of_scale k x)
point_in k x lo hi low high = end_in k lo hi x (le_eq low) (le_eq (sym high))

pub ordered_ends : (k : ℕ) (lo hi : ℤ) (q : Rational) → InBox k lo hi q → lo ≤ℤ hi
ordered_ends k lo hi q h = mul_le_cancel lo hi q.den q.positive (omega (arith, lins, h.0, h.1))

pub wider : (k : ℕ) (a b lo hi : ℤ) (q : Rational) → lo ≤ℤ a → b ≤ℤ hi → InBox k a b q → InBox k lo hi q
wider k a b lo hi q h g i =
    let low_at_most : (lo *ℤ pos q.den) ≤ℤ (a *ℤ pos q.den) = mul_le_right (pos q.den) lo a (pos_nn q.den) h in
    let high_at_least : (b *ℤ pos q.den) ≤ℤ (hi *ℤ pos q.den) = mul_le_right (pos q.den) b hi (pos_nn q.den) g in
    (omega (arith, lins, low_at_most, i.0), omega (arith, lins, high_at_least, i.1))

-- a box that holds all of another reaches as far on both sides
pub ends_inside : (k : ℕ) (a b lo hi : ℤ) → a ≤ℤ b → ((q : Rational) → InBox k a b q → InBox k lo hi q) → (lo ≤ℤ a) × (b ≤ℤ hi)
ends_inside k a b lo hi o all =
    let left_at_self : a ≤ℤ a = omega (arith, lins) in
    let right_at_self : b ≤ℤ b = omega (arith, lins) in
    let left_end_inside : InBox k lo hi (of_scale k a) = all (of_scale k a) (end_in k a b a left_at_self o) in
    let right_end_inside : InBox k lo hi (of_scale k b) = all (of_scale k b) (end_in k a b b o right_at_self) in
    (mul_le_cancel lo a (2 ^ k) (pow_pos k) left_end_inside.0, mul_le_cancel b hi (2 ^ k) (pow_pos k) right_end_inside.1)

-- ---- the negative
pub neg_box : (k : ℕ) (lo hi : ℤ) (q : Rational) → InBox k lo hi q → InBox k (neg_ℤ hi) (neg_ℤ lo) (neg_r q)
neg_box k lo hi q h = (omega (arith, lins, h.1, neg_mul_ℤ hi (pos q.den), neg_mul_ℤ q.num (pos (2 ^ k))), omega (arith, lins, h.0, neg_mul_ℤ lo (pos q.den), neg_mul_ℤ q.num (pos (2 ^ k))))

pub neg_box_back : (k : ℕ) (lo hi : ℤ) (q : Rational) → InBox k (neg_ℤ hi) (neg_ℤ lo) q → InBox k lo hi (neg_r q)
neg_box_back k lo hi q h = (omega (arith, lins, h.1, neg_mul_ℤ lo (pos q.den), neg_mul_ℤ q.num (pos (2 ^ k))), omega (arith, lins, h.0, neg_mul_ℤ hi (pos q.den), neg_mul_ℤ q.num (pos (2 ^ k))))
