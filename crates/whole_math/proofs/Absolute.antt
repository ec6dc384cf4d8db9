-- The absolute value, as a bound on both sides, and of squares.
use Rattle.std.proofs.Common.{◌≡◌, ℕ, ◌*◌, ◌<◌, [], ◌∷◌, ℤ, pos, negsuc, ◌*ℤ◌, neg_ℤ, ◌≤ℤ◌, ◌<ℤ◌, unsigned_abs, arith, refl}
use Rattle.std.proofs.lemmas.Int.{ints}
use Rattle.whole_math.proofs.Ring.{ring, va, ◌⊗◌, ng}
use Rattle.whole_math.proofs.Order.{lins, mul_le_right}
use Rattle.whole_math.proofs.Inequalities.{pos_nn}

-- of a number that is not below 0 it is the number
pub pos_abs : (a : ℤ) → pos 0 ≤ℤ a → pos (unsigned_abs a) ≡ a
pos_abs a h = omega (arith, ints)

pub abs_pos : (a : ℤ) → pos 0 <ℤ a → 0 < unsigned_abs a
abs_pos a h = omega (arith, ints)

-- |a| s ≤ m gives a s ≤ m and -a s ≤ m
pub abs_times_le : (a m : ℤ) (s : ℕ) → (pos (unsigned_abs a) *ℤ pos s) ≤ℤ m → ((a *ℤ pos s) ≤ℤ m) × ((neg_ℤ a *ℤ pos s) ≤ℤ m)
abs_times_le a m s h =
    let left_at_most : (a *ℤ pos s) ≤ℤ (pos (unsigned_abs a) *ℤ pos s) = mul_le_right (pos s) a (pos (unsigned_abs a)) (pos_nn s) (omega (arith, ints)) in
    let right_at_most : (neg_ℤ a *ℤ pos s) ≤ℤ (pos (unsigned_abs a) *ℤ pos s) = mul_le_right (pos s) (neg_ℤ a) (pos (unsigned_abs a)) (pos_nn s) (omega (arith, ints)) in
    (omega (arith, lins, left_at_most, h), omega (arith, lins, right_at_most, h))

-- ---- squares
pub abs_square : (a : ℤ) → pos (unsigned_abs a * unsigned_abs a) ≡ a *ℤ a
abs_square (pos a) = omega (arith, ints)
abs_square (negsuc a) = omega (arith, ints)

pub neg_square : (a : ℤ) → neg_ℤ a *ℤ neg_ℤ a ≡ a *ℤ a
neg_square a = ring (a ∷ []) (ng (va 0) ⊗ ng (va 0)) (va 0 ⊗ va 0) refl
