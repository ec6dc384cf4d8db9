-- The coordinates of a point and its distance from the Earth's centre.
use Rattle.std.proofs.Common.{◌≡◌, ℕ, zero, suc, ◌*◌, ◌^◌, ◌<◌, ◌≤◌, List, [], ◌∷◌, length, get_or, ℤ, pos, ◌+ℤ◌, ◌*ℤ◌, ◌≤ℤ◌, unsigned_abs, arith, to_z, of_z}
use Rattle.std.proofs.lemmas.Int.{ints}
use Rattle.std.specs.Int.{w64, w128}
use Rattle.whole_math.specs.Vectors.{squared_norm}
use Rattle.whole_math.proofs.Absolute.{abs_square}
use Rattle.whole_math.proofs.Order.{square_nn, lins}
use Rattle.whole_math.proofs.Words.{as_w64}
use Rattle.whole_math.proofs.Vectors.{squared_norm_nonneg}
use Rattle.whole_math.proofs.Inequalities.{le_trans_ℤ}
use Rattle.obs_rows.specs.Ranges.{IsPoint}
use Rattle.obs_rows.specs.ReceiverPoints.{IsReceiverPoint}
use Rattle.obs_rows.specs.declared.limits.TheConstants.{MOST_COORDINATE}

-- a number whose square is at most that of m is at most m in size
square_root : (m n : ℕ) → n * n ≤ m * m → n ≤ m
square_root m n h = grind arith

pub size_of_square : (x : ℤ) (m : ℕ) → (x *ℤ x) ≤ℤ pos (m * m) → unsigned_abs x ≤ m
size_of_square x m h = square_root m (unsigned_abs x) (same (unsigned_abs x * unsigned_abs x) (m * m) (x *ℤ x) (abs_square x) h)
  where
    same : (a b : ℕ) (y : ℤ) → pos a ≡ y → y ≤ℤ pos b → a ≤ b
    same a b y e g = omega (arith, lins)

square_in : (s : List ℤ) (k : ℕ) (d : ℤ) → k < length s → (get_or s k d *ℤ get_or s k d) ≤ℤ squared_norm s
square_in [] k d h = absurd (omega arith)
square_in (x ∷ s) zero d h = more (x *ℤ x) (squared_norm s) (squared_norm_nonneg s)
  where
    more : (a b : ℤ) → pos 0 ≤ℤ b → a ≤ℤ (a +ℤ b)
    more a b h = omega (arith, lins)
square_in (x ∷ s) (suc k) d h = more (get_or s k d *ℤ get_or s k d) (squared_norm s) (x *ℤ x) (square_nn x) (square_in s k d (omega arith))
  where
    more : (a b c : ℤ) → pos 0 ≤ℤ c → a ≤ℤ b → a ≤ℤ (c +ℤ b)
    more a b c h g = omega (arith, lins)

-- no coordinate of a receiver's point is farther from 0 than the point from the Earth's centre
pub receiver_is_point : (p : List ℤ) → IsReceiverPoint p → IsPoint p
receiver_is_point p h k d inside = size_of_square (get_or p k d) MOST_COORDINATE (le_trans_ℤ (square_in p k d inside) h.1)

-- the words of a sum of three squares
pub three_words : (a b c : ℤ) → pos 0 ≤ℤ a → a ≤ℤ pos (2 ^ 80) → pos 0 ≤ℤ b → b ≤ℤ pos (2 ^ 80) → pos 0 ≤ℤ c → c ≤ℤ pos (2 ^ 80) →
    to_z w128 (of_z w128 (to_z w128 (of_z w128 a) +ℤ to_z w128 (of_z w128 (to_z w128 (of_z w128 b) +ℤ to_z w128 (of_z w128 c))))) ≡ a +ℤ (b +ℤ (c +ℤ pos 0))
three_words a b c h₁ h₂ h₃ h₄ h₅ h₆ = omega (arith, ints)

pub plain : (x : ℤ) → unsigned_abs x ≤ MOST_COORDINATE → to_z w64 (of_z w64 x) ≡ x
plain x small = as_w64 x (omega (arith, small))

-- the norm by its three coordinates
pub norm_of : (p : List ℤ) (a b c x y z : ℤ) → length p ≡ 3 → x ≡ get_or p 0 (pos 0) → y ≡ get_or p 1 (pos 0) → z ≡ get_or p 2 (pos 0) → a ≡ x *ℤ x → b ≡ y *ℤ y → c ≡ z *ℤ z →
    a +ℤ (b +ℤ (c +ℤ pos 0)) ≡ squared_norm p
norm_of [] a b c x y z h e f g i j k = absurd (omega arith)
norm_of (p ∷ []) a b c x y z h e f g i j k = absurd (omega arith)
norm_of (p ∷ q ∷ []) a b c x y z h e f g i j k = absurd (omega arith)
norm_of (p ∷ q ∷ r ∷ []) a b c x y z h e f g i j k = cc
norm_of (p ∷ q ∷ r ∷ s ∷ l) a b c x y z h e f g i j k = absurd (omega arith)
