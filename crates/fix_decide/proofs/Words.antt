-- Numbers that fit their words.
use Rattle.std.proofs.Common.{◌≡◌, ◌^◌, ◌≤◌, ℤ, pos, ◌+ℤ◌, ◌-ℤ◌, ◌≤ℤ◌, unsigned_abs, arith, to_z, of_z}
use Rattle.std.proofs.lemmas.Int.{ints}
use Rattle.std.specs.Int.{w64, w128}

-- ry + ⌈..⌉ + 1
pub radius_word : (y u : ℤ) → pos 0 ≤ℤ y → y ≤ℤ pos (2 ^ 20) → unsigned_abs u ≤ 2 ^ 56 →
    to_z w64 (of_z w64 (to_z w64 (of_z w64 (to_z w64 (of_z w64 y) +ℤ to_z w64 (of_z w64 u))) +ℤ pos 1)) ≡ (y +ℤ u) +ℤ pos 1
radius_word y u h g k = omega (arith, ints)

pub difference_word : (a b : ℤ) → unsigned_abs a ≤ 2 ^ 60 → unsigned_abs b ≤ 2 ^ 60 → to_z w64 (of_z w64 (to_z w64 (of_z w64 a) -ℤ to_z w64 (of_z w64 b))) ≡ a -ℤ b
difference_word a b h g = omega (arith, ints)

-- y - a - λ · N
pub centre_word : (y a n : ℤ) → unsigned_abs y ≤ 2 ^ 34 → unsigned_abs a ≤ 2 ^ 56 → unsigned_abs n ≤ 2 ^ 55 →
    to_z w64 (of_z w64 (to_z w64 (of_z w64 (to_z w64 (of_z w64 y) -ℤ to_z w64 (of_z w64 a))) -ℤ to_z w64 (of_z w64 n))) ≡ (y -ℤ a) -ℤ n
centre_word y a n h g k = omega (arith, ints)

-- a running sum of numbers from 0 on
pub sum_word : (s q : ℤ) → pos 0 ≤ℤ s → s ≤ℤ pos (2 ^ 125) → pos 0 ≤ℤ q → q ≤ℤ pos (2 ^ 125) → to_z w128 (of_z w128 (s +ℤ to_z w128 (of_z w128 q))) ≡ s +ℤ q
sum_word s q h g i j = omega (arith, ints)

pub small_w64 : (x : ℤ) → pos 0 ≤ℤ x → x ≤ℤ pos (2 ^ 62) → to_z w64 (of_z w64 x) ≡ x
small_w64 x h g = omega (arith, ints)

pub small_w128 : (x : ℤ) → pos 0 ≤ℤ x → x ≤ℤ pos (2 ^ 126) → to_z w128 (of_z w128 x) ≡ x
small_w128 x h g = omega (arith, ints)

-- a distance and two radii
pub gap_word : (x y r s : ℤ) → x ≡ y → pos 0 ≤ℤ y → y ≤ℤ pos (2 ^ 35) → pos 0 ≤ℤ r → r ≤ℤ pos (2 ^ 33) → pos 0 ≤ℤ s → s ≤ℤ pos (2 ^ 33) →
    to_z w64 (of_z w64 (to_z w64 (of_z w64 x) +ℤ to_z w64 (of_z w64 (to_z w64 (of_z w64 r) +ℤ to_z w64 (of_z w64 s))))) ≡ y +ℤ (r +ℤ s)
gap_word x y r s e h₁ h₂ h₃ h₄ h₅ h₆ = omega (arith, ints)
