-- Numbers that are turned, and numbers from 0 on, as words.
use Rattle.std.proofs.Common.{◌≡◌, ◌^◌, ◌≤◌, ◌-ℤ◌, neg_ℤ, ◌≤ℤ◌, ℤ, pos, unsigned_abs, arith, to_z, of_z}
use Rattle.std.proofs.lemmas.Int.{ints}
use Rattle.std.specs.Int.{w64, w128}

pub neg_w64 : (x : ℤ) → unsigned_abs x ≤ 2 ^ 60 → to_z w64 (of_z w64 (pos 0 -ℤ to_z w64 (of_z w64 x))) ≡ neg_ℤ x
neg_w64 x h = omega (arith, ints)

pub size_neg : (x : ℤ) → unsigned_abs (neg_ℤ x) ≡ unsigned_abs x
size_neg x = omega (arith, ints)

-- a number from 0 on, as a word
pub from_w64 : (x : ℤ) → pos 0 ≤ℤ x → x ≤ℤ pos (2 ^ 35) → pos 0 ≤ℤ to_z w64 (of_z w64 x)
from_w64 x h g = omega (arith, ints)

pub to_w64 : (x : ℤ) → pos 0 ≤ℤ x → x ≤ℤ pos (2 ^ 20) → to_z w64 (of_z w64 x) ≤ℤ pos (2 ^ 20)
to_w64 x h g = omega (arith, ints)

pub from_w128 : (x : ℤ) → pos 0 ≤ℤ x → x ≤ℤ pos (2 ^ 110) → pos 0 ≤ℤ to_z w128 (of_z w128 x)
from_w128 x h g = omega (arith, ints)

pub to_w128 : (x : ℤ) → pos 0 ≤ℤ x → x ≤ℤ pos (2 ^ 110) → to_z w128 (of_z w128 x) ≤ℤ pos (2 ^ 110)
to_w128 x h g = omega (arith, ints)

pub small_w64 : (x : ℤ) → pos 0 ≤ℤ x → x ≤ℤ pos (2 ^ 35) → to_z w64 (of_z w64 x) ≡ x
small_w64 x h g = omega (arith, ints)

pub small_w128 : (x : ℤ) → pos 0 ≤ℤ x → x ≤ℤ pos (2 ^ 111) → to_z w128 (of_z w128 x) ≡ x
small_w128 x h g = omega (arith, ints)
