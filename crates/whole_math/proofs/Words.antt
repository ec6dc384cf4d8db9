-- A number that fits a word is the word's value.
use Rattle.std.proofs.Common.{◌≡◌, ◌+◌, ◌^◌, ◌≤◌, ℤ, ◌+ℤ◌, unsigned_abs, arith, to_z, of_z}
use Rattle.std.proofs.lemmas.Int.{ints}
use Rattle.std.specs.Int.{w64, w128}

pub as_w64 : (x : ℤ) → unsigned_abs x ≤ 2 ^ 62 → to_z w64 (of_z w64 x) ≡ x
as_w64 x small = omega (arith, ints)

pub as_w128 : (x : ℤ) → unsigned_abs x ≤ 2 ^ 126 → to_z w128 (of_z w128 x) ≡ x
as_w128 x small = omega (arith, ints)

pub size_add : (x y : ℤ) → unsigned_abs (x +ℤ y) ≤ unsigned_abs x + unsigned_abs y
size_add x y = omega (arith, ints)
