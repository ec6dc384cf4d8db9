-- A number that fits a word is the word's value.
use Rattle.std.proofs.Common.{◌≡◌, ◌+◌, ◌^◌, ◌<◌, ℤ, unsigned_abs, arith, to_z, of_z}
use Rattle.std.proofs.lemmas.Int.{ints}
use Rattle.std.specs.Int.{w128}

pub wide_w128 : (x : ℤ) → unsigned_abs x < 2 ^ 126 + 2 ^ 115 → to_z w128 (of_z w128 x) ≡ x
wide_w128 x h = omega (arith, ints)
