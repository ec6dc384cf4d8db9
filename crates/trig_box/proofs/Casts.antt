-- What the casts of a doubling leave of it.
use Rattle.std.proofs.Common.{◌≡◌, ◌*◌, ◌^◌, ◌≤◌, ℤ, unsigned_abs, to_z, of_z, FitsSigned, arith}
use Rattle.std.proofs.lemmas.Int.{ints}
use Rattle.std.specs.Int.{w64, w128}

pub wide_is : (p x : ℤ) → unsigned_abs p ≤ 9 * 2 ^ 122 → p ≡ x → to_z w128 (of_z w128 p) ≡ x
wide_is p x h e = omega (arith, ints)

pub narrow_fits : (r f : ℤ) → r ≡ f → unsigned_abs f ≤ 3 * 2 ^ 61 → FitsSigned w64 (to_z w128 (of_z w128 r))
narrow_fits r f e h = omega (arith, ints)

pub narrow_is : (r f : ℤ) → r ≡ f → unsigned_abs f ≤ 3 * 2 ^ 61 → to_z w64 (of_z w64 (to_z w128 (of_z w128 r))) ≡ f
narrow_is r f e h = omega (arith, ints)
