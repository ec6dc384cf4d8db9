use Rattle.std.proofs.Common.{◌≡◌, ◌^◌, ◌≤◌, ℤ, pos, negsuc, ◌*ℤ◌, to_z, of_z, arith, unsigned_abs}
use Rattle.std.proofs.lemmas.Int.{ints, to_z-of_z}
use Rattle.std.specs.Int.{w64, w128}
use Rattle.std.specs.Int.Signed.{shr_z}
use mir.Val.{SFits}
use Rattle.whole_math.specs.Rounding.{floor_div}
use Rattle.whole_math.proofs.Order.{abs_mul_le}
use Rattle.iv_core.proofs.halves.signed_upper_half.Goals as goal

word_size : (z : ℤ) → SFits w64 z → unsigned_abs z ≤ 2 ^ 63
word_size z h = let fits = h.sfits in omega (arith, ints)

wide : (z : ℤ) → unsigned_abs z ≤ 2 ^ 126 → to_z w128 (of_z w128 z) ≡ z
wide z h = omega (arith, ints)

wide_word : (z : ℤ) → unsigned_abs z ≤ 2 ^ 63 → to_z w128 (of_z w128 z) ≡ z
wide_word z h = omega (arith, ints)

upper : (z : ℤ) → unsigned_abs z ≤ 2 ^ 126 → to_z w64 (of_z w64 (to_z w128 (of_z w128 (shr_z z 18446744073709551616)))) ≡ floor_div z 18446744073709551616
upper (pos n) h = omega (arith, ints)
upper (negsuc n) h = omega (arith, ints)

pub returns : goal.returns
returns c =
    let a_size = word_size c.args.a c.ranges.a in
    let b_size = word_size c.args.b c.ranges.b in
    let size : unsigned_abs (c.args.a *ℤ c.args.b) ≤ 2 ^ 126 = abs_mul_le c.args.a c.args.b (2 ^ 63) (2 ^ 63) a_size b_size in
    rw (to_z-of_z w64 c.args.a c.ranges.a, to_z-of_z w64 c.args.b c.ranges.b, wide_word c.args.a a_size, wide_word c.args.b b_size, wide (c.args.a *ℤ c.args.b) size)
    (upper (c.args.a *ℤ c.args.b) size)
