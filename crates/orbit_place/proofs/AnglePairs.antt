-- The boxes of the pairs of the angles of a box hold one near the circle.
use Rattle.std.proofs.Common.{ℕ, ◌+◌, ◌*◌, ◌^◌, ◌≤◌, ℤ, pos, ◌+ℤ◌, ◌*ℤ◌, neg_ℤ, ◌≤ℤ◌, arith, lit≤}
use Rattle.std.proofs.lemmas.Int.{ints}
use Rattle.whole_math.proofs.Order.{le_pos}
use Rattle.whole_math.specs.Rational.{Rational, ◌≤ʳ◌, ◌+ʳ◌, ◌*ʳ◌, two_to_minus}
use Rattle.whole_math.specs.Boxes.{of_scale}
use Rattle.iv_core.specs.declared.Iv.{Iv}
use Rattle.iv_core.specs.Intervals.{Holds, IsWithin}
use Rattle.iv_core.proofs.BoxLaws.{low_held}
use Rattle.trig_box.specs.AnglePairs.{InRange, IsAnglePair}
use Rattle.trig_box.proofs.PairLaws.{canonical_exists, canonical_is_pair, norm_law_5, norm_law_7}
use Rattle.kepler_box.proofs.Steps.{in_range}
use Rattle.orbit_place.proofs.Circle.{near_looser}
use Rattle.orbit_place.specs.Rotations.{HasPairNearCircle}

in_range_7 : (a : ℤ) → neg_ℤ (pos (2 ^ 62)) ≤ℤ a → a ≤ℤ pos (2 ^ 62) → InRange 7 (of_scale 56 a)
in_range_7 a h k = omega (arith, ints)

pub near_circle_5 : (b : Iv 56) (cos sin : Iv 60) → IsWithin (2 ^ 60) b → ((x c s : Rational) → Holds b x → IsAnglePair 5 x c s → Holds cos c × Holds sin s) → HasPairNearCircle 1 cos sin
near_circle_5 b cos sin r h =
    let x : Rational = of_scale 56 b.lo in
    let canonical = canonical_exists 5 x (in_range b.lo r.0 (below b.lo b.hi b.ordered r.1)) in
    let is_pair = canonical_is_pair 5 x canonical.0 canonical.1 canonical.2 in
    record { pair = record { cos = canonical.0; sin = canonical.1 }; held = h x canonical.0 canonical.1 (low_held b) is_pair; near = norm_law_5 x canonical.0 canonical.1 is_pair }
  where
    below : (a b : ℤ) → a ≤ℤ b → b ≤ℤ pos (2 ^ 60) → a ≤ℤ pos (2 ^ 60)
    below a b h k = omega (arith, ints)

fourth : two_to_minus 14 ≤ʳ of_scale 16 (pos 4)
fourth = le_pos _ _ (lit≤ tt)

pub near_circle_7 : (b : Iv 56) (cos sin : Iv 60) → ((x c s : Rational) → Holds b x → IsAnglePair 7 x c s → Holds cos c × Holds sin s) → HasPairNearCircle 4 cos sin
near_circle_7 b cos sin h =
    let x : Rational = of_scale 56 b.lo in
    let canonical = canonical_exists 7 x (in_range_7 b.lo b.low (below b.lo b.hi b.ordered b.high)) in
    let is_pair = canonical_is_pair 7 x canonical.0 canonical.1 canonical.2 in
    let near_norm = norm_law_7 x canonical.0 canonical.1 is_pair in
    record { pair = record { cos = canonical.0; sin = canonical.1 }; held = h x canonical.0 canonical.1 (low_held b) is_pair; near = near_looser (two_to_minus 14) (of_scale 16 (pos 4)) (canonical.0 *ʳ canonical.0 +ʳ canonical.1 *ʳ canonical.1) fourth near_norm }
  where
    below : (a b : ℤ) → a ≤ℤ b → b ≤ℤ pos (2 ^ 62) → a ≤ℤ pos (2 ^ 62)
    below a b h k = omega (arith, ints)

-- ---- sizes and widths
pub within_16 : (n : ℕ) (b : Iv 56) → IsWithin n b → n ≤ 2 ^ 60 → IsWithin (2 ^ 60) b
within_16 n b h k = (omega (arith, ints, h.0, k), omega (arith, ints, h.1, k))

pub narrow_5 : (w d : ℤ) (m n : ℕ) → w ≤ℤ pos m → d ≤ℤ (pos 512 +ℤ (pos 32 *ℤ w)) → 512 + 32 * m ≤ n → d ≤ℤ pos n
narrow_5 w d m n h k l = omega (arith, ints)

pub narrow_7 : (w d : ℤ) (m n : ℕ) → w ≤ℤ pos m → d ≤ℤ (pos 4096 +ℤ (pos 32 *ℤ w)) → 4096 + 32 * m ≤ n → d ≤ℤ pos n
narrow_7 w d m n h k l = omega (arith, ints)
