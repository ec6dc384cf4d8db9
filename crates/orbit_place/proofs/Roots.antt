-- The root of what is near 1, from what is known of the ends of a box of it: how wide the box is, and that its lower end is near.
use Rattle.std.proofs.Common.{◌+◌, ◌-◌, ◌*◌, ◌^◌, ℤ, pos, ◌+ℤ◌, ◌-ℤ◌, ◌*ℤ◌, ◌≤ℤ◌, ◌<ℤ◌, arith}
use Rattle.std.proofs.lemmas.Int.{ints, by_lt_z}
use Rattle.whole_math.proofs.Inequalities.{pos_nn}
use Rattle.whole_math.proofs.Certificates.{weak, square_root}
use Rattle.whole_math.specs.Rational.{Rational, two_to_minus, ◌*ʳ◌, AreWithin, InBox}
use Rattle.whole_math.specs.Boxes.{of_scale}
use Rattle.orbit_place.proofs.RootCertificates.{low_square, high_square, half_square, upper_square, too_wide, above_root, below_root, above_near, below_near}

-- ---- the box from n to m of a number near 1, and that from l to h of its near-roots
pub record IsRootBox (n m l h : ℤ) : Type 0 where
  pub least : pos (2 ^ 60 - 2 ^ 50) ≤ℤ n
  pub most : m ≤ℤ pos (2 ^ 60 + 2 ^ 50)
  pub rest_ordered : n ≤ℤ m
  pub narrow : (m -ℤ n) ≤ℤ pos 2
  pub ordered : l ≤ℤ h
  pub not_negative : pos 0 ≤ℤ l
  pub near_low : ((n *ℤ pos (2 ^ 60)) *ℤ (pos (2 ^ 60) -ℤ pos 1)) <ℤ (((l +ℤ pos 1) *ℤ (l +ℤ pos 1)) *ℤ pos (2 ^ 60))
  pub near_high : pos 0 <ℤ h → (((h -ℤ pos 1) *ℤ (h -ℤ pos 1)) *ℤ pos (2 ^ 60)) <ℤ ((m *ℤ pos (2 ^ 60)) *ℤ (pos (2 ^ 60) +ℤ pos 1))

low_fact : (n m l h : ℤ) → IsRootBox n m l h → (n *ℤ pos (2 ^ 60 - 1)) ≤ℤ ((l +ℤ pos 1) *ℤ (l +ℤ pos 1))
low_fact n m l h b = low_square n l (weak _ _ b.near_low)

low_end : (n m l h : ℤ) → IsRootBox n m l h → pos (2 ^ 59) ≤ℤ (l +ℤ pos 1)
low_end n m l h b = square_root (pos (2 ^ 59)) (l +ℤ pos 1) (one_more l b.not_negative) (half_square n l (low_fact n m l h b) b.least)
  where
    one_more : (l : ℤ) → pos 0 ≤ℤ l → pos 0 ≤ℤ (l +ℤ pos 1)
    one_more l h = omega (arith, ints)

high_fact : (n m l h : ℤ) → IsRootBox n m l h → ((h -ℤ pos 1) *ℤ (h -ℤ pos 1)) ≤ℤ (m *ℤ pos (2 ^ 60 + 1))
high_fact n m l h b = high_square m h (weak _ _ (b.near_high (above l h (low_end n m l h b) b.ordered)))
  where
    above : (l h : ℤ) → pos (2 ^ 59) ≤ℤ (l +ℤ pos 1) → l ≤ℤ h → pos 0 <ℤ h
    above l h k i = omega (arith, ints)

pub root_high : (n m l h : ℤ) → IsRootBox n m l h → h ≤ℤ pos (1025 * 2 ^ 50)
root_high n m l h b = down h (square_root (h -ℤ pos 1) (pos (2 ^ 60 + 2 ^ 49 + 1)) (omega (arith, ints)) (upper_square m h (high_fact n m l h b) b.most))
  where
    down : (h : ℤ) → (h -ℤ pos 1) ≤ℤ pos (2 ^ 60 + 2 ^ 49 + 1) → h ≤ℤ pos (1025 * 2 ^ 50)
    down h k = omega (arith, ints)

pub root_narrow : (n m l h : ℤ) → IsRootBox n m l h → (h -ℤ l) ≤ℤ pos 8
root_narrow n m l h b = by_lt_z (l +ℤ pos 8) h
    (λ k. absurd (far n m l b.most b.rest_ordered (low_end n m l h b) (too_wide n m l h (later l h k) b.not_negative (high_fact n m l h b) (close n m b.narrow) (low_fact n m l h b))))
    (λ k. near l h k)
  where
    later : (l h : ℤ) → (l +ℤ pos 8) <ℤ h → (l +ℤ pos 9) ≤ℤ h
    later l h k = omega (arith, ints)

    close : (n m : ℤ) → (m -ℤ n) ≤ℤ pos 2 → m ≤ℤ (n +ℤ pos 2)
    close n m h = omega (arith, ints)

    near : (l h : ℤ) → h ≤ℤ (l +ℤ pos 8) → (h -ℤ l) ≤ℤ pos 8
    near l h k = omega (arith, ints)

    far : (n m l : ℤ) → m ≤ℤ pos (2 ^ 60 + 2 ^ 50) → n ≤ℤ m → pos (2 ^ 59) ≤ℤ (l +ℤ pos 1) → (pos 14 *ℤ l +ℤ pos 63) ≤ℤ (pos 2 *ℤ n +ℤ pos 2305843009213693954) → ⊥
    far n m l a b c d = omega (arith, ints)

pub root_near : (n m l h : ℤ) (x : Rational) → IsRootBox n m l h → InBox 60 n m x → AreWithin (two_to_minus 50) (of_scale 60 l *ʳ of_scale 60 l) x
root_near n m l h x b i =
    let rest_close : m ≤ℤ (n +ℤ pos 2) = close n m b.narrow in
    let rest_at_most : n ≤ℤ pos (1025 * 2 ^ 50) = below n m b.rest_ordered b.most in
    let root_at_most : l ≤ℤ pos (1025 * 2 ^ 50) = below l h b.ordered (root_high n m l h b) in (
      above_near l n x.num (pos x.den) (above_root n m l h (high_fact n m l h b) rest_close b.not_negative b.ordered (root_high n m l h b) rest_at_most) i.0 (pos_nn x.den),
      below_near l m x.num (pos x.den) (below_root n m l (low_fact n m l h b) rest_close root_at_most rest_at_most) i.1 (pos_nn x.den),
    )
  where
    close : (n m : ℤ) → (m -ℤ n) ≤ℤ pos 2 → m ≤ℤ (n +ℤ pos 2)
    close n m h = omega (arith, ints)

    below : (a b : ℤ) → a ≤ℤ b → b ≤ℤ pos (1025 * 2 ^ 50) → a ≤ℤ pos (1025 * 2 ^ 50)
    below a b h k = omega (arith, ints)
