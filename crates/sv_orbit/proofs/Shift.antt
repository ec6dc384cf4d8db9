-- A decimal times a power of ten: its exponent rises by that of the power.
use Rattle.std.proofs.Common.{◌≡◌, ℕ, zero, suc, ◌+◌, ◌*◌, ◌^◌, ◌<◌, ◌≤◌, [], ◌∷◌, ℤ, pos, negsuc, ◌+ℤ◌, ◌*ℤ◌, neg_ℤ, ◌≤ℤ◌, arith, refl, ap, ◌∙◌}
use Rattle.std.proofs.lemmas.Int.{ints}
use Rattle.std.proofs.lemmas.Nat.{pow-add}
use Rattle.whole_math.proofs.IntLaws.{neg_mul_ℤ}
use Rattle.whole_math.proofs.Ring.{◌⊗◌}
use Rattle.whole_math.proofs.Order.{lins, le_pos, mul_le_right}
use Rattle.whole_math.proofs.Inequalities.{same_by, nat, le_eq, le_trans_ℤ, pos_nn}
use Rattle.decimal_text.specs.declared.exponent.Dec.{Dec}
use Rattle.whole_math.specs.Rational.{Rational, ◌≈◌, IsAtMostInSize, of_whole, ◌*ʳ◌, times}
use Rattle.whole_math.specs.Boxes.{of_scale}
use Rattle.whole_math.proofs.RationalLaws.{≈_trans}
use Rattle.whole_math.proofs.Boxes.{InBox-along}
use Rattle.whole_math.proofs.RationalSizes.{size_mul, size_along, size_looser}
use Rattle.whole_math.proofs.Ends.{box_of_size}
use Rattle.iv_core.specs.declared.Iv.{Iv}
use Rattle.eph_store.specs.Decimals.{decimal, with_exponent, value_of, IsWithin}
use Rattle.sv_orbit.specs.LeastBoxes.{IsLeastBox}

power_sum : (a b c : ℕ) → c ≡ a + b → pos (10 ^ c) ≡ pos (10 ^ a) *ℤ pos (10 ^ b)
power_sum a b c e = ap pos (ap (λ (i : ℕ). 10 ^ i) e ∙ pow-add 10 a b)

-- 10^u · (m · 10^e) = m · 10^s
pub scaled_is : (u : ℕ) (m e s : ℤ) → e +ℤ pos u ≡ s → times (10 ^ u) (with_exponent m e) ≈ with_exponent m s
scaled_is u m (pos n) (pos k) h = rw (power_sum u n k (omega (arith, ints, h))) (same_by (m ∷ pos (10 ^ u) ∷ pos (10 ^ n) ∷ []) (λ m u n. (u ⊗ (m ⊗ n) ⊗ nat 1, m ⊗ (u ⊗ n) ⊗ nat 1)) refl)
scaled_is u m (pos n) (negsuc k) h = absurd (omega (arith, ints, h))
scaled_is u m (negsuc n) (pos k) h = rw (power_sum k (suc n) u (omega (arith, ints, h))) (same_by (m ∷ pos (10 ^ k) ∷ pos (10 ^ suc n) ∷ []) (λ m k n. (k ⊗ n ⊗ m ⊗ nat 1, m ⊗ k ⊗ n)) refl)
scaled_is u m (negsuc n) (negsuc k) h = rw (power_sum (suc k) u (suc n) (omega (arith, ints, h))) (same_by (m ∷ pos (10 ^ suc k) ∷ pos (10 ^ u) ∷ []) (λ m k u. (u ⊗ m ⊗ k, m ⊗ (k ⊗ u))) refl)

-- a box of the one is a box of the other
pub least_along : (k : ℕ) (b : Iv k) (p q : Rational) → q ≈ p → IsLeastBox b p → IsLeastBox b q
least_along k b p q e l = record {
  holds = λ x f. l.holds x (≈_trans x q p f e);
  least = λ y z i. l.least y z (InBox-along k y z q p e i);
}

-- the bound of the profile, in units of the box
pub small_enough : (bound places u k size : ℕ) (d : Dec) → IsWithin bound places d → bound * 10 ^ u * 2 ^ k ≤ size * 10 ^ places → IsAtMostInSize (of_scale k (pos size)) (times (10 ^ u) (value_of d))
small_enough bound places u k size d w h =
    let v : Rational = value_of d in
    let ten : Rational = of_whole (pos (10 ^ u)) in
    let own : IsAtMostInSize ten ten = (whole_le (10 ^ u), whole_neg (10 ^ u)) in
    let value : IsAtMostInSize (decimal (pos bound) places) v = (w.high, turned (neg_ℤ (pos bound)) v.num (pos (10 ^ places)) (pos v.den) (pos bound) refl w.low) in
    size_along (of_scale k (pos size)) (ten *ʳ v) (times (10 ^ u) v) (same_by (pos (10 ^ u) ∷ v.num ∷ pos v.den ∷ []) (λ t n d. (t ⊗ n ⊗ d, t ⊗ n ⊗ (nat 1 ⊗ d))) refl)
    (size_looser (ten *ʳ decimal (pos bound) places) (of_scale k (pos size)) (ten *ʳ v) (limit (10 ^ u) (10 ^ places) (2 ^ k) h) (size_mul ten (decimal (pos bound) places) ten v own value))
  where
    whole_le : (n : ℕ) → (pos n *ℤ pos 1) ≤ℤ (pos n *ℤ pos 1)
    whole_le n = omega (arith, ints)

    whole_neg : (n : ℕ) → (neg_ℤ (pos n) *ℤ pos 1) ≤ℤ (pos n *ℤ pos 1)
    whole_neg n = omega (arith, ints)

    turned : (a v p d b : ℤ) → a ≡ neg_ℤ b → (a *ℤ d) ≤ℤ (v *ℤ p) → (neg_ℤ v *ℤ p) ≤ℤ (b *ℤ d)
    turned a v p d b e h = le_trans_ℤ (le_eq (neg_mul_ℤ v p)) (step (a *ℤ d) (v *ℤ p) (b *ℤ d) (ap (λ z. z *ℤ d) e ∙ neg_mul_ℤ b d) h)
      where
        step : (x y z : ℤ) → x ≡ neg_ℤ z → x ≤ℤ y → neg_ℤ y ≤ℤ z
        step x y z e h = omega (arith, lins)

    limit : (t p s : ℕ) → bound * t * s ≤ size * p → (pos t *ℤ pos bound *ℤ pos s) ≤ℤ (pos size *ℤ pos (1 * p))
    limit t p s h = le_pos (t * bound * s) (size * (1 * p)) (omega (arith, h))

-- ---- what the code takes
pub whole_value : (m n e : ℤ) (p : ℕ) → n ≡ m → e ≡ pos p → of_whole (n *ℤ pos (10 ^ p)) ≡ with_exponent m e
whole_value m n e p f g = rw (f, g) refl

pub part_value : (m n e : ℤ) (p : ℕ) → n ≡ m → e ≡ neg_ℤ (pos p) → 0 < p → decimal n p ≡ with_exponent m e
part_value m n e zero f g h = absurd (omega (arith, h))
part_value m n e (suc p) f g h = rw (f, g) refl

pub scaled_value : (u : ℕ) (m e n s : ℤ) → n ≡ m → e +ℤ pos u ≡ s → times (10 ^ u) (with_exponent m e) ≈ with_exponent n s
scaled_value u m e n s f h = rw f (scaled_is u m e s h)

-- what is at most size units in size is at most 2^62 of them
pub in_reach : (k size : ℕ) (p q : Rational) → size ≤ 2 ^ 62 → p ≈ q → IsAtMostInSize (of_scale k (pos size)) p → IsAtMostInSize (of_scale k (pos (2 ^ 62))) q
in_reach k size p q h e s = size_along (of_scale k (pos (2 ^ 62))) p q e (size_looser (of_scale k (pos size)) (of_scale k (pos (2 ^ 62))) p
    (mul_le_right (pos (2 ^ k)) (pos size) (pos (2 ^ 62)) (pos_nn (2 ^ k)) (le_pos size (2 ^ 62) h)) s)

-- its least box has its ends there
pub ends_of : (k size : ℕ) (b : Iv k) (p q : Rational) → p ≈ q → IsLeastBox b q → IsAtMostInSize (of_scale k (pos size)) p → (neg_ℤ (pos size) ≤ℤ b.lo) × (b.hi ≤ℤ pos size)
ends_of k size b p q e l s = l.least (neg_ℤ (pos size)) (pos size) (box_of_size k size q (size_along (of_scale k (pos size)) p q e s))
