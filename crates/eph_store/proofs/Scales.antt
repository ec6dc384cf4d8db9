-- A number with an exponent and a bound on one scale.
use Rattle.std.proofs.Common.{◌≡◌, ℕ, zero, suc, ◌+◌, ◌-◌, ◌*◌, ◌^◌, ◌<◌, ◌≤◌, ◌↔◌, ℤ, pos, negsuc, ◌+ℤ◌, neg_ℤ, unsigned_abs, refl, sym, ap, ◌∙◌, arith, lit<}
use Rattle.std.proofs.lemmas.Int.{ints}
use Rattle.std.proofs.lemmas.Nat.{pow-add}
use Rattle.std.proofs.Math.Nat.{mul_assoc, mul-le-mul_right, le_of_mul-le-mul_right, pow-le-pow_right, le-mul_of_pos_right, mul_comm}
use Rattle.decimal_text.specs.declared.exponent.Dec.{Dec}
use Rattle.whole_math.specs.Rational.{◌≤ʳ◌}
use Rattle.eph_store.specs.Decimals.{ten_to_pos, decimal, with_exponent}

-- u and v are in the order of x and y
pub record SameOrder (x y u v : ℕ) : Type 0 where
  pub up : x ≤ y → u ≤ v
  pub up_back : u ≤ v → x ≤ y
  pub down : y ≤ x → v ≤ u
  pub down_back : v ≤ u → y ≤ x

same : (x y u v : ℕ) → x ≡ u → y ≡ v → SameOrder x y u v
same x y u v e f = record { up = λ h. omega arith; up_back = λ h. omega arith; down = λ h. omega arith; down_back = λ h. omega arith }

joined : (x y u v p q : ℕ) → SameOrder x y u v → SameOrder u v p q → SameOrder x y p q
joined x y u v p q s t = record { up = λ h. t.up (s.up h); up_back = λ h. s.up_back (t.up_back h); down = λ h. t.down (s.down h); down_back = λ h. s.down_back (t.down_back h) }

turned : (x y u v : ℕ) → SameOrder x y u v → SameOrder y x v u
turned x y u v s = record { up = s.down; up_back = s.down_back; down = s.up; down_back = s.up_back }

-- a common factor changes nothing
factor_out : (x y p : ℕ) → 0 < p → SameOrder (x * p) (y * p) x y
factor_out x y p h = record { up = λ k. le_of_mul-le-mul_right k h; up_back = λ k. mul-le-mul_right p k; down = λ k. le_of_mul-le-mul_right k h; down_back = λ k. mul-le-mul_right p k }

-- a times p and a times q are on one side of b, if p and q are both above it
cut : (a p q b : ℕ) → b < p → b < q → SameOrder (a * p) b (a * q) b
cut zero p q b h k = record { up = λ l. omega arith; up_back = λ l. omega arith; down = λ l. omega arith; down_back = λ l. omega arith }
cut (suc a) p q b h k =
    let big : p ≤ suc a * p = rw (mul_comm (suc a) p) (le-mul_of_pos_right p (omega arith)) in
    let large : q ≤ suc a * q = rw (mul_comm (suc a) q) (le-mul_of_pos_right q (omega arith)) in
    record { up = λ l. omega (arith, big, l, h); up_back = λ l. omega (arith, large, l, k); down = λ l. omega (arith, large, k); down_back = λ l. omega (arith, big, h) }

-- the power p, of an exponent that is cut at one whose power is above b
pub cut_power : (a s most p b : ℕ) → b < 10 ^ most → (s ≤ most → p ≡ 10 ^ s) → (most < s → p ≡ 10 ^ most) → SameOrder (a * 10 ^ s) b (a * p) b
cut_power a s most p b small short long = by (s - most) refl
  where
    by : (r : ℕ) → s - most ≡ r → SameOrder (a * 10 ^ s) b (a * p) b
    by zero is = let power_is : p ≡ 10 ^ s = short (omega arith) in same _ _ _ _ (ap (λ (q : ℕ). a * q) (sym power_is)) refl
    by (suc r) is =
        let past : most < s = omega arith in
        let power_is : p ≡ 10 ^ most = long past in
        let rises : 10 ^ most ≤ 10 ^ s = pow-le-pow_right (lit< tt) (omega arith) in
        let above : b < p = rw power_is small in
        cut a (10 ^ s) p b (omega (arith, small, rises)) above

-- the size a · 10^exp and b / 10^k are in the order of x and y
pub record OnScale (a : ℕ) (exp : ℤ) (b : ℕ) (k : ℕ) (x : ℕ) (y : ℕ) : Type 0 where
  pub below : (x ≤ y) ↔ (with_exponent (pos a) exp ≤ʳ decimal (pos b) k)
  pub above : (y ≤ x) ↔ (decimal (pos b) k ≤ʳ with_exponent (pos a) exp)

-- the cross products of the two
whole_scale : (a n b k x y : ℕ) → SameOrder (a * 10 ^ n * 10 ^ k) b x y → OnScale a (pos n) b k x y
whole_scale a n b k x y s = record {
  below = (λ h. omega (arith, ints, s.up_back h), λ h. s.up (omega (arith, ints, h)));
  above = (λ h. omega (arith, ints, s.down_back h), λ h. s.down (omega (arith, ints, h)));
}

part_scale : (a n b k x y : ℕ) → SameOrder (a * 10 ^ k) (b * 10 ^ suc n) x y → OnScale a (negsuc n) b k x y
part_scale a n b k x y s = record {
  below = (λ h. omega (arith, ints, s.up_back h), λ h. s.up (omega (arith, ints, h)));
  above = (λ h. omega (arith, ints, s.down_back h), λ h. s.down (omega (arith, ints, h)));
}

split_power : (a i j s : ℕ) → i + j ≡ s → a * 10 ^ s ≡ a * 10 ^ i * 10 ^ j
split_power a i j s is = ap (λ (n : ℕ). a * 10 ^ n) (sym is) ∙ (ap (λ (p : ℕ). a * p) (pow-add 10 i j) ∙ sym (mul_assoc a (10 ^ i) (10 ^ j)))

-- the exponents together are s ≥ 0
pub scale_up : (a : ℕ) (exp : ℤ) (b k s p : ℕ) → exp +ℤ pos k ≡ pos s → b < 10 ^ 10 → (s ≤ 10 → p ≡ 10 ^ s) → (10 < s → p ≡ 10 ^ 10) → OnScale a exp b k (a * p) b
scale_up a (pos n) b k s p is small short long =
    whole_scale a n b k _ b (joined _ _ (a * 10 ^ s) b _ _ (same _ _ _ _ (sym (split_power a n k s (omega (arith, ints, is)))) refl) (cut_power a s 10 p b small short long))
scale_up a (negsuc n) b k s p is small short long =
    part_scale a n b k _ b
    (joined _ _ (a * 10 ^ s * 10 ^ suc n) (b * 10 ^ suc n) _ _ (same _ _ _ _ (split_power a s (suc n) k (omega (arith, ints, is))) refl)
    (joined _ _ (a * 10 ^ s) b _ _ (factor_out (a * 10 ^ s) b (10 ^ suc n) (ten_to_pos (suc n))) (cut_power a s 10 p b small short long)))

-- the exponents together are -t < 0
pub scale_down : (a : ℕ) (exp : ℤ) (b k t p : ℕ) → exp +ℤ pos k ≡ neg_ℤ (pos t) → 0 < t → a < 10 ^ 20 → (t ≤ 20 → p ≡ 10 ^ t) → (20 < t → p ≡ 10 ^ 20) → OnScale a exp b k a (b * p)
scale_down a (pos n) b k t p is below small short long = absurd (omega (arith, ints, is))
scale_down a (negsuc n) b k t p is below small short long =
    part_scale a n b k a _
    (joined _ _ (a * 10 ^ k) (b * 10 ^ t * 10 ^ k) _ _ (same _ _ _ _ refl (split_power b t k (suc n) (omega (arith, ints, is))))
    (joined _ _ a (b * 10 ^ t) _ _ (factor_out a (b * 10 ^ t) (10 ^ k) (ten_to_pos k)) (turned _ _ _ _ (cut_power b t 20 p a small short long))))

-- the same, with the sizes and exponents that the code has
pub size_up : (d : Dec) (a b k s p : ℕ) → b < 10 ^ 10 → (s ≤ 10 → p ≡ 10 ^ s) → (10 < s → p ≡ 10 ^ 10) → a ≡ unsigned_abs d.mant
    → d.exp +ℤ pos k ≡ pos s → OnScale (unsigned_abs d.mant) d.exp b k (a * p) b
size_up d a b k s p small short long size is = rw size (scale_up (unsigned_abs d.mant) d.exp b k s p is small short long)

pub size_down : (d : Dec) (a b k t p : ℕ) → a < 10 ^ 20 → (t ≤ 20 → p ≡ 10 ^ t) → (20 < t → p ≡ 10 ^ 20) → a ≡ unsigned_abs d.mant
    → d.exp +ℤ pos k ≡ neg_ℤ (pos t) → 0 < t → OnScale (unsigned_abs d.mant) d.exp b k a (b * p)
size_down d a b k t p small short long size is below = rw size (scale_down (unsigned_abs d.mant) d.exp b k t p is below (rw (← size) small) short long)
