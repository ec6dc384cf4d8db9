-- A number with an exponent and its size.
use Rattle.std.proofs.Common.{◌≡◌, ℕ, zero, suc, ◌*◌, ◌^◌, ◌<◌, ◌≤◌, ◌↔◌, ℤ, pos, negsuc, ◌*ℤ◌, neg_ℤ, ◌≤ℤ◌, ◌<ℤ◌, unsigned_abs, refl, ap, arith, Some, None, Option, MatchOption, IfSome, IfNone}
use Rattle.std.proofs.lemmas.Int.{ints}
use Rattle.std.proofs.Math.Nat.{mul-pos, le_of_mul-le-mul_right}
use Rattle.whole_math.proofs.IntLaws.{neg_mul_ℤ}
use Rattle.whole_math.specs.Rational.{◌≤ʳ◌}
use Rattle.decimal_text.specs.declared.exponent.Dec.{Dec}
use Rattle.eph_store.specs.Decimals.{ten_to_pos, decimal, size_of, IsFromTo, IsWithin, IsWhole}
use Rattle.eph_store.proofs.Scales.{cut_power}

-- -c ≤ n ≤ c, with factors
between : (n : ℤ) (p c : ℕ) → (unsigned_abs n * p) ≤ c → (neg_ℤ (pos c) ≤ℤ (n *ℤ pos p)) × ((n *ℤ pos p) ≤ℤ pos c)
between (pos n) p c h = (omega (arith, ints), omega (arith, ints))
between (negsuc n) p c h = (omega (arith, ints), omega (arith, ints))

size_between : (n : ℤ) (p c : ℕ) → neg_ℤ (pos c) ≤ℤ (n *ℤ pos p) → (n *ℤ pos p) ≤ℤ pos c → (unsigned_abs n * p) ≤ c
size_between (pos n) p c h k = omega (arith, ints, h, k)
size_between (negsuc n) p c h k = omega (arith, ints, h, k)

neg_times : (b q : ℕ) → neg_ℤ (pos b) *ℤ pos q ≡ neg_ℤ (pos (b * q))
neg_times b q = neg_mul_ℤ (pos b) (pos q)

abs_times : (n : ℤ) (p : ℕ) → unsigned_abs (n *ℤ pos p) ≡ unsigned_abs n * p
abs_times (pos n) p = refl
abs_times (negsuc n) p = omega (arith, ints)

within_at : (bound places : ℕ) (m e : ℤ) → size_of (record { mant = m; exp = e }) ≤ʳ decimal (pos bound) places → IsWithin bound places (record { mant = m; exp = e })
within_at bound places m (pos n) h =
    let ends_between = between (m *ℤ pos (10 ^ n)) (10 ^ places) (bound * 1) (rw (abs_times m (10 ^ n)) (omega (arith, ints, h))) in
    record { low = rw (neg_times bound 1) ends_between.0; high = ends_between.1 }
within_at bound places m (negsuc n) h =
    let ends_between = between m (10 ^ places) (bound * 10 ^ suc n) (omega (arith, ints, h)) in
    record { low = rw (neg_times bound (10 ^ suc n)) ends_between.0; high = ends_between.1 }

pub within_of_size : (bound places : ℕ) (d : Dec) → size_of d ≤ʳ decimal (pos bound) places → IsWithin bound places d
within_of_size bound places d h = within_at bound places d.mant d.exp h

size_at : (bound places : ℕ) (m e : ℤ) → IsWithin bound places (record { mant = m; exp = e }) → size_of (record { mant = m; exp = e }) ≤ʳ decimal (pos bound) places
size_at bound places m (pos n) w =
    let size_at_most : (unsigned_abs (m *ℤ pos (10 ^ n)) * 10 ^ places) ≤ (bound * 1) = size_between (m *ℤ pos (10 ^ n)) (10 ^ places) (bound * 1) (rw (neg_times bound 1) at w.low) w.high in
    let size_of_product = abs_times m (10 ^ n) in
    omega (arith, ints, rw size_of_product at size_at_most)
size_at bound places m (negsuc n) w =
    let size_at_most : (unsigned_abs m * 10 ^ places) ≤ (bound * 10 ^ suc n) = size_between m (10 ^ places) (bound * 10 ^ suc n) (rw (neg_times bound (10 ^ suc n)) at w.low) w.high in
    omega (arith, ints, size_at_most)

pub size_of_within : (bound places : ℕ) (d : Dec) → IsWithin bound places d → size_of d ≤ʳ decimal (pos bound) places
size_of_within bound places d w = size_at bound places d.mant d.exp w

-- a number below 0 times a positive one is below 0
negative_product : (z : ℤ) (q : ℕ) → z <ℤ pos 0 → 0 < q → pos 0 ≤ℤ (z *ℤ pos q) → ⊥
negative_product (pos n) q neg some h = omega (arith, ints, neg)
negative_product (negsuc n) q neg some h = let product_positive : 0 < suc n * q = mul-pos (omega arith) some in omega (arith, ints, h, product_positive)

below_at : (least most : ℕ) (places : ℕ) (m e : ℤ) → m <ℤ pos 0 → IsFromTo (pos least) (pos most) places (record { mant = m; exp = e }) → ⊥
below_at least most places (pos m) e neg f = absurd (omega (arith, ints, neg))
below_at least most places (negsuc m) (pos n) neg f =
    let product_positive : 0 < suc m * 10 ^ n = mul-pos (omega arith) (ten_to_pos n) in
    let neg_value : (negsuc m *ℤ pos (10 ^ n)) <ℤ pos 0 = omega (arith, ints, product_positive) in
    negative_product (negsuc m *ℤ pos (10 ^ n)) (10 ^ places) neg_value (ten_to_pos places) (omega (arith, ints, f.low))
below_at least most places (negsuc m) (negsuc n) neg f =
    let product_positive : 0 < suc m * 10 ^ places = mul-pos (omega arith) (ten_to_pos places) in
    omega (arith, ints, f.low, product_positive)

-- a number below 0 is none of a range from 0 on
pub below_zero : (least most : ℕ) (places : ℕ) (d : Dec) → d.mant <ℤ pos 0 → IsFromTo (pos least) (pos most) places d → ⊥
below_zero least most places d neg f = below_at least most places d.mant d.exp neg f

below_whole_at : (n : ℕ) (m e : ℤ) → m <ℤ pos 0 → IsWhole (record { mant = m; exp = e }) n → ⊥
below_whole_at n (pos m) e neg is = absurd (omega (arith, ints, neg))
below_whole_at n (negsuc m) (pos k) neg is =
    let product_positive : 0 < suc m * 10 ^ k = mul-pos (omega arith) (ten_to_pos k) in
    omega (arith, ints, is, product_positive)
below_whole_at n (negsuc m) (negsuc k) neg is = omega (arith, ints, is)

-- nor a whole number from 0 on
pub below_whole : (n : ℕ) (d : Dec) → d.mant <ℤ pos 0 → IsWhole d n → ⊥
below_whole n d neg is = below_whole_at n d.mant d.exp neg is

whole_up_at : (a e p n : ℕ) → n < 10 ^ 10 → (e ≤ 10 → p ≡ 10 ^ e) → (10 < e → p ≡ 10 ^ 10) → (a * p ≡ n) ↔ IsWhole (record { mant = pos a; exp = pos e }) n
whole_up_at a e p n small short long =
    let same_order = cut_power a e 10 p n small short long in (
      λ h. let left_at_most = same_order.up_back (omega (arith, h)) in let right_at_most = same_order.down_back (omega (arith, h)) in let same_product : a * 10 ^ e * 1 ≡ n * 1 = omega (arith, left_at_most, right_at_most) in ap pos same_product,
      λ h. let same_value : a * 10 ^ e ≡ n = omega (arith, ints, h) in let times_at_most = same_order.up (omega (arith, same_value)) in let times_at_least = same_order.down (omega (arith, same_value)) in omega (arith, times_at_most, times_at_least),
    )

-- with an exponent from 0 on: the size times the power
pub whole_up : (d : Dec) (a e p n : ℕ) → n < 10 ^ 10 → (e ≤ 10 → p ≡ 10 ^ e) → (10 < e → p ≡ 10 ^ 10) → d.mant ≡ pos a → d.exp ≡ pos e → (a * p ≡ n) ↔ IsWhole d n
whole_up d a e p n small short long mant exp = rw (mant, exp) (whole_up_at a e p n small short long)

whole_down_at : (a x p n : ℕ) → a < 10 ^ 20 → (suc x ≤ 20 → p ≡ 10 ^ suc x) → (20 < suc x → p ≡ 10 ^ 20) → (n * p ≡ a) ↔ IsWhole (record { mant = pos a; exp = negsuc x }) n
whole_down_at a x p n small short long =
    let same_order = cut_power n (suc x) 20 p a small short long in (
      λ h. let left_at_most = same_order.up_back (omega (arith, h)) in let right_at_most = same_order.down_back (omega (arith, h)) in let same_product : a * 1 ≡ n * 10 ^ suc x = omega (arith, left_at_most, right_at_most) in ap pos same_product,
      λ h. let same_value : n * 10 ^ suc x ≡ a = omega (arith, ints, h) in let times_at_most = same_order.up (omega (arith, same_value)) in let times_at_least = same_order.down (omega (arith, same_value)) in omega (arith, times_at_most, times_at_least),
    )

-- with an exponent below 0: what times the power is the size
pub whole_down : (d : Dec) (a e p n : ℕ) → a < 10 ^ 20 → (e ≤ 20 → p ≡ 10 ^ e) → (20 < e → p ≡ 10 ^ 20) → 0 < e → d.mant ≡ pos a → d.exp ≡ neg_ℤ (pos e) → (n * p ≡ a) ↔ IsWhole d n
whole_down d a zero p n small short long below mant exp = absurd (omega arith)
whole_down d a (suc x) p n small short long below mant exp = rw (mant, exp) (whole_down_at a x p n small short long)

-- none where no whole number times p is a; else the one m
pub whole_none : (d : Dec) (r : Option ℕ) (a p : ℕ) → ((n : ℕ) → (n * p ≡ a) ↔ IsWhole d n) → MatchOption r ((n : ℕ) → n * p ≡ a → ⊥) (λ n. n * p ≡ a)
    → IfNone r ((n : ℕ) → n < 2 ^ 32 → IsWhole d n → ⊥)
whole_none d None a p same h = λ n small is. h n ((same n).1 is)
whole_none d (Some m) a p same h = tt

pub whole_some : (d : Dec) (r : Option ℕ) (a p : ℕ) → 0 < p → ((n : ℕ) → (n * p ≡ a) ↔ IsWhole d n)
    → MatchOption r ((n : ℕ) → n * p ≡ a → ⊥) (λ n. n * p ≡ a) → IfSome r (λ m. (n : ℕ) → n < 2 ^ 32 → (m ≡ n) ↔ IsWhole d n)
whole_some d None a p some same h = tt
whole_some d (Some m) a p some same h = λ n small. (
  λ e. (same n).0 (rw (← e) h),
  λ is. let product_is : n * p ≡ a = (same n).1 is in
      let left_at_most : m ≤ n = le_of_mul-le-mul_right (omega (arith, product_is, h)) some in
      let right_at_most : n ≤ m = le_of_mul-le-mul_right (omega (arith, product_is, h)) some in
      omega (arith, left_at_most, right_at_most),
)
