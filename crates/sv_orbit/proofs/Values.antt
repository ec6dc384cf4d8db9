-- What the boxes of decimal numbers hold, and the sizes of these numbers.
use Rattle.std.proofs.Common.{◌≡◌, ℕ, ◌*◌, ◌^◌, List, [], ◌∷◌, ℤ, pos, ◌-ℤ◌, ◌*ℤ◌, neg_ℤ, ◌≤ℤ◌, arith, refl, lit≤, suc, negsuc, ap, ◌∙◌, sym}
use Rattle.std.proofs.lemmas.Int.{ints}
use Rattle.whole_math.proofs.IntLaws.{neg_mul_ℤ, zero_mul_ℤ}
use Rattle.whole_math.proofs.Ring.{Ex, va, ko, ◌⊕◌, ◌⊖◌, ◌⊗◌, ng}
use Rattle.whole_math.proofs.Order.{lins, le_pos, mul_nn}
use Rattle.whole_math.proofs.Inequalities.{same_by, nat, pos_nn}
use Rattle.whole_math.proofs.Certificates.{◌≼◌, hy, nm, ◌⊞◌, ◌⊠◌}
use Rattle.decimal_text.specs.declared.exponent.Dec.{Dec}
use Rattle.whole_math.specs.Rational.{Rational, ◌≈◌, ◌≤ʳ◌, of_whole, ◌+ʳ◌, ◌-ʳ◌, ◌*ʳ◌, times}
use Rattle.whole_math.specs.Boxes.{of_scale, IsRatio}
use Rattle.whole_math.proofs.RationalLaws.{≤ʳ_trans, ≤ʳ_from_same}
use Rattle.whole_math.proofs.RationalOrders.{order_r, equal_r, ◌≐◌}
use Rattle.whole_math.proofs.Ends.{low_end}
use Rattle.iv_core.specs.declared.Iv.{Iv}
use Rattle.iv_core.specs.Intervals.{Holds, width_of}
use Rattle.eph_store.specs.Decimals.{decimal, value_of, IsFromTo, IsWithin, with_exponent}
use Rattle.orbit_model.specs.Elements.{Elements, sent_at, seconds}
use Rattle.sv_orbit.specs.ClockTerms.{per_ten_thousand, correction}
use Rattle.sv_orbit.specs.LeastBoxes.{IsLeastBox}

pub zero_value : (d : Dec) → d.mant ≡ pos 0 → value_of d ≈ of_whole (pos 0)
zero_value d e = go d.mant d.exp e
  where
    go : (m x : ℤ) → m ≡ pos 0 → with_exponent m x ≈ of_whole (pos 0)
    go m (pos n) e = ap (λ (z : ℤ). (z *ℤ pos (10 ^ n)) *ℤ pos 1) e ∙ ap (λ (z : ℤ). z *ℤ pos 1) (zero_mul_ℤ (pos (10 ^ n)))
    go m (negsuc n) e = ap (λ (z : ℤ). z *ℤ pos 1) e ∙ sym (zero_mul_ℤ (pos (10 ^ suc n)))

-- 10^0 q is q
pub own_value : (q : Rational) → q ≈ times (10 ^ 0) q
own_value q = same_by (q.num ∷ pos q.den ∷ []) (λ a d. (a ⊗ d, nat 1 ⊗ a ⊗ d)) refl

pub holds_own : (k : ℕ) (b : Iv k) (q : Rational) → IsLeastBox b (times (10 ^ 0) q) → Holds b q
holds_own k b q l = l.holds q (own_value q)

-- ---- sizes
pub from_to_within : (least most places : ℕ) (d : Dec) → IsFromTo (pos least) (pos most) places d → IsWithin most places d
from_to_within least most places d f = record {
  low = step ((pos least) *ℤ pos (value_of d).den) ((value_of d).num *ℤ pos (10 ^ places)) (pos most *ℤ pos (value_of d).den)
      (neg_ℤ (pos most) *ℤ pos (value_of d).den) (mul_nn (pos least) (pos (value_of d).den) (pos_nn least) (pos_nn (value_of d).den))
      (mul_nn (pos most) (pos (value_of d).den) (pos_nn most) (pos_nn (value_of d).den)) (neg_mul_ℤ (pos most) (pos (value_of d).den)) f.low;
  high = f.high;
}
  where
    step : (l v m n : ℤ) → pos 0 ≤ℤ l → pos 0 ≤ℤ m → n ≡ neg_ℤ m → l ≤ℤ v → n ≤ℤ v
    step l v m n h k e g = omega (arith, lins)

-- a number from 0 on has a box from 0 on
pub low_of_nn : (k places : ℕ) (b : Iv k) (q : Rational) → decimal (pos 0) places ≤ʳ q → IsLeastBox b (times (10 ^ 0) q) → pos 0 ≤ℤ b.lo
low_of_nn k places b q h l =
    let shifted : Rational = times (10 ^ 0) q in
    let own = l.holds shifted refl in
    let from : of_scale k (pos 0) ≤ʳ shifted =
    ≤ʳ_trans (of_scale k (pos 0)) (decimal (pos 0) places) shifted
    (zeros (2 ^ k) (10 ^ places)) (≤ʳ_trans (decimal (pos 0) places) q shifted h (≤ʳ_from_same q shifted (own_value q))) in
    (l.least (pos 0) b.hi (from, own.1)).0
  where
    zeros : (m n : ℕ) → (pos 0 *ℤ pos n) ≤ℤ (pos 0 *ℤ pos m)
    zeros m n = omega (arith, ints)

-- 4500² ≤ a² and 4500³ ≤ a³
pub square_least : (a : Rational) → of_whole (pos 4500) ≤ʳ a → of_whole (pos 20250000) ≤ʳ a *ʳ a
square_least a h = order_r (a ∷ []) ((ko (pos 4500) ≼ va 0) ∷ []) [] (ko (pos 20250000)) (va 0 ⊗ va 0) (hy 0 ⊠ hy 0 ⊞ nm 9000 ⊠ hy 0) [] refl (h, tt) tt

pub axis_least : (b : Iv 36) (a : Rational) → of_whole (pos 4500) ≤ʳ a → Holds b (a *ʳ a) → width_of b ≤ℤ pos 4 → pos (20249999 * 2 ^ 36) ≤ℤ b.lo
axis_least b a h i w = step (low_end 36 b.lo b.hi (pos 4) (pos (20250000 * 2 ^ 36)) (a *ʳ a) w
    (≤ʳ_trans (of_scale 36 (pos (20250000 * 2 ^ 36))) (of_whole (pos 20250000)) (a *ʳ a) (le_pos _ _ (lit≤ tt)) (square_least a h)) i)
  where
    step : (pos (20250000 * 2 ^ 36) -ℤ pos 4) ≤ℤ b.lo → pos (20249999 * 2 ^ 36) ≤ℤ b.lo
    step l = omega (arith, ints)

pub cube_least : (b : Iv 24) (a : Rational) → of_whole (pos 4500) ≤ʳ a → Holds b (a *ʳ a *ʳ a) → width_of b ≤ℤ pos 10 → pos (91124999999 * 2 ^ 24) ≤ℤ b.lo
cube_least b a h i w = step (low_end 24 b.lo b.hi (pos 10) (pos (91125000000 * 2 ^ 24)) (a *ʳ a *ʳ a) w
    (≤ʳ_trans (of_scale 24 (pos (91125000000 * 2 ^ 24))) (of_whole (pos 91125000000)) (a *ʳ a *ʳ a) (le_pos _ _ (lit≤ tt)) product) i)
  where
    product : of_whole (pos 91125000000) ≤ʳ a *ʳ a *ʳ a
    product = order_r (a ∷ a *ʳ a ∷ []) ((ko (pos 4500) ≼ va 0) ∷ (ko (pos 20250000) ≼ va 1) ∷ []) [] (ko (pos 91125000000)) (va 1 ⊗ va 0)
        (hy 1 ⊠ hy 0 ⊞ nm 4500 ⊠ hy 1 ⊞ nm 20250000 ⊠ hy 0) [] refl (h, (square_least a h, tt)) tt

    step : (pos (91125000000 * 2 ^ 24) -ℤ pos 10) ≤ℤ b.lo → pos (91124999999 * 2 ^ 24) ≤ℤ b.lo
    step l = omega (arith, ints)

-- ---- 10^4 n: what 10^4 times the root of μ over A √A is, and what Δn adds
-- the product by a whole number
pub times_is : (n : ℕ) (q : Rational) → times n q ≈ of_whole (pos n) *ʳ q
times_is n q = same_by (pos n ∷ q.num ∷ pos q.den ∷ []) (λ n a d. (n ⊗ a ⊗ (nat 1 ⊗ d), n ⊗ a ⊗ d)) refl

pub scaled_motion : (n0 axis a r : Rational) → n0 *ʳ (axis *ʳ a) ≈ r → times 10000 n0 *ʳ (axis *ʳ a) ≈ r *ʳ of_whole (pos 10000)
scaled_motion n0 axis a r h =
    equal_r (times 10000 n0 ∷ n0 ∷ axis ∷ a ∷ r ∷ []) ((va 0 ≐ ko (pos 10000) ⊗ va 1) ∷ (va 1 ⊗ (va 2 ⊗ va 3) ≐ va 4) ∷ []) ((va 2 ⊗ va 3) ∷ ko (pos 10000) ∷ [])
    (va 0 ⊗ (va 2 ⊗ va 3)) (va 4 ⊗ ko (pos 10000)) refl (times_is 10000 n0, (h, tt))

pub scaled_sum : (n n0 dn : Rational) → n ≈ n0 +ʳ dn → times 10000 n0 +ʳ times 10000 dn ≈ times 10000 n
scaled_sum n n0 dn h =
    equal_r (times 10000 n0 ∷ times 10000 dn ∷ times 10000 n ∷ n0 ∷ dn ∷ n ∷ [])
    ((va 0 ≐ ko (pos 10000) ⊗ va 3) ∷ (va 1 ≐ ko (pos 10000) ⊗ va 4) ∷ (va 2 ≐ ko (pos 10000) ⊗ va 5) ∷ (va 5 ≐ va 3 ⊕ va 4) ∷ [])
    (ko (pos 1) ∷ ko (pos 1) ∷ ng (ko (pos 1)) ∷ ng (ko (pos 10000)) ∷ []) (va 0 ⊕ va 1) (va 2) refl (times_is 10000 n0, (times_is 10000 dn, (times_is 10000 n, (h, tt))))

-- 10^4 times a 10^4th
pub per_ten_thousand_is : (x : Rational) → per_ten_thousand x *ʳ of_whole (pos 10000) ≈ x
per_ten_thousand_is x = same_by (x.num ∷ pos x.den ∷ []) (λ a d. (a ⊗ nat 10000 ⊗ d, a ⊗ (nat 10000 ⊗ d ⊗ nat 1))) refl

-- (tag - epoch) - code / c, over 10^4 s
pub sent_ratio : (t e : ℕ) (code n d : ℤ) → n ≡ (pos t -ℤ pos e) *ℤ pos 149896229 -ℤ code *ℤ pos 5000 → d ≡ pos 14989622900000000000 → IsRatio (per_ten_thousand (sent_at t code -ʳ seconds e)) n d
sent_ratio t e code n d f g = rw (f, g)
    (same_by (pos t ∷ pos e ∷ code ∷ []) (λ t e k. (
      ((t ⊗ nat 149896229 ⊖ k ⊗ nat 5000) ⊗ nat 10000000 ⊖ e ⊗ nat 1498962290000000) ⊗ nat 14989622900000000000,
      ((t ⊖ e) ⊗ nat 149896229 ⊖ k ⊗ nat 5000) ⊗ (nat 10000 ⊗ (nat 1498962290000000 ⊗ nat 10000000)),
    )) refl)

-- the correction by steps: with the time over 10^4, the drift times 10^4 and the aging times 10^8
abbrev pub stepped : Rational → Rational → Rational → Rational → Rational → Rational
stepped bias drift aging time effect = bias +ʳ time *ʳ (drift +ʳ aging *ʳ time) +ʳ effect

pub correction_is : (eph : Elements) (sent x y : Rational) →
    stepped eph.af0 (times (10 ^ 4) eph.af1) (times (10 ^ 8) eph.af2) (per_ten_thousand (sent -ʳ eph.toc) -ʳ per_ten_thousand x) y ≈ correction eph sent x y
correction_is eph sent x y =
    let values : List Rational = eph.af0 ∷ eph.af1 ∷ eph.af2 ∷ sent ∷ eph.toc ∷ x ∷ y ∷ per_ten_thousand (sent -ʳ eph.toc) ∷ per_ten_thousand x ∷ times (10 ^ 4) eph.af1 ∷ times (10 ^ 8) eph.af2 ∷ [] in
    let time : Ex = va 7 ⊖ va 8 in
    let since : Ex = (va 3 ⊖ va 5) ⊖ va 4 in
    let slope : Ex = va 1 ⊕ va 2 ⊗ (ko (pos 10000) ⊗ time ⊕ since) in
    equal_r values ((va 7 ⊗ ko (pos 10000) ≐ va 3 ⊖ va 4) ∷ (va 8 ⊗ ko (pos 10000) ≐ va 5) ∷ (va 9 ≐ ko (pos 10000) ⊗ va 1) ∷ (va 10 ≐ ko (pos 100000000) ⊗ va 2) ∷ [])
    (slope ∷ ng slope ∷ time ∷ (time ⊗ time) ∷ [])
    ((va 0 ⊕ time ⊗ (va 9 ⊕ va 10 ⊗ time)) ⊕ va 6) (((va 0 ⊕ va 1 ⊗ since) ⊕ va 2 ⊗ (since ⊗ since)) ⊕ va 6) refl
    (per_ten_thousand_is (sent -ʳ eph.toc), (per_ten_thousand_is x, (times_is (10 ^ 4) eph.af1, (times_is (10 ^ 8) eph.af2, tt))))

-- 10^4 F in 10^-15, where F is in 10^-19
pub factor_ratio : (rel n d : ℤ) → n ≡ rel → d ≡ pos 1000000000000000 → IsRatio (times (10 ^ 4) (decimal rel 19)) n d
factor_ratio rel n d f g = rw (f, g) (same_by (rel ∷ []) (λ r. (nat 10000 ⊗ r ⊗ nat 1000000000000000, r ⊗ nat 10000000000000000000)) refl)

pub relativity_is : (f e a : Rational) → f *ʳ e *ʳ a *ʳ of_whole (pos 10000) ≈ times (10 ^ 4) f *ʳ a *ʳ e
relativity_is f e a = equal_r (f ∷ e ∷ a ∷ times (10 ^ 4) f ∷ []) ((va 3 ≐ ko (pos 10000) ⊗ va 0) ∷ []) (ng (va 2 ⊗ va 1) ∷ [])
    (((va 0 ⊗ va 1) ⊗ va 2) ⊗ ko (pos 10000)) ((va 3 ⊗ va 2) ⊗ va 1) refl (times_is (10 ^ 4) f, tt)
