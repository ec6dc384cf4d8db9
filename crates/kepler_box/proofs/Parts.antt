-- What the functions of the code need.
use Rattle.std.proofs.Common.{◌≡◌, ◌*◌, ◌^◌, ◌≤◌, ℤ, pos, ◌+ℤ◌, ◌-ℤ◌, ◌*ℤ◌, neg_ℤ, ◌≤ℤ◌, ◌<ℤ◌, inl, inr, arith, sym, subst, refl, lit<, unsigned_abs}
use Rattle.std.proofs.Common.{to_z, of_z}
use Rattle.std.proofs.lemmas.Int.{ints}
use Rattle.std.specs.Int.{w64}
use Rattle.whole_math.proofs.Order.{lins, mul_le_right, abs_mul_le, lt_pos}
use Rattle.whole_math.proofs.Certificates.{weak}
use Rattle.whole_math.specs.Rounding.{floor_div, ceil_div}
use Rattle.whole_math.proofs.Rounding.{floor_le, lt_floor, floor_greatest, ceil_least}
use Rattle.whole_math.specs.Rational.{Rational, InBox}
use Rattle.whole_math.specs.Boxes.{of_scale}
use Rattle.trig_box.specs.AnglePairs.{IsAnglePair, InRange}
use Rattle.trig_box.proofs.PairLaws.{canonical_is_pair}
use Rattle.kepler_box.specs.Steps.{IsStep, AreNear}
use Rattle.iv_core.specs.Boxes.{least_corner, most_corner, Past}
use Rattle.whole_math.proofs.Extremes.{least_case, most_case}
use Rattle.whole_math.proofs.Inequalities.{le_refl_ℤ, le_trans_ℤ}
use Rattle.kepler_box.proofs.Steps.{in_range, size_of}
use Rattle.kepler_box.proofs.PartCertificates.{corner_high, corner_low}

-- ---- results that are no refusals

corner_size : (e s : ℤ) → pos 0 ≤ℤ e → e ≤ℤ pos (2 ^ 55) → unsigned_abs s ≤ 2 ^ 61 → (neg_ℤ (pos (2 ^ 116)) ≤ℤ (e *ℤ s)) × ((e *ℤ s) ≤ℤ pos (2 ^ 116))
corner_size e s h k l = go (e *ℤ s) (abs_mul_le e s (2 ^ 55) (2 ^ 61) (size_of e h k) l)
  where
    go : (z : ℤ) → unsigned_abs z ≤ 2 ^ 55 * 2 ^ 61 → (neg_ℤ (pos (2 ^ 116)) ≤ℤ z) × (z ≤ℤ pos (2 ^ 116))
    go z h = (omega (arith, ints), omega (arith, ints))

pub record IsSizedProduct (p q a b : ℤ) : Type 0 where
  pub e_low : pos 0 ≤ℤ p
  pub e_high : q ≤ℤ pos (2 ^ 55)
  pub ordered : p ≤ℤ q
  pub a_size : unsigned_abs a ≤ 2 ^ 61
  pub b_size : unsigned_abs b ≤ 2 ^ 61

-- the ends of the product, in units of 2^-56
pub product_ends : (p q a b : ℤ) → IsSizedProduct p q a b → (neg_ℤ (pos (2 ^ 52)) ≤ℤ floor_div (least_corner p q a b) (2 ^ 64)) × (ceil_div (most_corner p q a b) (2 ^ 64) ≤ℤ pos (2 ^ 52))
product_ends p q a b h =
    let p_at_most_limit = le_trans_ℤ h.ordered h.e_high in
    let q_not_negative = le_trans_ℤ h.e_low h.ordered in
    let pa_between = corner_size p a h.e_low p_at_most_limit h.a_size in
    let pb_between = corner_size p b h.e_low p_at_most_limit h.b_size in
    let qa_between = corner_size q a q_not_negative h.e_high h.a_size in
    let qb_between = corner_size q b q_not_negative h.e_high h.b_size in (
      floor_greatest (least_corner p q a b) (neg_ℤ (pos (2 ^ 52))) (2 ^ 64) (lit< tt) (least_case (λ z. neg_ℤ (pos (2 ^ 116)) ≤ℤ z) (p *ℤ a) (p *ℤ b) (q *ℤ a) (q *ℤ b) pa_between.0 pb_between.0 qa_between.0 qb_between.0),
      ceil_least (most_corner p q a b) (pos (2 ^ 52)) (2 ^ 64) (lit< tt) (most_case (λ z. z ≤ℤ pos (2 ^ 116)) (p *ℤ a) (p *ℤ b) (q *ℤ a) (q *ℤ b) pa_between.1 pb_between.1 qa_between.1 qb_between.1),
    )

pub product_fits : (p q a b : ℤ) → IsSizedProduct p q a b → Past (floor_div (least_corner p q a b) (2 ^ 64)) (ceil_div (most_corner p q a b) (2 ^ 64)) → ⊥
product_fits p q a b h = let ends_fit = product_ends p q a b h in go (floor_div (least_corner p q a b) (2 ^ 64)) (ceil_div (most_corner p q a b) (2 ^ 64)) ends_fit.0 ends_fit.1
  where
    go : (l h : ℤ) → neg_ℤ (pos (2 ^ 52)) ≤ℤ l → h ≤ℤ pos (2 ^ 52) → Past l h → ⊥
    go l h i j (inl k) = omega (arith, ints)
    go l h i j (inr k) = omega (arith, ints)

pub sum_fits : (p q a b ml mh pl ph : ℤ) → IsSizedProduct p q a b → neg_ℤ (pos (12 * 2 ^ 56)) ≤ℤ ml → mh ≤ℤ pos (12 * 2 ^ 56)
    → pl ≡ floor_div (least_corner p q a b) (2 ^ 64) → ph ≡ ceil_div (most_corner p q a b) (2 ^ 64) → Past (ml +ℤ pl) (mh +ℤ ph) → ⊥
sum_fits p q a b ml mh pl ph h m0 m1 el eh = let ends_fit = product_ends p q a b h in go ml mh pl ph m0 m1 (subst (λ z. neg_ℤ (pos (2 ^ 52)) ≤ℤ z) (sym el) ends_fit.0) (subst (λ z. z ≤ℤ pos (2 ^ 52)) (sym eh) ends_fit.1)
  where
    go : (m n l h : ℤ) → neg_ℤ (pos (12 * 2 ^ 56)) ≤ℤ m → n ≤ℤ pos (12 * 2 ^ 56) → neg_ℤ (pos (2 ^ 52)) ≤ℤ l → h ≤ℤ pos (2 ^ 52) → Past (m +ℤ l) (n +ℤ h) → ⊥
    go m n l h m0 n0 i j (inl k) = omega (arith, ints)
    go m n l h m0 n0 i j (inr k) = omega (arith, ints)

-- ---- boxes

pub widen : (a b l h : ℤ) (s : Rational) → a ≤ℤ l → h ≤ℤ b → InBox 60 l h s → InBox 60 a b s
widen a b l h s i j k = (
  le_trans_ℤ (mul_le_right (pos s.den) a l (den_nn s) i) k.0,
  le_trans_ℤ k.1 (mul_le_right (pos s.den) h b (den_nn s) j),
)
  where
    den_nn : (s : Rational) → pos 0 ≤ℤ pos s.den
    den_nn s = weak (pos 0) (pos s.den) (lt_pos 0 s.den s.positive)

-- ---- a step from a box of the sine
pub record IsSineBox (x a b : ℤ) : Type 0 where
  pub holds : (c s : Rational) → IsAnglePair 5 (of_scale 56 x) c s → InBox 60 a b s
  pub ordered : a ≤ℤ b
  pub narrow : (b -ℤ a) ≤ℤ pos 512
  pub a_size : unsigned_abs a ≤ 2 ^ 61
  pub b_size : unsigned_abs b ≤ 2 ^ 61

pub step_is : (m e x a b t next : ℤ) → IsSineBox x a b → a ≤ℤ t → t ≤ℤ b → (t -ℤ a) ≤ℤ pos 256 → (b -ℤ t) ≤ℤ pos 256 → next ≡ m +ℤ floor_div (e *ℤ t) (2 ^ 64) → IsStep m e x next
step_is m e x a b t next h at tb ta bt n = record {
  sine = t;
  size = size a b t h.a_size h.b_size at tb;
  near = λ c s k. widen (t -ℤ pos 256) (t +ℤ pos 256) a b s (below a t ta) (above b t bt) (h.holds c s (canonical_is_pair 5 (of_scale 56 x) c s k));
  next_is = n;
}
  where
    size : (a b t : ℤ) → unsigned_abs a ≤ 2 ^ 61 → unsigned_abs b ≤ 2 ^ 61 → a ≤ℤ t → t ≤ℤ b → unsigned_abs t ≤ 2 ^ 61
    size a b t h k i j = omega (arith, ints)

    below : (a t : ℤ) → (t -ℤ a) ≤ℤ pos 256 → (t -ℤ pos 256) ≤ℤ a
    below a t h = omega (arith, lins)

    above : (b t : ℤ) → (b -ℤ t) ≤ℤ pos 256 → b ≤ℤ (t +ℤ pos 256)
    above b t h = omega (arith, lins)

pub halves : (a b t n k : ℤ) → (b -ℤ a) ≤ℤ (n +ℤ n) → (t -ℤ a) ≤ℤ (b -ℤ t) → ((b -ℤ t) +ℤ (b -ℤ t)) ≤ℤ ((b -ℤ a) +ℤ pos 1) → ((t -ℤ a) ≤ℤ n) × ((b -ℤ t) ≤ℤ n)
halves a b t n k h i j = (omega (arith, ints), omega (arith, ints))

-- ---- casts
pub plain_sum : (a b : ℤ) → neg_ℤ (pos (13 * 2 ^ 56)) ≤ℤ a → a ≤ℤ pos (13 * 2 ^ 56) → neg_ℤ (pos (2 ^ 52)) ≤ℤ b → b ≤ℤ pos (2 ^ 52)
    → to_z w64 (of_z w64 (to_z w64 (of_z w64 a) +ℤ to_z w64 (of_z w64 b))) ≡ a +ℤ b
plain_sum a b h k i j = omega (arith, ints)

pub inside : (x : ℤ) → neg_ℤ (pos (13 * 2 ^ 56)) ≤ℤ x → x ≤ℤ pos (13 * 2 ^ 56) → InRange 5 (of_scale 56 x)
inside x h k = in_range x (low x h) (high x k)
  where
    low : (x : ℤ) → neg_ℤ (pos (13 * 2 ^ 56)) ≤ℤ x → neg_ℤ (pos (2 ^ 60)) ≤ℤ x
    low x h = omega (arith, ints)

    high : (x : ℤ) → x ≤ℤ pos (13 * 2 ^ 56) → x ≤ℤ pos (2 ^ 60)
    high x h = omega (arith, ints)

pub wider_low : (m : ℤ) → neg_ℤ (pos (12 * 2 ^ 56)) ≤ℤ m → neg_ℤ (pos (13 * 2 ^ 56)) ≤ℤ m
wider_low m h = omega (arith, ints)

pub wider_high : (m : ℤ) → m ≤ℤ pos (12 * 2 ^ 56) → m ≤ℤ pos (13 * 2 ^ 56)
wider_high m h = omega (arith, ints)

-- ---- the residual

pub record IsReached (ml mh el eh m x a b fl fh : ℤ) : Type 0 where
  pub sized : IsSizedProduct el eh a b
  pub e_narrow : (eh -ℤ el) ≤ℤ pos 2
  pub sine : IsSineBox x a b
  pub m_below : (m -ℤ ml) ≤ℤ pos 8
  pub m_above : (mh -ℤ m) ≤ℤ pos 8
  pub settled : (next : ℤ) → IsStep m el x next → AreNear (pos 3) next x
  pub lo_is : fl ≡ ml +ℤ floor_div (least_corner el eh a b) (2 ^ 64)
  pub hi_is : fh ≡ mh +ℤ ceil_div (most_corner el eh a b) (2 ^ 64)

pub residual : (ml mh el eh m x a b fl fh : ℤ) → IsReached ml mh el eh m x a b fl fh → ((fh -ℤ x) ≤ℤ pos 14) × ((x -ℤ fl) ≤ℤ pos 14)
residual ml mh el eh m x a b fl fh r =
    let t : ℤ = floor_div (a +ℤ b) 2 in
    let mid = middle a b t (floor_le (a +ℤ b) 2 (lit< tt)) (lt_floor (a +ℤ b) 2 (lit< tt)) r.sine.ordered r.sine.narrow in
    let z : ℤ = floor_div (el *ℤ t) (2 ^ 64) in
    let floor_at_most = floor_le (el *ℤ t) (2 ^ 64) (lit< tt) in
    let below_next = lt_floor (el *ℤ t) (2 ^ 64) (lit< tt) in
    let next_is_near = r.settled (m +ℤ z) (step_is m el x a b t (m +ℤ z) r.sine mid.0 mid.1 mid.2 mid.3 refl) in
    let low_at_most_limit = le_trans_ℤ r.sized.ordered r.sized.e_high in
    let sizes_within = sizes a b r.sized.a_size r.sized.b_size in
    let own = apart_self el in
    let low_at_low = le_refl_ℤ el in
    let most : most_corner el eh a b ≤ℤ ((el *ℤ t) +ℤ pos 18446744073709551616) = most_case (λ (y : ℤ). y ≤ℤ ((el *ℤ t) +ℤ pos 18446744073709551616)) (el *ℤ a) (el *ℤ b) (eh *ℤ a) (eh *ℤ b)
    (corner_high el eh el t a (under a t mid.0) own low_at_low r.sized.e_low low_at_most_limit sizes_within.1) (corner_high el eh el t b mid.3 own low_at_low r.sized.e_low low_at_most_limit sizes_within.3)
    (corner_high eh eh el t a (under a t mid.0) r.e_narrow r.sized.ordered r.sized.e_low low_at_most_limit sizes_within.1) (corner_high eh eh el t b mid.3 r.e_narrow r.sized.ordered r.sized.e_low low_at_most_limit sizes_within.3) in
    let least : ((el *ℤ t) -ℤ pos 18446744073709551616) ≤ℤ least_corner el eh a b = least_case (λ (y : ℤ). ((el *ℤ t) -ℤ pos 18446744073709551616) ≤ℤ y) (el *ℤ a) (el *ℤ b) (eh *ℤ a) (eh *ℤ b)
    (corner_low el eh el t a mid.2 own low_at_low r.sized.e_low low_at_most_limit sizes_within.0) (corner_low el eh el t b (under t b mid.1) own low_at_low r.sized.e_low low_at_most_limit sizes_within.2)
    (corner_low eh eh el t a mid.2 r.e_narrow r.sized.ordered r.sized.e_low low_at_most_limit sizes_within.0) (corner_low eh eh el t b (under t b mid.1) r.e_narrow r.sized.ordered r.sized.e_low low_at_most_limit sizes_within.2) in
    let ceil_at_most = ceil_least (most_corner el eh a b) (z +ℤ pos 2) (2 ^ 64) (lit< tt) (two_up (most_corner el eh a b) (el *ℤ t) z most below_next) in
    let down = floor_greatest (least_corner el eh a b) (z -ℤ pos 1) (2 ^ 64) (lit< tt) (one_down (least_corner el eh a b) (el *ℤ t) z least floor_at_most) in
    (above m z x mh fh (ceil_div (most_corner el eh a b) (2 ^ 64)) r.hi_is ceil_at_most next_is_near.0 r.m_above, below m z x ml fl (floor_div (least_corner el eh a b) (2 ^ 64)) r.lo_is down next_is_near.1 r.m_below)
  where
    middle : (a b t : ℤ) → (t *ℤ pos 2) ≤ℤ (a +ℤ b) → (a +ℤ b) <ℤ ((t *ℤ pos 2) +ℤ pos 2) → a ≤ℤ b → (b -ℤ a) ≤ℤ pos 512 → (a ≤ℤ t) × (t ≤ℤ b) × ((t -ℤ a) ≤ℤ pos 256) × ((b -ℤ t) ≤ℤ pos 256)
    middle a b t h k i j = (omega (arith, ints), omega (arith, ints), omega (arith, ints), omega (arith, ints))

    apart_self : (a : ℤ) → (a -ℤ a) ≤ℤ pos 2
    apart_self a = omega (arith, lins)

    under : (a t : ℤ) → a ≤ℤ t → (a -ℤ t) ≤ℤ pos 256
    under a t h = omega (arith, lins)

    sizes : (a b : ℤ) → unsigned_abs a ≤ 2 ^ 61 → unsigned_abs b ≤ 2 ^ 61 → ((pos 0 -ℤ pos (2 ^ 61)) ≤ℤ a) × (a ≤ℤ pos (2 ^ 61)) × ((pos 0 -ℤ pos (2 ^ 61)) ≤ℤ b) × (b ≤ℤ pos (2 ^ 61))
    sizes a b h k = (omega (arith, ints), omega (arith, ints), omega (arith, ints), omega (arith, ints))

    two_up : (y p z : ℤ) → y ≤ℤ (p +ℤ pos 18446744073709551616) → p <ℤ ((z *ℤ pos 18446744073709551616) +ℤ pos 18446744073709551616) → y ≤ℤ ((z +ℤ pos 2) *ℤ pos 18446744073709551616)
    two_up y p z h k = omega (arith, ints)

    one_down : (y p z : ℤ) → (p -ℤ pos 18446744073709551616) ≤ℤ y → (z *ℤ pos 18446744073709551616) ≤ℤ p → ((z -ℤ pos 1) *ℤ pos 18446744073709551616) ≤ℤ y
    one_down y p z h k = omega (arith, ints)

    above : (m z x mh fh c : ℤ) → fh ≡ mh +ℤ c → c ≤ℤ (z +ℤ pos 2) → ((m +ℤ z) -ℤ x) ≤ℤ pos 3 → (mh -ℤ m) ≤ℤ pos 8 → (fh -ℤ x) ≤ℤ pos 14
    above m z x mh fh c e h k l = omega (arith, lins)

    below : (m z x ml fl c : ℤ) → fl ≡ ml +ℤ c → (z -ℤ pos 1) ≤ℤ c → (x -ℤ (m +ℤ z)) ≤ℤ pos 3 → (m -ℤ ml) ≤ℤ pos 8 → (x -ℤ fl) ≤ℤ pos 14
    below m z x ml fl c e h k l = omega (arith, lins)

-- ---- the answer
pub plain_low : (x r : ℤ) → neg_ℤ (pos (13 * 2 ^ 56)) ≤ℤ x → x ≤ℤ pos (13 * 2 ^ 56) → pos 0 ≤ℤ r → r ≤ℤ pos 17 → to_z w64 (of_z w64 (to_z w64 (of_z w64 x) -ℤ to_z w64 (of_z w64 r))) ≡ x -ℤ r
plain_low x r h k i j = omega (arith, ints)

pub plain_high : (x r : ℤ) → neg_ℤ (pos (13 * 2 ^ 56)) ≤ℤ x → x ≤ℤ pos (13 * 2 ^ 56) → pos 0 ≤ℤ r → r ≤ℤ pos 17 → to_z w64 (of_z w64 (to_z w64 (of_z w64 x) +ℤ to_z w64 (of_z w64 r))) ≡ x +ℤ r
plain_high x r h k i j = omega (arith, ints)

pub wide_of : (d n m r : ℤ) → d ≤ℤ n → m ≡ n → ((pos 16 *ℤ m) +ℤ pos 1) ≤ℤ (pos 15 *ℤ r) → ((pos 16 *ℤ d) +ℤ pos 1) ≤ℤ (pos 15 *ℤ r)
wide_of d n m r h e k = omega (arith, ints)

-- the ends of the box that reaches r beyond x
pub ends_of : (x r al ah y s : ℤ) → y ≡ x → s ≡ r → neg_ℤ (pos (13 * 2 ^ 56)) ≤ℤ x → x ≤ℤ pos (13 * 2 ^ 56) → pos 0 ≤ℤ r → r ≤ℤ pos 17 → al ≡ y -ℤ s → ah ≡ y +ℤ s →
    (neg_ℤ (pos (2 ^ 60)) ≤ℤ al) × (ah ≤ℤ pos (2 ^ 60)) × ((ah -ℤ al) ≤ℤ pos 34) × (al ≡ x -ℤ r) × (ah ≡ x +ℤ r)
ends_of x r al ah y s a b h k i j e f = (omega (arith, ints), omega (arith, ints), omega (arith, ints), omega (arith, ints), omega (arith, ints))

pub narrow_pair : (w d : ℤ) → w ≤ℤ pos 34 → d ≤ℤ (pos 512 +ℤ (pos 32 *ℤ w)) → d ≤ℤ pos 1600
narrow_pair w d h k = omega (arith, ints)

pub narrow_angle : (w : ℤ) → w ≤ℤ pos 34 → w ≤ℤ pos (2 ^ 16)
narrow_angle w h = omega (arith, ints)

-- the bounds in whole powers of two
pub promised_angle : (w : ℤ) → w ≤ℤ pos 34 → w ≤ℤ pos (2 ^ 6)
promised_angle w h = omega (arith, ints)

pub promised_pair : (w : ℤ) → w ≤ℤ pos 1600 → w ≤ℤ pos (2 ^ 11)
promised_pair w h = omega (arith, ints)

pub wider_pair : (w : ℤ) → w ≤ℤ pos 1600 → w ≤ℤ pos (2 ^ 13)
wider_pair w h = omega (arith, ints)

-- ---- what is in reach of a mean anomaly
pub reached_low : (m x : ℤ) → neg_ℤ (pos (12 * 2 ^ 56)) ≤ℤ m → AreNear (pos (2 ^ 52)) x m → neg_ℤ (pos (13 * 2 ^ 56)) ≤ℤ x
reached_low m x h n = let fall_within = n.1 in omega (arith, ints)

pub reached_high : (m x : ℤ) → m ≤ℤ pos (12 * 2 ^ 56) → AreNear (pos (2 ^ 52)) x m → x ≤ℤ pos (13 * 2 ^ 56)
reached_high m x h n = let rise_within = n.0 in omega (arith, ints)
