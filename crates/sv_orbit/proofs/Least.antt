-- The box of m / 10^p is that of m / 10^38 where p is larger, since both lie between two neighbours.
use Rattle.std.proofs.Common.{◌≡◌, ℕ, zero, suc, inl, inr, FitsSigned, ◌-◌, ◌*◌, ◌^◌, ◌<◌, ◌≤◌, [], ◌∷◌, ℤ, pos, negsuc, ◌*ℤ◌, neg_ℤ, ◌≤ℤ◌, ◌<ℤ◌, unsigned_abs, subst, subst₂, arith, refl, sym, ap, ◌∙◌, lit<, pow_pos, min, to_z, of_z}
use Rattle.std.proofs.lemmas.Int.{ints, by_lt_z}
use Rattle.std.proofs.Math.Nat.{pow-le-pow_right, min-le_right, min-eq_left, min-eq_right}
use Rattle.std.specs.Int.{w64, w128}
use Rattle.whole_math.specs.Rounding.{floor_div, ceil_div}
use Rattle.whole_math.proofs.Ring.{◌⊕◌, ◌⊖◌, ◌⊗◌, ng}
use Rattle.whole_math.proofs.Order.{lins, mul_lt_cancel, mul_eq_cancel, mul_bounds, mul_le_left, le_pos, lt_pos}
use Rattle.whole_math.proofs.Inequalities.{same_by, le_by, both_nn, prod_nn, less_nn, weak, nat, one_nn, pos_one, le_trans_ℤ}
use Rattle.whole_math.proofs.Rounding.{floor_unique, ceil_unique}
use Rattle.whole_math.proofs.Boxes.{InBox-along}
use Rattle.whole_math.proofs.Ends.{box_of_size}
use Rattle.iv_core.specs.Boxes.{Past}
use Rattle.iv_core.specs.declared.Iv.{Iv}
use Rattle.sv_orbit.specs.LeastBoxes.{IsLeastBox}
use Rattle.iv_core.proofs.Sizes.{room}
use Rattle.iv_core.proofs.QuotientLaws.{ratio_holds, ratio_least}
use Rattle.whole_math.specs.Rational.{Rational, ◌≈◌, IsAtMostInSize, of_whole, InBox}
use Rattle.whole_math.specs.Boxes.{IsRatio, of_scale}
use Rattle.eph_store.specs.Decimals.{ten_to_pos, decimal}

-- ---- a power that is cut
pub power_high : (exponent most n : ℕ) → most ≤ 38 → n ≡ min exponent most → (10 ^ n ≤ 10 ^ most) × (10 ^ n ≤ 10 ^ 38)
power_high exponent most n h e =
    let below : n ≤ most = omega (arith, e, min-le_right exponent most) in
    let power_at_most : 10 ^ n ≤ 10 ^ most = pow-le-pow_right (lit< tt) below in
    let greatest_power_at_most : 10 ^ most ≤ 10 ^ 38 = pow-le-pow_right (lit< tt) h in
    (power_at_most, omega (arith, power_at_most, greatest_power_at_most))

pub own_word : (z : ℤ) (p : ℕ) → z ≡ pos p → p ≤ 10 ^ 38 → to_z w128 (of_z w128 z) ≡ pos p
own_word z p is h = omega (arith, ints, is, h)

-- ---- ends
-- the ends lo and hi are those of the least box of the number
pub record IsLeastOf (k : ℕ) (lo hi : ℤ) (value : Rational) : Type 0 where
  pub holds : (x : Rational) → x ≈ value → InBox k lo hi x
  pub least : (l h : ℤ) → InBox k l h value → (l ≤ℤ lo) × (hi ≤ℤ h)

-- a quotient
pub least_ratio_of : (k : ℕ) (n : ℤ) (d : ℕ) (value : Rational) → 0 < d → IsRatio value n (pos d) → IsLeastOf k (floor_div (n *ℤ pos (2 ^ k)) d) (ceil_div (n *ℤ pos (2 ^ k)) d) value
least_ratio_of k n d value d0 is = record {
  holds = λ x e. ratio_holds k n (pos d) (lt_pos 0 d d0) x (same_ratio x e);
  least = λ l h i. ratio_least k n (pos d) (lt_pos 0 d d0) l h (λ x r. InBox-along k l h value x (equal value x is r) i);
}
  where
    equal : (p q : Rational) → IsRatio p n (pos d) → IsRatio q n (pos d) → p ≈ q
    equal p q e f = mul_eq_cancel (p.num *ℤ pos q.den) (q.num *ℤ pos p.den) d d0 (turned p.num (pos q.den) (pos d) ∙ ap (λ z. z *ℤ pos q.den) e
        ∙ turned n (pos p.den) (pos q.den) ∙ ap (λ z. z *ℤ pos p.den) (sym f) ∙ turned q.num (pos d) (pos p.den))
      where
        turned : (a b c : ℤ) → a *ℤ b *ℤ c ≡ a *ℤ c *ℤ b
        turned a b c = same_by (a ∷ b ∷ c ∷ []) (λ a b c. (a ⊗ b ⊗ c, a ⊗ c ⊗ b)) refl

    same_ratio : (x : Rational) → x ≈ value → IsRatio x n (pos d)
    same_ratio x e = mul_eq_cancel (x.num *ℤ pos d) (n *ℤ pos x.den) value.den value.positive (turned x.num (pos d) (pos value.den)
        ∙ ap (λ z. z *ℤ pos d) e ∙ turned value.num (pos x.den) (pos d) ∙ ap (λ z. z *ℤ pos x.den) is ∙ turned n (pos value.den) (pos x.den))
      where
        turned : (a b c : ℤ) → a *ℤ b *ℤ c ≡ a *ℤ c *ℤ b
        turned a b c = same_by (a ∷ b ∷ c ∷ []) (λ a b c. (a ⊗ b ⊗ c, a ⊗ c ⊗ b)) refl

-- ---- n / d and n / p lie between the same neighbours, where n / d is below 1 in size and d ≤ p
pub record IsCut (n : ℤ) (d p : ℕ) : Type 0 where
  pub some : 0 < d
  pub finer : d ≤ p
  pub low : neg_ℤ (pos d) <ℤ n
  pub high : n <ℤ pos d

zero_times : (a : ℕ) → pos 0 *ℤ pos a ≡ pos 0
zero_times a = same_by (pos a ∷ []) (λ a. (nat 0 ⊗ a, nat 0)) refl

one_times : (a : ℕ) → pos 1 *ℤ pos a ≡ pos a
one_times a = same_by (pos a ∷ []) (λ a. (nat 1 ⊗ a, a)) refl

less_times : (a : ℕ) → negsuc 0 *ℤ pos a ≡ neg_ℤ (pos a)
less_times a = same_by (pos a ∷ []) (λ a. (ng (nat 1) ⊗ a, ng a)) refl

low_is : (n : ℤ) (d p : ℕ) → IsCut n d p → (pos 0 ≤ℤ n → floor_div n d ≡ pos 0) × (n <ℤ pos 0 → floor_div n d ≡ negsuc 0)
low_is n d p c = (
  λ h. sym (floor_unique n (pos 0) d c.some (omega (arith, lins, h, zero_times d)) (omega (arith, lins, c.high, zero_times d))),
  λ h. sym (floor_unique n (negsuc 0) d c.some (omega (arith, lins, c.low, less_times d)) (omega (arith, lins, h, less_times d))),
)

high_is : (n : ℤ) (d p : ℕ) → IsCut n d p → (pos 0 <ℤ n → ceil_div n d ≡ pos 1) × (n ≤ℤ pos 0 → ceil_div n d ≡ pos 0)
high_is n d p c = (
  λ h. sym (ceil_unique n (pos 1) d c.some (omega (arith, lins, c.high, one_times d), omega (arith, lins, h, one_times d))),
  λ h. sym (ceil_unique n (pos 0) d c.some (omega (arith, lins, h, zero_times d), omega (arith, lins, c.low, zero_times d))),
)

under : (n : ℤ) (d p : ℕ) → IsCut n d p → (floor_div n d *ℤ pos p) ≤ℤ n
under n d p c = by_lt_z n (pos 0)
    (λ l. rw ((low_is n d p c).1 l) (omega (arith, lins, less_times p, c.low, le_pos d p c.finer)))
    (λ l. rw ((low_is n d p c).0 l) (omega (arith, lins, zero_times p, l)))

over : (n : ℤ) (d p : ℕ) → IsCut n d p → n ≤ℤ (ceil_div n d *ℤ pos p)
over n d p c = by_lt_z (pos 0) n
    (λ l. rw ((high_is n d p c).0 l) (omega (arith, lins, one_times p, c.high, le_pos d p c.finer)))
    (λ l. rw ((high_is n d p c).1 l) (omega (arith, lins, zero_times p, l)))

least_under : (n l : ℤ) (d p : ℕ) → IsCut n d p → (l *ℤ pos p) ≤ℤ n → l ≤ℤ floor_div n d
least_under n l d p c h = by_lt_z n (pos 0)
    (λ g. rw ((low_is n d p c).1 g) (below (mul_lt_cancel l (pos 0) p some (omega (arith, lins, h, g, zero_times p)))))
    (λ g. rw ((low_is n d p c).0 g) (at_most (mul_lt_cancel l (pos 1) p some (omega (arith, lins, h, c.high, one_times p, le_pos d p c.finer)))))
  where
    some : 0 < p
    some = omega (arith, c.some, c.finer)

    below : l <ℤ pos 0 → l ≤ℤ negsuc 0
    below h = omega (arith, lins)

    at_most : l <ℤ pos 1 → l ≤ℤ pos 0
    at_most h = omega (arith, lins)

least_over : (n h : ℤ) (d p : ℕ) → IsCut n d p → n ≤ℤ (h *ℤ pos p) → ceil_div n d ≤ℤ h
least_over n h d p c k = by_lt_z (pos 0) n
    (λ g. rw ((high_is n d p c).0 g) (above (mul_lt_cancel (pos 0) h p some (omega (arith, lins, k, g, zero_times p)))))
    (λ g. rw ((high_is n d p c).1 g) (at_least (mul_lt_cancel (negsuc 0) h p some (omega (arith, lins, k, c.low, less_times p, le_pos d p c.finer)))))
  where
    some : 0 < p
    some = omega (arith, c.some, c.finer)

    above : pos 0 <ℤ h → pos 1 ≤ℤ h
    above l = omega (arith, lins)

    at_least : negsuc 0 <ℤ h → pos 0 ≤ℤ h
    at_least l = omega (arith, lins)

-- so both have one least box
least_cut_of : (k : ℕ) (m : ℤ) (d : ℕ) (value : Rational) → IsCut (m *ℤ pos (2 ^ k)) d value.den → value.num ≡ m → IsLeastOf k (floor_div (m *ℤ pos (2 ^ k)) d) (ceil_div (m *ℤ pos (2 ^ k)) d) value
least_cut_of k m d value c is =
    let scaled : ℤ = m *ℤ pos (2 ^ k) in
    record {
      holds = λ x e. InBox-along k (floor_div scaled d) (ceil_div scaled d) value x (sym e) (
        subst (λ (z : ℤ). (floor_div scaled d *ℤ pos value.den) ≤ℤ (z *ℤ pos (2 ^ k))) (sym is) (under scaled d value.den c),
        subst (λ (z : ℤ). (z *ℤ pos (2 ^ k)) ≤ℤ (ceil_div scaled d *ℤ pos value.den)) (sym is) (over scaled d value.den c),
      );
      least = λ l h i. (
        least_under scaled l d value.den c (subst (λ (z : ℤ). (l *ℤ pos value.den) ≤ℤ (z *ℤ pos (2 ^ k))) is i.0),
        least_over scaled h d value.den c (subst (λ (z : ℤ). (z *ℤ pos (2 ^ k)) ≤ℤ (h *ℤ pos value.den)) is i.1),
      );
    }

-- ---- what the code takes
scaled_cut : (k : ℕ) (m : ℤ) → k ≤ 60 → FitsSigned w64 m → (neg_ℤ (pos (10 ^ 38)) <ℤ (m *ℤ pos (2 ^ k))) × ((m *ℤ pos (2 ^ k)) <ℤ pos (10 ^ 38))
scaled_cut k m h fits =
    let scale_at_most : 2 ^ k ≤ 2 ^ 60 = pow-le-pow_right (lit< tt) h in
    let product_bounds = mul_bounds m (pos (2 ^ k)) (2 ^ 63) (2 ^ 60) (omega (arith, ints, fits)) (omega (arith, ints, fits)) (omega (arith, ints)) (omega (arith, ints, scale_at_most)) in
    (omega (arith, lins, product_bounds.0), omega (arith, lins, product_bounds.1))

pub part_least : (k places : ℕ) (m : ℤ) → k ≤ 60 → FitsSigned w64 m
    → IsLeastOf k (floor_div (m *ℤ pos (2 ^ k)) (10 ^ min places 38)) (ceil_div (m *ℤ pos (2 ^ k)) (10 ^ min places 38)) (decimal m places)
part_least k places m h fits = go (places - 38) refl
  where
    go : (r : ℕ) → places - 38 ≡ r → IsLeastOf k (floor_div (m *ℤ pos (2 ^ k)) (10 ^ min places 38)) (ceil_div (m *ℤ pos (2 ^ k)) (10 ^ min places 38)) (decimal m places)
    go zero e = let few_places : places ≤ 38 = omega arith in rw (min-eq_left few_places) (least_ratio_of k m (10 ^ places) (decimal m places) (ten_to_pos places) refl)
    go (suc r) e =
        let many_places : 38 ≤ places = omega arith in
        let cut_bounds = scaled_cut k m h fits in
        rw (min-eq_right many_places) (least_cut_of k m (10 ^ 38) (decimal m places) (record { some = lit< tt; finer = pow-le-pow_right (lit< tt) many_places; low = cut_bounds.0; high = cut_bounds.1 }) refl)

-- past 10^19 only 0 stays small
large : (m p t : ℤ) → pos 1 ≤ℤ m → pos 0 ≤ℤ p → pos 1 ≤ℤ t → p ≤ℤ (m *ℤ p *ℤ t)
large m p t m1 p0 t1 = le_by (m ∷ p ∷ t ∷ []) (λ m p t. (p, m ⊗ p ⊗ t, (m ⊖ nat 1) ⊗ p ⊗ t ⊕ p ⊗ (t ⊖ nat 1))) refl
    (both_nn (prod_nn (prod_nn (less_nn m1) p0) (one_nn t1)) (prod_nn p0 (less_nn t1)))

zero_of : (m p t : ℤ) → pos 1 ≤ℤ t → pos (10 ^ 19) ≤ℤ p → (m *ℤ p *ℤ t) ≤ℤ pos (2 ^ 62) → (neg_ℤ (m *ℤ p) *ℤ t) ≤ℤ pos (2 ^ 62) → m ≡ pos 0
zero_of m p t t1 p1 h g = by_lt_z (pos 0) m
    (λ l. absurd (too_large p (m *ℤ p *ℤ t) p1 (large m p t (above l) (from p1) t1) h))
    (λ l. by_lt_z m (pos 0)
    (λ k. absurd (too_large p (neg_ℤ (m *ℤ p) *ℤ t) p1
    (subst (λ (z : ℤ). p ≤ℤ z) (same_by (m ∷ p ∷ t ∷ []) (λ m p t. (ng m ⊗ p ⊗ t, ng (m ⊗ p) ⊗ t)) refl) (large (neg_ℤ m) p t (below k) (from p1) t1)) g))
    (λ k. between l k))
  where
    too_large : (p v : ℤ) → pos (10 ^ 19) ≤ℤ p → p ≤ℤ v → v ≤ℤ pos (2 ^ 62) → ⊥
    too_large p v h k l = omega (arith, lins)

    above : pos 0 <ℤ m → pos 1 ≤ℤ m
    above h = omega (arith, lins)

    below : m <ℤ pos 0 → pos 1 ≤ℤ neg_ℤ m
    below h = omega (arith, lins)

    from : pos (10 ^ 19) ≤ℤ p → pos 0 ≤ℤ p
    from h = omega (arith, lins)

    between : m ≤ℤ pos 0 → pos 0 ≤ℤ m → m ≡ pos 0
    between h k = omega (arith, lins)

pub whole_is : (k power : ℕ) (m : ℤ) → IsAtMostInSize (of_scale k (pos (2 ^ 62))) (of_whole (m *ℤ pos (10 ^ power))) → m *ℤ pos (10 ^ min power 19) ≡ m *ℤ pos (10 ^ power)
whole_is k power m small = go (power - 19) refl
  where
    go : (r : ℕ) → power - 19 ≡ r → m *ℤ pos (10 ^ min power 19) ≡ m *ℤ pos (10 ^ power)
    go zero e = let small_power : power ≤ 19 = omega arith in rw (min-eq_left small_power) refl
    go (suc r) e =
        let great_power : 19 ≤ power = omega arith in
        let power_at_least : 10 ^ 19 ≤ 10 ^ power = pow-le-pow_right (lit< tt) great_power in
        let is_zero : m ≡ pos 0 = zero_of m (pos (10 ^ power)) (pos (2 ^ k)) (pos_one (2 ^ k) (pow_pos k)) (le_pos (10 ^ 19) (10 ^ power) power_at_least) small.0 small.1 in
        rw (is_zero, zero_times (10 ^ min power 19), zero_times (10 ^ power)) refl

-- where the number is small the box has its ends in reach
pub ends_small : (k m : ℕ) (lo hi : ℤ) (value : Rational) → IsLeastOf k lo hi value → IsAtMostInSize (of_scale k (pos m)) value → (neg_ℤ (pos m) ≤ℤ lo) × (hi ≤ℤ pos m)
ends_small k m lo hi value l s = l.least (neg_ℤ (pos m)) (pos m) (box_of_size k m value s)

pub not_past : (lo hi : ℤ) → (neg_ℤ (pos (2 ^ 62)) ≤ℤ lo) × (hi ≤ℤ pos (2 ^ 62)) → Past lo hi → ⊥
not_past lo hi h (inl p) = omega (arith, lins, h.0, p)
not_past lo hi h (inr p) = omega (arith, lins, h.1, p)

-- 2^63 < 2^(126 - k)
pub part_room : (m : ℤ) (k : ℕ) → k ≤ 60 → FitsSigned w64 m → unsigned_abs m < 2 ^ (126 - k)
part_room m k h fits =
    let mantissa_small : unsigned_abs m ≤ 2 ^ 63 = omega (arith, ints, fits) in
    let room_at_least : 66 ≤ 126 - k = omega arith in
    let power_at_least : 2 ^ 66 ≤ 2 ^ (126 - k) = pow-le-pow_right (lit< tt) room_at_least in
    omega (arith, mantissa_small, power_at_least)

pub whole_room : (k : ℕ) (v : ℤ) → k ≤ 60 → IsAtMostInSize (of_scale k (pos (2 ^ 62))) (of_whole v) → unsigned_abs v < 2 ^ (126 - k)
whole_room k v h s = room (unsigned_abs v) k h (size v (bound v s.0) (bound (neg_ℤ v) s.1))
  where
    bound : (v : ℤ) → (v *ℤ pos (2 ^ k)) ≤ℤ pos (2 ^ 62) → v ≤ℤ pos (2 ^ 62)
    bound v l = by_lt_z (pos 0) v
        (λ g. le_trans_ℤ (subst (λ (z : ℤ). z ≤ℤ (v *ℤ pos (2 ^ k))) (same_by (v ∷ []) (λ v. (v ⊗ nat 1, v)) refl) (mul_le_left v (pos 1) (pos (2 ^ k)) (weak g) (pos_one (2 ^ k) (pow_pos k)))) l)
        (λ g. low g)
      where
        low : v ≤ℤ pos 0 → v ≤ℤ pos (2 ^ 62)
        low g = omega (arith, lins)

    size : (v : ℤ) → v ≤ℤ pos (2 ^ 62) → neg_ℤ v ≤ℤ pos (2 ^ 62) → unsigned_abs v ≤ 2 ^ 62
    size v l g = omega (arith, ints)

-- the same, with the numbers that the code has
pub part_ends : (k places : ℕ) (m n d : ℤ) → k ≤ 60 → FitsSigned w64 m → n ≡ m → d ≡ pos (10 ^ min places 38) →
    IsLeastOf k (floor_div (n *ℤ pos (2 ^ k)) (unsigned_abs d)) (ceil_div (n *ℤ pos (2 ^ k)) (unsigned_abs d)) (decimal m places)
part_ends k places m n d h fits e f = rw (e, f) (part_least k places m h fits)

pub whole_ends : (k : ℕ) (v n d : ℤ) → n ≡ v → d ≡ pos 1 → IsLeastOf k (floor_div (n *ℤ pos (2 ^ k)) (unsigned_abs d)) (ceil_div (n *ℤ pos (2 ^ k)) (unsigned_abs d)) (of_whole v)
whole_ends k v n d e f = rw (e, f) (least_ratio_of k v 1 (of_whole v) (lit< tt) refl)

pub as_box : (k : ℕ) (b : Iv k) (lo hi : ℤ) (value : Rational) → b.lo ≡ lo → b.hi ≡ hi → IsLeastOf k lo hi value → IsLeastBox b value
as_box k b lo hi value e f l = record {
  holds = λ x s. subst₂ (λ (y z : ℤ). InBox k y z x) (sym e) (sym f) (l.holds x s);
  least = λ y z i. let contained = l.least y z i in (subst (λ (w : ℤ). y ≤ℤ w) (sym e) contained.0, subst (λ (w : ℤ). w ≤ℤ z) (sym f) contained.1);
}

-- |m| ≤ 2^63 times a power of at most 10^19
pub product_fits : (m p : ℤ) → FitsSigned w64 m → pos 0 <ℤ p → p ≤ℤ pos (10 ^ 19) → FitsSigned w128 (to_z w128 (of_z w128 m) *ℤ p) × (to_z w128 (of_z w128 (to_z w128 (of_z w128 m) *ℤ p)) ≡ m *ℤ p)
product_fits m p fits h g =
    let mantissa_kept : to_z w128 (of_z w128 m) ≡ m = omega (arith, ints, fits) in
    let product_bounds = mul_bounds m p (2 ^ 63) (10 ^ 19) (omega (arith, ints, fits)) (omega (arith, ints, fits)) (omega (arith, lins, h)) (omega (arith, lins, g)) in
    rw mantissa_kept (step (m *ℤ p) product_bounds.0 product_bounds.1)
  where
    step : (z : ℤ) → neg_ℤ (pos (2 ^ 63 * 10 ^ 19)) ≤ℤ z → z ≤ℤ pos (2 ^ 63 * 10 ^ 19) → FitsSigned w128 z × (to_z w128 (of_z w128 z) ≡ z)
    step z h g = (omega (arith, ints), omega (arith, ints))
