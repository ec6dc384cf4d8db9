-- The limits of sums, products and quotients follow from those of their operands.
use Rattle.std.proofs.Common.{◌≡◌, ℕ, ◌+◌, ◌*◌, ◌≤◌, ◌<◌, ◌^◌, [], ◌∷◌, ℤ, pos, ◌+ℤ◌, ◌*ℤ◌, neg_ℤ, ◌≤ℤ◌, ◌<ℤ◌, arith, refl, IsOk, Ok, Err, Result, inl, inr, unsigned_abs, ap}
use Rattle.std.proofs.lemmas.Int.{ints, clamps}
use Rattle.whole_math.specs.Rounding.{floor_div, ceil_div}
use Rattle.whole_math.proofs.Ring.{◌⊗◌, ng}
use Rattle.whole_math.proofs.Order.{lins, mul_bounds, mul_le_left, mul_le_right, mul_lt_cancel, le_pos}
use Rattle.whole_math.proofs.Inequalities.{pos_nn, same_by}
use Rattle.whole_math.proofs.Rounding.{floor_greatest, ceil_least}
use Rattle.whole_math.proofs.Extremes.{least_case, most_case, min_case, max_case}
use Rattle.iv_core.specs.declared.DivFault.{DivFault}
use Rattle.iv_core.specs.declared.DivFault.TheVariants.{ZeroInside, Overwidth}
use Rattle.iv_core.specs.Boxes.{least_corner, most_corner, near_end, far_end, least_ratio, most_ratio, Past}
use Rattle.iv_core.proofs.QuotientLaws.{positive_is}

-- a quotient is refused for one of two causes
pub ok_of_quotient : {T : Type 0} → (r : Result T DivFault) → (r ≡ Err ZeroInside → ⊥) → (r ≡ Err Overwidth → ⊥) → IsOk r
ok_of_quotient (Ok x) h k = refl
ok_of_quotient (Err ZeroInside) h k = absurd (h refl)
ok_of_quotient (Err Overwidth) h k = absurd (k refl)

-- an end is not past the limit
pub in_reach : (lo hi : ℤ) (t : ℕ) → t ≤ 2 ^ 62 → neg_ℤ (pos t) ≤ℤ lo → hi ≤ℤ pos t → Past lo hi → ⊥
in_reach lo hi t l h k (inl p) = omega (arith, ints)
in_reach lo hi t l h k (inr p) = omega (arith, ints)

pub reached : (lo hi : ℤ) (t : ℕ) → t ≤ 2 ^ 62 → neg_ℤ (pos t) ≤ℤ lo → hi ≤ℤ pos t → (neg_ℤ (pos (2 ^ 62)) ≤ℤ lo) × (hi ≤ℤ pos (2 ^ 62))
reached lo hi t l h k = (omega (arith, ints), omega (arith, ints))

-- ---- products
-- a number of at most t s in size, over s, rounded either way
rounded_within : (z : ℤ) (t s : ℕ) → 0 < s → neg_ℤ (pos (t * s)) ≤ℤ z → z ≤ℤ pos (t * s) → (neg_ℤ (pos t) ≤ℤ floor_div z s) × (ceil_div z s ≤ℤ pos t)
rounded_within z t s h low high =
    let neg_product_is : neg_ℤ (pos t) *ℤ pos s ≡ neg_ℤ (pos (t * s)) = same_by (pos t ∷ pos s ∷ []) (λ t s. (ng t ⊗ s, ng (t ⊗ s))) refl in
    (floor_greatest z (neg_ℤ (pos t)) s h (omega (arith, lins)), ceil_least z (pos t) s h high)

corner_within : (u v : ℤ) (m n k : ℕ) → neg_ℤ (pos m) ≤ℤ u → u ≤ℤ pos m → neg_ℤ (pos n) ≤ℤ v → v ≤ℤ pos n → m * n ≤ k → (neg_ℤ (pos k) ≤ℤ (u *ℤ v)) × ((u *ℤ v) ≤ℤ pos k)
corner_within u v m n k h₁ h₂ g₁ g₂ l =
    let product_between = mul_bounds u v m n h₁ h₂ g₁ g₂ in
    let limit_at_most : pos (m * n) ≤ℤ pos k = le_pos (m * n) k l in
    (omega (arith, lins, product_between.0, limit_at_most), omega (arith, lins, product_between.1, limit_at_most))

pub product_within : (a b c d : ℤ) (m n t s : ℕ) → 0 < s → a ≤ℤ b → c ≤ℤ d → neg_ℤ (pos m) ≤ℤ a → b ≤ℤ pos m → neg_ℤ (pos n) ≤ℤ c → d ≤ℤ pos n → m * n ≤ t * s →
    (neg_ℤ (pos t) ≤ℤ floor_div (least_corner a b c d) s) × (ceil_div (most_corner a b c d) s ≤ℤ pos t)
product_within a b c d m n t s h ab cd ma bm nc dn l =
    let a_at_most_m : a ≤ℤ pos m = omega (arith, lins) in
    let b_above_neg_m : neg_ℤ (pos m) ≤ℤ b = omega (arith, lins) in
    let c_at_most_n : c ≤ℤ pos n = omega (arith, lins) in
    let d_above_neg_n : neg_ℤ (pos n) ≤ℤ d = omega (arith, lins) in
    let ac_within = corner_within a c m n (t * s) ma a_at_most_m nc c_at_most_n l in
    let ad_within = corner_within a d m n (t * s) ma a_at_most_m d_above_neg_n dn l in
    let bc_within = corner_within b c m n (t * s) b_above_neg_m bm nc c_at_most_n l in
    let bd_within = corner_within b d m n (t * s) b_above_neg_m bm d_above_neg_n dn l in (
      least_case (λ z. neg_ℤ (pos t) ≤ℤ floor_div z s) (a *ℤ c) (a *ℤ d) (b *ℤ c) (b *ℤ d)
          (rounded_within (a *ℤ c) t s h ac_within.0 ac_within.1).0 (rounded_within (a *ℤ d) t s h ad_within.0 ad_within.1).0 (rounded_within (b *ℤ c) t s h bc_within.0 bc_within.1).0 (rounded_within (b *ℤ d) t s h bd_within.0 bd_within.1).0,
      most_case (λ z. ceil_div z s ≤ℤ pos t) (a *ℤ c) (a *ℤ d) (b *ℤ c) (b *ℤ d)
          (rounded_within (a *ℤ c) t s h ac_within.0 ac_within.1).1 (rounded_within (a *ℤ d) t s h ad_within.0 ad_within.1).1 (rounded_within (b *ℤ c) t s h bc_within.0 bc_within.1).1 (rounded_within (b *ℤ d) t s h bd_within.0 bd_within.1).1,
    )

-- s w is below m v + n u + 2 s, which is at most (x + 1) s
pub product_narrow : (w u v : ℤ) (m n p q x s : ℕ) → 0 < s → u ≤ℤ pos p → v ≤ℤ pos q → m * q + n * p + 2 * s ≤ (x + 1) * s →
    (pos s *ℤ w) <ℤ (((pos m *ℤ v) +ℤ (pos n *ℤ u)) +ℤ (pos 2 *ℤ pos s)) → w ≤ℤ pos x
product_narrow w u v m n p q x s h up vq l k =
    let v_term_at_most : (pos m *ℤ v) ≤ℤ (pos m *ℤ pos q) = mul_le_left (pos m) v (pos q) (pos_nn m) vq in
    let u_term_at_most : (pos n *ℤ u) ≤ℤ (pos n *ℤ pos p) = mul_le_left (pos n) u (pos p) (pos_nn n) up in
    let total_at_most : pos (m * q + n * p + 2 * s) ≤ℤ pos ((x + 1) * s) = le_pos (m * q + n * p + 2 * s) ((x + 1) * s) l in
    below w (pos m *ℤ v) (pos n *ℤ u) (pos 2 *ℤ pos s) (pos (m * q)) (pos (n * p)) k v_term_at_most u_term_at_most (parts (m * q) (n * p) (2 * s) _ total_at_most)
  where
    parts : (a b c d : ℕ) → pos (a + b + c) ≤ℤ pos d → ((pos a +ℤ pos b) +ℤ pos c) ≤ℤ pos d
    parts a b c d h = omega (arith, ints)

    under : (w : ℤ) → w <ℤ pos (x + 1) → w ≤ℤ pos x
    under w h = omega (arith, ints)

    turned : (w : ℤ) → (pos s *ℤ w) <ℤ pos ((x + 1) * s) → (w *ℤ pos s) <ℤ (pos (x + 1) *ℤ pos s)
    turned w l = omega (arith, lins, same_by (w ∷ pos s ∷ []) (λ w s. (w ⊗ s, s ⊗ w)) refl, l)

    below : (w a b c a' b' : ℤ) → (pos s *ℤ w) <ℤ ((a +ℤ b) +ℤ c) → a ≤ℤ a' → b ≤ℤ b' → ((a' +ℤ b') +ℤ c) ≤ℤ pos ((x + 1) * s) → w ≤ℤ pos x
    below w a b c a' b' k i j o = under w (mul_lt_cancel w (pos (x + 1)) s h (turned w (omega (arith, lins))))

-- ---- squares
pub square_within : (a b : ℤ) (m t s : ℕ) → 0 < s → a ≤ℤ b → neg_ℤ (pos m) ≤ℤ a → b ≤ℤ pos m → m * m ≤ t * s →
    (neg_ℤ (pos t) ≤ℤ floor_div (near_end a b *ℤ near_end a b) s) × (ceil_div (far_end a b *ℤ far_end a b) s ≤ℤ pos t)
square_within a b m t s h ab ma bm l =
    let near_end_within = near_within a b (pos m) ab ma bm in
    let far_end_within = far_within a b (pos m) ab ma bm in
    let near_square_within = corner_within (near_end a b) (near_end a b) m m (t * s) near_end_within.0 near_end_within.1 near_end_within.0 near_end_within.1 l in
    let far_square_within = corner_within (far_end a b) (far_end a b) m m (t * s) far_end_within.0 far_end_within.1 far_end_within.0 far_end_within.1 l in
    ((rounded_within (near_end a b *ℤ near_end a b) t s h near_square_within.0 near_square_within.1).0, (rounded_within (far_end a b *ℤ far_end a b) t s h far_square_within.0 far_square_within.1).1)
  where
    near_within : (a b m : ℤ) → a ≤ℤ b → neg_ℤ m ≤ℤ a → b ≤ℤ m → (neg_ℤ m ≤ℤ near_end a b) × (near_end a b ≤ℤ m)
    near_within a b m ab ma bm = (omega (arith, lins, clamps), omega (arith, lins, clamps))

    far_within : (a b m : ℤ) → a ≤ℤ b → neg_ℤ m ≤ℤ a → b ≤ℤ m → (neg_ℤ m ≤ℤ far_end a b) × (far_end a b ≤ℤ m)
    far_within a b m ab ma bm = (omega (arith, lins, clamps), omega (arith, lins, clamps))

pub square_narrow : (w u : ℤ) (m p x s : ℕ) → 0 < s → u ≤ℤ pos p → 2 * m * p + 2 * s ≤ (x + 1) * s →
    (pos s *ℤ w) <ℤ (((pos 2 *ℤ pos m) *ℤ u) +ℤ (pos 2 *ℤ pos s)) → w ≤ℤ pos x
square_narrow w u m p x s h up l k = product_narrow w u u (2 * m) 0 p p x s h up up (omega arith) (wider (pos s *ℤ w) ((pos 2 *ℤ pos m) *ℤ u) (pos 2 *ℤ pos s) u k)
  where
    wider : (a b c u : ℤ) → a <ℤ (b +ℤ c) → a <ℤ ((b +ℤ (pos 0 *ℤ u)) +ℤ c)
    wider a b c u h = omega (arith, ints)

-- ---- quotients by what is at least d > 0
pub ratio_within : (a b c : ℤ) (m p g d : ℕ) → a ≤ℤ b → neg_ℤ (pos m) ≤ℤ a → b ≤ℤ pos m → pos d ≤ℤ c → m * p ≤ g * d →
    (neg_ℤ (pos g *ℤ c) ≤ℤ (a *ℤ pos p)) × ((b *ℤ pos p) ≤ℤ (pos g *ℤ c))
ratio_within a b c m p g d ab ma bm dc l =
    let bound_at_most : (pos g *ℤ pos d) ≤ℤ (pos g *ℤ c) = mul_le_left (pos g) (pos d) c (pos_nn g) dc in
    let high_at_most : (b *ℤ pos p) ≤ℤ (pos m *ℤ pos p) = mul_le_right (pos p) b (pos m) (pos_nn p) bm in
    let low_above : (neg_ℤ (pos m) *ℤ pos p) ≤ℤ (a *ℤ pos p) = mul_le_right (pos p) (neg_ℤ (pos m)) a (pos_nn p) ma in
    let neg_product_is : neg_ℤ (pos m) *ℤ pos p ≡ neg_ℤ (pos (m * p)) = same_by (pos m ∷ pos p ∷ []) (λ m p. (ng m ⊗ p, ng (m ⊗ p))) refl in
    let size_at_most : pos (m * p) ≤ℤ pos (g * d) = le_pos (m * p) (g * d) l in
    (omega (arith, lins, bound_at_most, low_above, neg_product_is, size_at_most), omega (arith, lins, bound_at_most, high_at_most, size_at_most))

pub quotient_within : (a b c d : ℤ) (m p t e : ℕ) → a ≤ℤ b → c ≤ℤ d → neg_ℤ (pos m) ≤ℤ a → b ≤ℤ pos m → 0 < e → pos e ≤ℤ c → m * p ≤ t * e →
    (neg_ℤ (pos t) ≤ℤ least_ratio a b c d p) × (most_ratio a b c d p ≤ℤ pos t)
quotient_within a b c d m p t e ab cd ma bm e0 ec l =
    rw (positive_is c c0) (
      min_case (λ z. neg_ℤ (pos t) ≤ℤ z) (floor_div (a *ℤ pos p) (unsigned_abs c)) (floor_div (a *ℤ pos p) (unsigned_abs d)) (low c ec) (low d ed),
      max_case (λ z. z ≤ℤ pos t) (ceil_div (b *ℤ pos p) (unsigned_abs c)) (ceil_div (b *ℤ pos p) (unsigned_abs d)) (high c ec) (high d ed),
    )
  where
    c0 : pos 0 <ℤ c
    c0 = omega (arith, lins)

    ed : pos e ≤ℤ d
    ed = omega (arith, lins)

    plain : (y : ℤ) → pos e ≤ℤ y → (0 < unsigned_abs y) × (pos (unsigned_abs y) ≡ y)
    plain y h = (omega (arith, ints), omega (arith, ints))

    low : (y : ℤ) → pos e ≤ℤ y → neg_ℤ (pos t) ≤ℤ floor_div (a *ℤ pos p) (unsigned_abs y)
    low y h =
        let ratio_bounds = ratio_within a b y m p t e ab ma bm h l in
        let size_is = plain y h in
        let neg_product_is : neg_ℤ (pos t) *ℤ pos (unsigned_abs y) ≡ neg_ℤ (pos t *ℤ pos (unsigned_abs y)) = same_by (pos t ∷ pos (unsigned_abs y) ∷ []) (λ t y. (ng t ⊗ y, ng (t ⊗ y))) refl in
        let product_is : pos t *ℤ pos (unsigned_abs y) ≡ pos t *ℤ y = ap (λ z. pos t *ℤ z) size_is.1 in
        floor_greatest (a *ℤ pos p) (neg_ℤ (pos t)) (unsigned_abs y) size_is.0 (omega (arith, lins, neg_product_is, product_is, ratio_bounds.0))

    high : (y : ℤ) → pos e ≤ℤ y → ceil_div (b *ℤ pos p) (unsigned_abs y) ≤ℤ pos t
    high y h =
        let ratio_bounds = ratio_within a b y m p t e ab ma bm h l in
        let size_is = plain y h in
        let product_is : pos t *ℤ pos (unsigned_abs y) ≡ pos t *ℤ y = ap (λ z. pos t *ℤ z) size_is.1 in
        ceil_least (b *ℤ pos p) (pos t) (unsigned_abs y) size_is.0 (omega (arith, lins, product_is, ratio_bounds.1))

-- limits of ends are those of equal numbers
pub same_within : (lo hi a b : ℤ) (t : ℕ) → lo ≡ a → hi ≡ b → neg_ℤ (pos t) ≤ℤ a → b ≤ℤ pos t → (neg_ℤ (pos t) ≤ℤ lo) × (hi ≤ℤ pos t)
same_within lo hi a b t e f h k = (omega (arith, lins, e, h), omega (arith, lins, f, k))
