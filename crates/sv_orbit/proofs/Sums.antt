-- Taylor sums: how they follow the angle, and how far the longer ones lie from the shorter.
use Rattle.std.proofs.Common.{◌≡◌, ℕ, zero, suc, ◌*◌, ◌^◌, ◌<◌, inl, inr, [], ◌∷◌, ℤ, pos, ◌*ℤ◌, ◌<ℤ◌, arith, refl, lit≤, lit<, sym, ap, subst, ◌∙◌}
use Rattle.whole_math.proofs.Ring.{◌⊖◌, ◌⊗◌}
use Rattle.whole_math.proofs.Order.{le_pos, lt_pos}
use Rattle.whole_math.proofs.Inequalities.{same_by, le_by, nat, less_nn, prod_nn, pos_nn, le_eq}
use Rattle.whole_math.proofs.Certificates.{cancel, mul_positive}
use Rattle.whole_math.specs.Rational.{Rational, ◌≈◌, ◌≤ʳ◌, of_whole, ◌+ʳ◌, ◌-ʳ◌, ◌*ʳ◌, neg_r, power_r, times, divided, AreWithin, IsBetween}
use Rattle.whole_math.specs.Over.{Over}
use Rattle.whole_math.proofs.RationalLaws.{≤ʳ_trans, ≤ʳ_antisym, ≤ʳ_from_same, square_r-nonneg}
use Rattle.trig_box.specs.AnglePairs.{factorial, factorial_positive, term, sum_of_terms, cosine_sum, sine_sum, part, doubled, InRange}
use Rattle.trig_box.specs.CanonicalPairs.{IsCanonicalPair}
use Rattle.trig_box.specs.Chain.{cosine_to_18, sine_to_19}
use Rattle.trig_box.proofs.Points.{top, bottom}
use Rattle.trig_box.proofs.Nests.{bottom_positive}
use Rattle.trig_box.proofs.Base.{apt_cos, apt_sin}
use Rattle.trig_box.proofs.AsPoints.{cosine_18, sine_19}
use Rattle.trig_box.proofs.PairLaws.{canonical_law}
use Rattle.sv_orbit.proofs.Certs.{power_step, power_nn, product_up, quarter, cos_low, cos_high, sin_low, sin_high, sin_low_neg, sin_high_neg}

-- ---- sums at the same number over two equal denominators
alike : (k n : ℤ) (p q : Rational) → pos 0 <ℤ k → Over k n p → Over k n q → p ≤ʳ q
alike k n p q k0 o u = cancel k (p.num *ℤ pos q.den) (q.num *ℤ pos p.den) k0 (le_eq (step k n p.num (pos p.den) q.num (pos q.den) o u))
  where
    step : (k n a b c d : ℤ) → a *ℤ k ≡ n *ℤ b → c *ℤ k ≡ n *ℤ d → k *ℤ (a *ℤ d) ≡ k *ℤ (c *ℤ b)
    step k n a b c d o u =
        same_by (k ∷ a ∷ d ∷ []) (λ k a d. (k ⊗ (a ⊗ d), a ⊗ k ⊗ d)) refl
        ∙ ap (λ (z : ℤ). z *ℤ d) o
        ∙ same_by (n ∷ b ∷ d ∷ []) (λ n b d. (n ⊗ b ⊗ d, n ⊗ d ⊗ b)) refl
        ∙ ap (λ (z : ℤ). z *ℤ b) (sym u)
        ∙ same_by (k ∷ c ∷ b ∷ []) (λ k c b. (c ⊗ k ⊗ b, k ⊗ (c ⊗ b))) refl

same_over : (k n : ℤ) (p q : Rational) → pos 0 <ℤ k → Over k n p → Over k n q → p ≈ q
same_over k n p q k0 o u = ≤ʳ_antisym p q (alike k n p q k0 o u) (alike k n q p k0 u o)

whole_positive : (v : Rational) → pos 0 <ℤ pos (v.den * v.den)
whole_positive v = mul_positive (pos v.den) (pos v.den) (lt_pos 0 v.den v.positive) (lt_pos 0 v.den v.positive)

cosine_same : (v w : Rational) → v.num ≡ w.num → v.den ≡ w.den → cosine_sum 9 v ≈ cosine_sum 9 w
cosine_same v w e f =
    let same_over_den : Over (bottom cosine_to_18 (pos (w.den * w.den))) (top cosine_to_18 (v.num *ℤ v.num) (pos (w.den * w.den))) (cosine_sum 9 v) =
    subst (λ (d : ℕ). Over (bottom cosine_to_18 (pos (d * d))) (top cosine_to_18 (v.num *ℤ v.num) (pos (d * d))) (cosine_sum 9 v)) f (cosine_18 v) in
    let same_over_num : Over (bottom cosine_to_18 (pos (w.den * w.den))) (top cosine_to_18 (w.num *ℤ w.num) (pos (w.den * w.den))) (cosine_sum 9 v) =
    subst (λ (n : ℤ). Over (bottom cosine_to_18 (pos (w.den * w.den))) (top cosine_to_18 (n *ℤ n) (pos (w.den * w.den))) (cosine_sum 9 v)) e same_over_den in
    same_over (bottom cosine_to_18 (pos (w.den * w.den))) (top cosine_to_18 (w.num *ℤ w.num) (pos (w.den * w.den))) (cosine_sum 9 v) (cosine_sum 9 w)
    (bottom_positive cosine_to_18 (pos (w.den * w.den)) apt_cos (whole_positive w)) same_over_num (cosine_18 w)

sine_same : (v w : Rational) → v.num ≡ w.num → v.den ≡ w.den → sine_sum 9 v ≈ sine_sum 9 w
sine_same v w e f =
    let same_over_den : Over (pos w.den *ℤ bottom sine_to_19 (pos (w.den * w.den))) (v.num *ℤ top sine_to_19 (v.num *ℤ v.num) (pos (w.den * w.den))) (sine_sum 9 v) =
    subst (λ (d : ℕ). Over (pos d *ℤ bottom sine_to_19 (pos (d * d))) (v.num *ℤ top sine_to_19 (v.num *ℤ v.num) (pos (d * d))) (sine_sum 9 v)) f (sine_19 v) in
    let same_over_num : Over (pos w.den *ℤ bottom sine_to_19 (pos (w.den * w.den))) (w.num *ℤ top sine_to_19 (w.num *ℤ w.num) (pos (w.den * w.den))) (sine_sum 9 v) =
    subst (λ (n : ℤ). Over (pos w.den *ℤ bottom sine_to_19 (pos (w.den * w.den))) (n *ℤ top sine_to_19 (n *ℤ n) (pos (w.den * w.den))) (sine_sum 9 v)) e same_over_den in
    same_over (pos w.den *ℤ bottom sine_to_19 (pos (w.den * w.den))) (w.num *ℤ top sine_to_19 (w.num *ℤ w.num) (pos (w.den * w.den))) (sine_sum 9 v) (sine_sum 9 w)
    (mul_positive (pos w.den) (bottom sine_to_19 (pos (w.den * w.den))) (lt_pos 0 w.den w.positive) (bottom_positive sine_to_19 (pos (w.den * w.den)) apt_sin (whole_positive w))) same_over_num (sine_19 w)

-- ---- the sums through 18 and 19 follow the angle
own : (v : Rational) → InRange 0 v → IsCanonicalPair 0 v (cosine_sum 9 v) (sine_sum 9 v)
unfolding doubled
own v h = record { in_range = h; cos_is = cosine_same v (part 0 v) refl (one v.den); sin_is = sine_same v (part 0 v) refl (one v.den) }
  where
    one : (d : ℕ) → d ≡ 2 ^ 0 * d
    one d = omega arith

-- |p - q| ≤ 2d gives 2|p - q| ≤ t where 4d ≤ t
pub twice_within : (d p q t : Rational) → of_whole (pos 4) *ʳ d ≤ʳ t → AreWithin (times 2 d) p q
    → (of_whole (pos 2) *ʳ (p -ʳ q) ≤ʳ t) × (of_whole (pos 2) *ʳ (q -ʳ p) ≤ʳ t)
twice_within d p q t h w = (
  quarter (p -ʳ q) d t (≤ʳ_trans (p -ʳ q) (times 2 d) (of_whole (pos 2) *ʳ d) w.0 twice) h,
  quarter (q -ʳ p) d t (≤ʳ_trans (q -ʳ p) (times 2 d) (of_whole (pos 2) *ʳ d) w.1 twice) h,
)
  where
    twice : times 2 d ≤ʳ of_whole (pos 2) *ʳ d
    twice = ≤ʳ_from_same (times 2 d) (of_whole (pos 2) *ʳ d) (same_by (d.num ∷ pos d.den ∷ []) (λ n d. (nat 2 ⊗ n ⊗ (nat 1 ⊗ d), nat 2 ⊗ n ⊗ d)) refl)

-- both sums at v and at w differ by at most t/2
pub record AreAlike (t v w : Rational) : Type 0 where
  pub cos_up : of_whole (pos 2) *ʳ (cosine_sum 9 v -ʳ cosine_sum 9 w) ≤ʳ t
  pub cos_down : of_whole (pos 2) *ʳ (cosine_sum 9 w -ʳ cosine_sum 9 v) ≤ʳ t
  pub sin_up : of_whole (pos 2) *ʳ (sine_sum 9 v -ʳ sine_sum 9 w) ≤ʳ t
  pub sin_down : of_whole (pos 2) *ʳ (sine_sum 9 w -ʳ sine_sum 9 v) ≤ʳ t

pub sums_follow : (d t v w : Rational) → InRange 0 v → InRange 0 w → of_whole (pos 4) *ʳ d ≤ʳ t → AreWithin d v w → AreAlike t v w
sums_follow d t v w hv hw h n =
    let sums_are_within = canonical_law 0 d v w (cosine_sum 9 v) (sine_sum 9 v) (cosine_sum 9 w) (sine_sum 9 w) (lit≤ tt) (own v hv) (own w hw) n in
    let cosines_close = twice_within d (cosine_sum 9 v) (cosine_sum 9 w) t h sums_are_within.0 in
    let sines_close = twice_within d (sine_sum 9 v) (sine_sum 9 w) t h sums_are_within.1 in
    record { cos_up = cosines_close.0; cos_down = cosines_close.1; sin_up = sines_close.0; sin_down = sines_close.1 }

-- ---- one more term
longer : (m : ℕ) (v : Rational) (n : ℕ) → sum_of_terms m v (suc n) ≡ sum_of_terms m v n +ʳ term m v (suc n)
unfolding sum_of_terms
longer m v n = refl

-- (-q)^2n ≥ r^2n where 0 ≤ r ≤ q
abbrev even : ℕ → ℕ
even zero = zero
even (suc n) = suc (suc (even n))

powers : (n : ℕ) (r q : Rational) → of_whole (pos 0) ≤ʳ r → r ≤ʳ q → (of_whole (pos 0) ≤ʳ power_r r (even n)) × (power_r r (even n) ≤ʳ power_r (neg_r q) (even n))
unfolding power_r
powers zero r q a b = (le_pos 0 1 (lit≤ tt), le_pos 1 1 (lit≤ tt))
powers (suc n) r q a b =
    let powers_before = powers n r q a b in
    let x : Rational = power_r r (even n) in
    let y : Rational = power_r (neg_r q) (even n) in
    (power_nn r x a powers_before.0, power_step r q x y a b powers_before.0 powers_before.1)

power_positive : (n : ℕ) (r : Rational) → pos 0 <ℤ r.num → pos 0 <ℤ (power_r r n).num
unfolding power_r
power_positive zero r h = lt_pos 0 1 (lit< tt)
power_positive (suc n) r h = mul_positive r.num (power_r r n).num h (power_positive n r h)

divided_mono : (p q : Rational) (n : ℕ) (h : 0 < n) → p ≤ʳ q → divided p n h ≤ʳ divided q n h
divided_mono p q n h k = le_by (p.num ∷ pos p.den ∷ q.num ∷ pos q.den ∷ pos n ∷ []) (λ p d q e n. (p ⊗ (n ⊗ e), q ⊗ (n ⊗ d), n ⊗ (q ⊗ d ⊖ p ⊗ e))) refl (prod_nn (pos_nn n) (less_nn k))

divided_nn : (p : Rational) (n : ℕ) (h : 0 < n) → of_whole (pos 0) ≤ʳ p → of_whole (pos 0) ≤ʳ divided p n h
divided_nn p n h k = le_by (p.num ∷ pos p.den ∷ pos n ∷ []) (λ p d n. (nat 0 ⊗ (n ⊗ d), p ⊗ nat 1, p ⊗ nat 1 ⊖ nat 0 ⊗ d)) refl (less_nn k)

-- what the last terms at angles of at least u come to: u^20/20!, and u^20/21!, which u multiplies
pub last_cosine : Rational → Rational
last_cosine u = divided (power_r (u *ʳ u) 10) (factorial 20) (factorial_positive 20)

last_sine : Rational → Rational
last_sine u = divided (power_r (u *ʳ u) 10) (factorial 21) (factorial_positive 21)

pub last_product : Rational → Rational
last_product u = u *ʳ last_sine u

pub last_cosine_positive : (u : Rational) → pos 0 <ℤ u.num → pos 0 <ℤ (last_cosine u).num
unfolding last_cosine
last_cosine_positive u h = power_positive 10 (u *ʳ u) (mul_positive u.num u.num h h)

pub last_product_positive : (u : Rational) → pos 0 <ℤ u.num → pos 0 <ℤ (last_product u).num
unfolding last_product last_sine
last_product_positive u h = mul_positive u.num (power_r (u *ʳ u) 10).num h (power_positive 10 (u *ʳ u) (mul_positive u.num u.num h h))

cosine_term : (u v : Rational) → u *ʳ u ≤ʳ v *ʳ v → last_cosine u ≤ʳ term 0 v 10
unfolding last_cosine
cosine_term u v h = divided_mono (power_r (u *ʳ u) 10) (power_r (neg_r (v *ʳ v)) 10) (factorial 20) (factorial_positive 20) (powers 5 (u *ʳ u) (v *ʳ v) (square_r-nonneg u) h).1

sine_term : (u v : Rational) → u *ʳ u ≤ʳ v *ʳ v → (of_whole (pos 0) ≤ʳ last_sine u) × (last_sine u ≤ʳ term 1 v 10)
unfolding last_sine
sine_term u v h =
    let power_bounds = powers 5 (u *ʳ u) (v *ʳ v) (square_r-nonneg u) h in (
      divided_nn (power_r (u *ʳ u) 10) (factorial 21) (factorial_positive 21) power_bounds.0,
      divided_mono (power_r (u *ʳ u) 10) (power_r (neg_r (v *ʳ v)) 10) (factorial 21) (factorial_positive 21) power_bounds.1,
    )

-- ---- a base that is t from the sums at w lies between those at v
pub cosine_between : (u v w t : Rational) → of_whole (pos 0) ≤ʳ t → AreAlike t v w → u *ʳ u ≤ʳ v *ʳ v → of_whole (pos 2) *ʳ t ≤ʳ last_cosine u →
    IsBetween (cosine_sum 9 v) (cosine_sum 10 v) (cosine_sum 9 w +ʳ t)
cosine_between u v w t t0 a f h =
    let cosine : Rational = cosine_sum 9 v in
    let next_term : Rational = term 0 v 10 in
    let last_at_most = ≤ʳ_trans (of_whole (pos 2) *ʳ t) (last_cosine u) next_term h (cosine_term u v f) in
    subst (λ (y : Rational). IsBetween cosine y (cosine_sum 9 w +ʳ t)) (sym (longer 0 v 9)) (inl (cos_low cosine (cosine_sum 9 w) t a.cos_up t0, cos_high cosine (cosine_sum 9 w) t next_term a.cos_down t0 last_at_most))

pub sine_between : (u v w t : Rational) → of_whole (pos 0) ≤ʳ t → AreAlike t v w → u *ʳ u ≤ʳ v *ʳ v → of_whole (pos 0) ≤ʳ u → u ≤ʳ v →
    of_whole (pos 2) *ʳ t ≤ʳ last_product u → IsBetween (sine_sum 9 v) (sine_sum 10 v) (sine_sum 9 w +ʳ t)
unfolding last_product
sine_between u v w t t0 a f u0 l h =
    let sine : Rational = sum_of_terms 1 v 9 in
    let next_term : Rational = term 1 v 10 in
    let sine_term_bounds = sine_term u v f in
    let last_at_most = ≤ʳ_trans (of_whole (pos 2) *ʳ t) (u *ʳ last_sine u) (v *ʳ next_term) h (product_up u v (last_sine u) next_term u0 l sine_term_bounds.0 sine_term_bounds.1) in
    subst (λ (y : Rational). IsBetween (sine_sum 9 v) (v *ʳ y) (sine_sum 9 w +ʳ t)) (sym (longer 1 v 9)) (inl (sin_low v sine (sine_sum 9 w) t a.sin_up t0, sin_high v sine (sine_sum 9 w) t next_term a.sin_down t0 last_at_most))

pub sine_between_neg : (u v w t : Rational) → of_whole (pos 0) ≤ʳ t → AreAlike t v w → u *ʳ u ≤ʳ v *ʳ v → of_whole (pos 0) ≤ʳ u → u ≤ʳ neg_r v →
    of_whole (pos 2) *ʳ t ≤ʳ last_product u → IsBetween (sine_sum 9 v) (sine_sum 10 v) (sine_sum 9 w +ʳ neg_r t)
unfolding last_product
sine_between_neg u v w t t0 a f u0 l h =
    let sine : Rational = sum_of_terms 1 v 9 in
    let next_term : Rational = term 1 v 10 in
    let sine_term_bounds = sine_term u v f in
    let last_at_most = ≤ʳ_trans (of_whole (pos 2) *ʳ t) (u *ʳ last_sine u) (neg_r v *ʳ next_term) h (product_up u (neg_r v) (last_sine u) next_term u0 l sine_term_bounds.0 sine_term_bounds.1) in
    subst (λ (y : Rational). IsBetween (sine_sum 9 v) (v *ʳ y) (sine_sum 9 w +ʳ neg_r t)) (sym (longer 1 v 9)) (inr (sin_low_neg v sine (sine_sum 9 w) t next_term a.sin_up t0 last_at_most, sin_high_neg v sine (sine_sum 9 w) t a.sin_down t0))
