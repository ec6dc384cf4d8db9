-- The fixed point: an angle near enough to the one that is sought, a base that lies strictly between its sums, and the angle that
-- this base's sine gives, at which it still lies between the sums.
use Rattle.std.proofs.Common.{◌≡◌, ℕ, zero, suc, ◌+◌, ◌*◌, ◌^◌, ◌≤◌, ◌<◌, [], ◌∷◌, ℤ, pos, ◌*ℤ◌, ◌+ℤ◌, neg_ℤ, ◌≤ℤ◌, ◌<ℤ◌, unsigned_abs, arith, refl, lit≤, lit<, pow_pos, sym, ap, ◌∙◌}
use Rattle.std.proofs.lemmas.Int.{ints, by_lt_z}
use Rattle.whole_math.proofs.Ring.{◌⊕◌, ◌⊗◌, ng}
use Rattle.whole_math.proofs.Order.{le_pos, mul_le_right}
use Rattle.whole_math.proofs.IntLaws.{mul_one_ℤ, zero_mul_ℤ}
use Rattle.whole_math.proofs.Inequalities.{same_by, nat, pos_nn, le_refl_ℤ}
use Rattle.whole_math.proofs.Powers.{pow_suc}
use Rattle.whole_math.specs.Rational.{Rational, ◌≈◌, ◌≤ʳ◌, of_whole, ◌+ʳ◌, ◌-ʳ◌, ◌*ʳ◌, neg_r, divided, two_to_minus, IsBetween}
use Rattle.trig_box.specs.AnglePairs.{Pair, doubled, cosine_sum, sine_sum, part, InRange, IsAnglePair}
use Rattle.trig_box.specs.CanonicalPairs.{taylor_pair}
use Rattle.trig_box.proofs.PairLaws.{canonical_is_pair}
use Rattle.orbit_model.proofs.Orders.{root_r}
use Rattle.sv_orbit.specs.FixedAngles.{IsSmallSlope, IsStart, HasFixedAngle}
use Rattle.sv_orbit.proofs.Certs.{gap_first, gap_root, gap_root_back, angle_up, angle_down, angle_most, angle_least, square_up, square_down, far, far_neg, parts, stays, eight_t, far_new, far_new_neg, is_nn}
use Rattle.sv_orbit.proofs.Sums.{AreAlike, sums_follow, last_cosine, last_product, last_cosine_positive, last_product_positive, cosine_between, sine_between, sine_between_neg}
use Rattle.sv_orbit.proofs.Growth.{IsNormed, growth, normed}
use Rattle.sv_orbit.proofs.Iterates.{pair_at, sine_at, in_range, canonical_at, sine_of_zero, IsGiven, IsNear, near_sized, most_15, sized_in_range, iterate, later_near, last_step, power_nn}

-- ---- parts of an angle
part_is : (x : Rational) → of_whole (pos 32) *ʳ part 5 x ≈ x
part_is x = same_by (x.num ∷ pos x.den ∷ []) (λ n d. (nat 32 ⊗ n ⊗ d, n ⊗ (nat 1 ⊗ (nat 32 ⊗ d)))) refl

part_in_range : (x : Rational) → InRange 5 x → InRange 0 (part 5 x)
part_in_range x h = go x.num x.den h
  where
    go : (n : ℤ) (d : ℕ) → 2 * unsigned_abs n ≤ 2 ^ 5 * d → 2 * unsigned_abs n ≤ 2 ^ 0 * (2 ^ 5 * d)
    go n d h = omega (arith, ints)

fourth : Rational → Rational
fourth t = divided t 4 (lit< tt)

fourth_is : (t : Rational) → (of_whole (pos 4) *ʳ fourth t ≤ʳ t) × (t ≤ʳ of_whole (pos 4) *ʳ fourth t)
unfolding fourth
fourth_is t = go t.num (pos t.den)
  where
    go : (n d : ℤ) → (((pos 4 *ℤ n) *ℤ d) ≤ℤ (n *ℤ (pos 1 *ℤ (pos 4 *ℤ d)))) × ((n *ℤ (pos 1 *ℤ (pos 4 *ℤ d))) ≤ℤ ((pos 4 *ℤ n) *ℤ d))
    go n d =
        let same_quarter : (pos 4 *ℤ n) *ℤ d ≡ n *ℤ (pos 1 *ℤ (pos 4 *ℤ d)) = same_by (n ∷ d ∷ []) (λ n d. (nat 4 ⊗ n ⊗ d, n ⊗ (nat 1 ⊗ (nat 4 ⊗ d)))) refl in
        same ((pos 4 *ℤ n) *ℤ d) (n *ℤ (pos 1 *ℤ (pos 4 *ℤ d))) same_quarter
      where
        same : (x y : ℤ) → x ≡ y → (x ≤ℤ y) × (y ≤ℤ x)
        same x y same_quarter = (omega (arith, ints), omega (arith, ints))

-- the sums at the parts of angles that are within 8t of each other
alike : (t E F : Rational) → InRange 5 E → InRange 5 F → F -ʳ E ≤ʳ of_whole (pos 8) *ʳ t → E -ʳ F ≤ʳ of_whole (pos 8) *ʳ t → AreAlike t (part 5 F) (part 5 E)
alike t E F re rf up down =
    let d : Rational = fourth t in
    let quarter_is = fourth_is t in
    sums_follow d t (part 5 F) (part 5 E) (part_in_range F rf) (part_in_range E re) quarter_is.0
    (parts F E (part 5 F) (part 5 E) t d up quarter_is.1 (part_is F) (part_is E), parts E F (part 5 E) (part 5 F) t d down quarter_is.1 (part_is E) (part_is F))

-- ---- the step t, beside u = a/64
record IsStep (a u t : Rational) : Type 0 where
  is_share : of_whole (pos 64) *ʳ u ≈ a
  share_nn : of_whole (pos 0) ≤ʳ u
  not_negative : of_whole (pos 0) ≤ʳ t
  below : of_whole (pos 2) *ʳ t ≤ʳ u
  cosine : of_whole (pos 2) *ʳ t ≤ʳ last_cosine u
  product : of_whole (pos 2) *ʳ t ≤ʳ last_product u

-- what differs by the sign of A: the sine of the base is x from the sum, and it lies between the sums at each angle that is
-- within 8t of an angle near A
record IsFacing (A a u t x : Rational) : Type 0 where
  square : x *ʳ x ≈ t *ʳ t
  far_off : (E F : Rational) → IsNear A a E → F -ʳ E ≤ʳ of_whole (pos 8) *ʳ t → E -ʳ F ≤ʳ of_whole (pos 8) *ʳ t → u *ʳ u ≤ʳ part 5 F *ʳ part 5 F
  between : (E F : Rational) → IsNear A a E → F -ʳ E ≤ʳ of_whole (pos 8) *ʳ t → E -ʳ F ≤ʳ of_whole (pos 8) *ʳ t → AreAlike t (part 5 F) (part 5 E) →
      IsBetween (sine_sum 9 (part 5 F)) (sine_sum 10 (part 5 F)) (sine_sum 9 (part 5 E) +ʳ x)

facing_up : (A a u t : Rational) → a ≤ʳ A → IsStep a u t → IsFacing A a u t t
facing_up A a u t h s = record {
  square = refl;
  far_off = λ E F n up down. square_up u (part 5 F) s.share_nn (away E F n down);
  between = λ E F n up down k. sine_between u (part 5 F) (part 5 E) t s.not_negative k (square_up u (part 5 F) s.share_nn (away E F n down)) s.share_nn (away E F n down) s.product;
}
  where
    away : (E F : Rational) → IsNear A a E → E -ʳ F ≤ʳ of_whole (pos 8) *ʳ t → u ≤ʳ part 5 F
    away E F n down = far_new E F a (part 5 F) u t (far E A a n.down h) down s.below s.share_nn (part_is F) s.is_share

facing_down : (A a u t : Rational) → a ≤ʳ neg_r A → IsStep a u t → IsFacing A a u t (neg_r t)
facing_down A a u t h s = record {
  square = same_by (t.num ∷ pos t.den ∷ []) (λ n d. (ng n ⊗ ng n ⊗ (d ⊗ d), n ⊗ n ⊗ (d ⊗ d))) refl;
  far_off = λ E F n up down. square_down u (part 5 F) s.share_nn (away E F n up);
  between = λ E F n up down k. sine_between_neg u (part 5 F) (part 5 E) t s.not_negative k (square_down u (part 5 F) s.share_nn (away E F n up)) s.share_nn (away E F n up) s.product;
}
  where
    away : (E F : Rational) → IsNear A a E → F -ʳ E ≤ʳ of_whole (pos 8) *ʳ t → u ≤ʳ neg_r (part 5 F)
    away E F n up = far_new_neg E F a (part 5 F) u t (far_neg E A a n.up h) up s.below s.share_nn (part_is F) s.is_share

-- ---- the base at E, and the angle that it gives
abbrev base_at : Rational → Rational → Rational → Pair
base_at t x E = record { cos = cosine_sum 9 (part 5 E) +ʳ t; sin = sine_sum 9 (part 5 E) +ʳ x }

-- the base at E makes a pair of F
pair_of : (A a u t x E F : Rational) → IsStep a u t → IsFacing A a u t x → IsNear A a E → InRange 5 E → InRange 5 F →
    F -ʳ E ≤ʳ of_whole (pos 8) *ʳ t → E -ʳ F ≤ʳ of_whole (pos 8) *ʳ t → IsAnglePair 5 F (doubled 5 (base_at t x E)).cos (doubled 5 (base_at t x E)).sin
pair_of A a u t x E F s f n re rf up down =
    let are_alike = alike t E F re rf up down in
    record {
      in_range = rf;
      start = base_at t x E;
      cos_between = cosine_between u (part 5 F) (part 5 E) t s.not_negative are_alike (f.far_off E F n up down) s.cosine;
      sin_between = f.between E F n up down are_alike;
      cos_is = refl;
      sin_is = refl;
    }

-- the sines of the base at E and of the canonical one differ by at most 80 t
sines : (t x E : Rational) → of_whole (pos 0) ≤ʳ t → x *ʳ x ≈ t *ʳ t → IsNormed (doubled 5 (base_at t x E)) → IsNormed (pair_at E)
    → ((doubled 5 (base_at t x E)).sin -ʳ sine_at E ≤ʳ of_whole (pos 80) *ʳ t) × (sine_at E -ʳ (doubled 5 (base_at t x E)).sin ≤ʳ of_whole (pos 80) *ʳ t)
sines t x E t0 q b c =
    let base : Pair = base_at t x E in
    let taylor : Pair = taylor_pair (part 5 E) in
    let m : Rational = of_whole (pos 2) *ʳ (t *ʳ t) in
    let doubled_gap = growth 5 base taylor m b c (gap_first (cosine_sum 9 (part 5 E)) (sine_sum 9 (part 5 E)) x t q) in
    let left_pair : Pair = doubled 5 base in
    let right_pair : Pair = doubled 5 taylor in (
      root_r (left_pair.sin -ʳ right_pair.sin) (of_whole (pos 80) *ʳ t) (is_nn t t0) (gap_root left_pair.cos left_pair.sin right_pair.cos right_pair.sin t doubled_gap),
      root_r (right_pair.sin -ʳ left_pair.sin) (of_whole (pos 80) *ʳ t) (is_nn t t0) (gap_root_back left_pair.cos left_pair.sin right_pair.cos right_pair.sin t doubled_gap),
    )

found : (A g a u x : Rational) (j : ℕ) → IsGiven A g a → IsStep a u (two_to_minus j) → IsFacing A a u (two_to_minus j) x → HasFixedAngle A g
found A g a u x j i s f =
    let tolerance : Rational = two_to_minus j in
    let E : Rational = iterate A g (suc (5 + j)) in
    let is_near_anomaly = later_near A g a (5 + j) i in
    let is_sized = near_sized A g a E i is_near_anomaly in
    let iterate_in_range = sized_in_range A g a E i is_sized in
    let at_most_fifteen = most_15 A g a E i is_sized in
    let stays_put = stays E tolerance s.not_negative in
    let is_angle_pair = pair_of A a u tolerance x E E s f is_near_anomaly iterate_in_range iterate_in_range stays_put stays_put in
    let pair : Pair = doubled 5 (base_at tolerance x E) in
    let left_is_normed = normed E pair is_angle_pair in
    let right_is_normed = normed E (pair_at E) (canonical_is_pair 5 E (pair_at E).cos (pair_at E).sin (canonical_at E iterate_in_range)) in
    let sines_close = sines tolerance x E s.not_negative f.square left_is_normed right_is_normed in
    let last_step_small = last_step A g a j i in
    let F : Rational = A +ʳ g *ʳ pair.sin in
    let not_far_above = angle_up A g pair.sin (sine_at E) tolerance E i.small.0 i.small.1 sines_close.0 sines_close.1 last_step_small.0 s.not_negative in
    let down = angle_down A g pair.sin (sine_at E) tolerance E i.small.0 i.small.1 sines_close.0 sines_close.1 last_step_small.1 s.not_negative in
    let eightfold_at_most = eight_t tolerance u a s.below i.most s.is_share in
    let fixed_in_range = in_range F (angle_most E F tolerance not_far_above at_most_fifteen.0 eightfold_at_most) (angle_least E F tolerance down at_most_fifteen.1 eightfold_at_most) in
    record { angle = F; cos = pair.cos; sin = pair.sin; is_pair = pair_of A a u tolerance x E F s f is_near_anomaly iterate_in_range fixed_in_range not_far_above down; is_sum = refl }

-- ---- a step that is small enough
below_power : (n : ℕ) → n ≤ 2 ^ n
below_power zero = lit≤ tt
below_power (suc n) = go n (2 ^ n) (2 ^ suc n) (below_power n) (pow_pos n) (pow_suc 2 n)
  where
    go : (n p q : ℕ) → n ≤ p → 0 < p → pos q ≡ pos 2 *ℤ pos p → suc n ≤ q
    go n p q h k e = omega (arith, ints)

small : (m : ℕ) (q : Rational) → pos 0 <ℤ q.num → q.den ≤ m → of_whole (pos 2) *ʳ two_to_minus (suc m) ≤ʳ q
small m q h k = go q.num q.den m (2 ^ m) (2 ^ suc m) h k (below_power m) (pow_suc 2 m)
  where
    product : (n : ℤ) (p : ℕ) → pos 0 <ℤ n → pos p ≤ℤ (n *ℤ pos p)
    product n p h = plain p (n *ℤ pos p) (mul_le_right (pos p) (pos 1) n (pos_nn p) (one n h))
      where
        plain : (p : ℕ) (x : ℤ) → (pos 1 *ℤ pos p) ≤ℤ x → pos p ≤ℤ x
        plain p x h = omega (arith, ints)

        one : (n : ℤ) → pos 0 <ℤ n → pos 1 ≤ℤ n
        one n h = omega (arith, ints)

    go : (n : ℤ) (d m p q : ℕ) → pos 0 <ℤ n → d ≤ m → m ≤ p → pos q ≡ pos 2 *ℤ pos p → ((pos 2 *ℤ pos 1) *ℤ pos d) ≤ℤ (n *ℤ pos (1 * q))
    go n d m p q h k l e = let product_at_least : pos (1 * q) ≤ℤ (n *ℤ pos (1 * q)) = product n (1 * q) h in omega (arith, ints)

share : Rational → Rational
share a = divided a 64 (lit< tt)

share_is : (a : Rational) → of_whole (pos 64) *ʳ share a ≈ a
unfolding share
share_is a = same_by (a.num ∷ pos a.den ∷ []) (λ n d. (nat 64 ⊗ n ⊗ d, n ⊗ (nat 1 ⊗ (nat 64 ⊗ d)))) refl

share_positive : (a : Rational) → pos 0 <ℤ a.num → pos 0 <ℤ (share a).num
unfolding share
share_positive a h = h

from_positive : (x : Rational) → pos 0 <ℤ x.num → of_whole (pos 0) ≤ʳ x
from_positive x h = go x.num x.den h
  where
    go : (n : ℤ) (d : ℕ) → pos 0 <ℤ n → (pos 0 *ℤ pos d) ≤ℤ (n *ℤ pos 1)
    go n d h = omega (arith, ints)

-- 2^-j with j - 1 the sum of three denominators
exponent : Rational → ℕ
exponent a = (share a).den + ((last_cosine (share a)).den + (last_product (share a)).den)

step_at : (a : Rational) → pos 0 <ℤ a.num → IsStep a (share a) (two_to_minus (suc (exponent a)))
unfolding exponent
step_at a h =
    let share : Rational = share a in
    let share_is_positive = share_positive a h in
    let x : ℕ = share.den in
    let y : ℕ = (last_cosine share).den in
    let z : ℕ = (last_product share).den in
    record {
      is_share = share_is a;
      share_nn = from_positive share share_is_positive;
      not_negative = power_nn (suc (x + (y + z)));
      below = small (x + (y + z)) share share_is_positive (first x y z);
      cosine = small (x + (y + z)) (last_cosine share) (last_cosine_positive share share_is_positive) (second x y z);
      product = small (x + (y + z)) (last_product share) (last_product_positive share share_is_positive) (third x y z);
    }
  where
    first : (x y z : ℕ) → x ≤ x + (y + z)
    first x y z = omega arith

    second : (x y z : ℕ) → y ≤ x + (y + z)
    second x y z = omega arith

    third : (x y z : ℕ) → z ≤ x + (y + z)
    third x y z = omega arith

-- ---- the law, by the sign of A
self : (x : Rational) → x ≤ʳ x
self x = le_refl_ℤ (x.num *ℤ pos x.den)

positive : (A g : Rational) → IsStart A → IsSmallSlope g → pos 0 <ℤ A.num → HasFixedAngle A g
positive A g b s h =
    let share_of_anomaly : Rational = share A in
    let j : ℕ = suc (exponent A) in
    let tolerance : Rational = two_to_minus j in
    let is_step = step_at A h in
    found A g A share_of_anomaly tolerance j (record { small = s; up = self A; down = go A.num A.den h; not_negative = from_positive A h; most = b.0 }) is_step (facing_up A A share_of_anomaly tolerance (self A) is_step)
  where
    go : (n : ℤ) (d : ℕ) → pos 0 <ℤ n → (neg_ℤ n *ℤ pos d) ≤ℤ (n *ℤ pos d)
    go n d h = mul_le_right (pos d) (neg_ℤ n) n (pos_nn d) (omega (arith, ints))

negative : (A g : Rational) → IsStart A → IsSmallSlope g → A.num <ℤ pos 0 → HasFixedAngle A g
negative A g b s h =
    let a : Rational = neg_r A in
    let turned_positive = turned A.num h in
    let share_of_anomaly : Rational = share a in
    let j : ℕ = suc (exponent a) in
    let tolerance : Rational = two_to_minus j in
    let is_step = step_at a turned_positive in
    found A g a share_of_anomaly (neg_r tolerance) j (record { small = s; up = go A.num A.den h; down = self a; not_negative = from_positive a turned_positive; most = b.1 }) is_step (facing_down A a share_of_anomaly tolerance (self a) is_step)
  where
    turned : (n : ℤ) → n <ℤ pos 0 → pos 0 <ℤ neg_ℤ n
    turned n h = omega (arith, ints)

    go : (n : ℤ) (d : ℕ) → n <ℤ pos 0 → (n *ℤ pos d) ≤ℤ (neg_ℤ n *ℤ pos d)
    go n d h = mul_le_right (pos d) n (neg_ℤ n) (pos_nn d) (omega (arith, ints))

neither : (A g : Rational) → A.num ≡ pos 0 → HasFixedAngle A g
neither A g h =
    let zero_angle : Rational = of_whole (pos 0) in
    let zero_in_range = in_range zero_angle (le_pos 0 16 (lit≤ tt)) (le_pos 0 16 (lit≤ tt)) in
    record {
      angle = zero_angle;
      cos = (pair_at zero_angle).cos;
      sin = sine_at zero_angle;
      is_pair = canonical_is_pair 5 zero_angle (pair_at zero_angle).cos (pair_at zero_angle).sin (canonical_at zero_angle zero_in_range);
      is_sum = go A.num (pos A.den) g.num (pos g.den) (sine_at zero_angle).num (pos (sine_at zero_angle).den) h sine_of_zero;
    }
  where
    go : (n d m e k f : ℤ) → n ≡ pos 0 → k *ℤ pos 1 ≡ pos 0 *ℤ f → pos 0 *ℤ (d *ℤ (e *ℤ f)) ≡ ((n *ℤ (e *ℤ f)) +ℤ ((m *ℤ k) *ℤ d)) *ℤ pos 1
    go n d m e k f h q = let is_zero : k ≡ pos 0 = none k f q in
        same_by (d ∷ e ∷ f ∷ m ∷ []) (λ d e f m. (nat 0 ⊗ (d ⊗ (e ⊗ f)), (nat 0 ⊗ (e ⊗ f) ⊕ m ⊗ nat 0 ⊗ d) ⊗ nat 1)) refl
        ∙ ap (λ (z : ℤ). ((z *ℤ (e *ℤ f)) +ℤ ((m *ℤ pos 0) *ℤ d)) *ℤ pos 1) (back n h)
        ∙ ap (λ (z : ℤ). ((n *ℤ (e *ℤ f)) +ℤ ((m *ℤ z) *ℤ d)) *ℤ pos 1) (back k is_zero)
      where
        none : (k f : ℤ) → k *ℤ pos 1 ≡ pos 0 *ℤ f → k ≡ pos 0
        none k f q = sym (mul_one_ℤ k) ∙ q ∙ zero_mul_ℤ f

        back : (x : ℤ) → x ≡ pos 0 → pos 0 ≡ x
        back x e = sym e

pub fixed_angle : (A g : Rational) → IsStart A → IsSmallSlope g → HasFixedAngle A g
fixed_angle A g b s = by_lt_z (pos 0) A.num (positive A g b s) (λ h. by_lt_z A.num (pos 0) (negative A g b s) (λ k. neither A g (both A.num h k)))
  where
    both : (n : ℤ) → n ≤ℤ pos 0 → pos 0 ≤ℤ n → n ≡ pos 0
    both n h k = omega (arith, ints)
