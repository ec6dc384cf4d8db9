-- Each usable record has a near solution, whose clock is that of the tangent at a first clock. Where af2 is 0 it is an exact one.
use Rattle.std.proofs.Common.{◌≡◌, ℕ, ◌*◌, ◌^◌, ◌≤◌, ◌<◌, [], ◌∷◌, ℤ, pos, ◌*ℤ◌, neg_ℤ, ◌≤ℤ◌, ◌<ℤ◌, unsigned_abs, arith, refl, lit≤, lit<, subst}
use Rattle.std.proofs.lemmas.Int.{ints}
use Rattle.whole_math.proofs.Ring.{◌⊗◌, ng}
use Rattle.whole_math.proofs.Order.{le_pos, lt_pos}
use Rattle.whole_math.proofs.Inequalities.{same_by, nat, pos_nn, le_refl_ℤ}
use Rattle.whole_math.proofs.IntLaws.{neg_mul_ℤ}
use Rattle.whole_math.specs.Rational.{Rational, ◌≈◌, ◌≤ʳ◌, of_whole, ◌+ʳ◌, ◌-ʳ◌, ◌*ʳ◌, neg_r, times, two_to_minus, IsAtMostInSize, IsNearRoot}
use Rattle.whole_math.proofs.RationalLaws.{≤ʳ_trans, ≈_sym}
use Rattle.whole_math.proofs.RationalSizes.{size_add, size_sub, size_mul, size_along, size_looser, size_over, positive_above}
use Rattle.whole_math.proofs.RationalQuotients.{quotient_exists}
use Rattle.trig_box.specs.AnglePairs.{Pair, InRange, IsAnglePair, double}
use Rattle.trig_box.proofs.PairLaws.{canonical_exists, canonical_is_pair, size_law_5}
use Rattle.orbit_model.specs.Elements.{Elements, Constants, earth_rate}
use Rattle.orbit_model.specs.Solution.{Quantities, IsSatelliteSolution, turned, harmonic, one, with_share, IsNearSolution, HasNearSolution}
use Rattle.orbit_model.proofs.Orders.{root_r}
use Rattle.orbit_model.proofs.NearRoots.{near_high, root_nn}
use Rattle.sv_orbit.specs.FixedAngles.{IsSmallSlope}
use Rattle.sv_orbit.specs.Usable.{fraction, AreUsable, HasSolution, relativity_of}
use Rattle.sv_orbit.proofs.Roots.{near_root_exists}
use Rattle.sv_orbit.proofs.Fixed.{fixed_angle}
use Rattle.sv_orbit.proofs.SolutionCerts.{root_square, rest_square, rest_least, ecc_32, minus_nn, one_plus, one_minus, product_least, kepler_line, linear_line, turned_time, tangent, no_share, zero_share, first_error}

-- ---- sizes, with the numbers told by the types
pub record In (b q : Rational) : Type 0 where
  pub size : IsAtMostInSize b q

sum_in : {a b p q : Rational} → In a p → In b q → In (a +ʳ b) (p +ʳ q)
sum_in {a} {b} {p} {q} h k = record { size = size_add a b p q h.size k.size }

less_in : {a b p q : Rational} → In a p → In b q → In (a +ʳ b) (p -ʳ q)
less_in {a} {b} {p} {q} h k = record { size = size_sub a b p q h.size k.size }

product_in : {a b p q : Rational} → In a p → In b q → In (a *ʳ b) (p *ʳ q)
product_in {a} {b} {p} {q} h k = record { size = size_mul a b p q h.size k.size }

loose : {a q : Rational} (b : Rational) → In a q → a ≤ʳ b → In b q
loose {a} {q} b h l = record { size = size_looser a b q l h.size }

along : {b p : Rational} (q : Rational) → p ≈ q → In b p → In b q
along {b} {p} q e h = record { size = size_along b p q e h.size }

itself : (a : ℕ) (d : ℕ) (h : 0 < d) → In (fraction a d h) (fraction a d h)
itself a d h = record { size = (le_refl_ℤ (pos a *ℤ pos d), down (pos a *ℤ pos d) (neg_ℤ (pos a) *ℤ pos d) (pos_nn (a * d)) (neg_mul_ℤ (pos a) (pos d))) }
  where
    down : (x y : ℤ) → pos 0 ≤ℤ x → y ≡ neg_ℤ x → y ≤ℤ x
    down x y h e = omega (arith, ints)

is_in : (b q : Rational) → IsAtMostInSize b q → In b q
is_in b q h = record { size = h }

-- a number from 0 on
from_zero_in : (b q : Rational) → of_whole (pos 0) ≤ʳ q → of_whole (pos 0) ≤ʳ b → q ≤ʳ b → In b q
from_zero_in b q h k l = record { size = (l, minus_nn q b h k) }

range_5 : (x : Rational) → In (of_whole (pos 16)) x → InRange 5 x
range_5 x h = go x.num x.den h.size.0 h.size.1
  where
    go : (n : ℤ) (d : ℕ) → (n *ℤ pos 1) ≤ℤ (pos 16 *ℤ pos d) → (neg_ℤ n *ℤ pos 1) ≤ℤ (pos 16 *ℤ pos d) → 2 * unsigned_abs n ≤ 2 ^ 5 * d
    go n d h k = omega (arith, ints)

range_7 : (x : Rational) → In (of_whole (pos 64)) x → InRange 7 x
range_7 x h = go x.num x.den h.size.0 h.size.1
  where
    go : (n : ℤ) (d : ℕ) → (n *ℤ pos 1) ≤ℤ (pos 64 *ℤ pos d) → (neg_ℤ n *ℤ pos 1) ≤ℤ (pos 64 *ℤ pos d) → 2 * unsigned_abs n ≤ 2 ^ 7 * d
    go n d h k = omega (arith, ints)

-- ---- the canonical pair of an angle in range, as one of its pairs
pub record HasPair (k : ℕ) (x : Rational) : Type 0 where
  pub pair : Pair
  pub is_pair : IsAnglePair k x pair.cos pair.sin

pair_of : (k : ℕ) (x : Rational) → InRange k x → HasPair k x
pair_of k x h =
    let canonical_pair = canonical_exists k x h in
    record { pair = record { cos = canonical_pair.0; sin = canonical_pair.1 }; is_pair = canonical_is_pair k x canonical_pair.0 canonical_pair.1 canonical_pair.2 }

-- both parts of a 5-pair are at most 2
cos_in : (x c s : Rational) → IsAnglePair 5 x c s → In (of_whole (pos 2)) c
cos_in x c s h = loose (of_whole (pos 2)) (is_in (of_whole (pos 1) +ʳ two_to_minus 16) c (size_law_5 x c s h).0) (le_pos 65537 131072 (lit≤ tt))

sin_in : (x c s : Rational) → IsAnglePair 5 x c s → In (fraction 65537 65536 (lit< tt)) s
sin_in x c s h = loose (fraction 65537 65536 (lit< tt)) (is_in (of_whole (pos 1) +ʳ two_to_minus 16) s (size_law_5 x c s h).1) (le_pos _ _ (lit≤ tt))

cos_near : (x c s : Rational) → IsAnglePair 5 x c s → In (fraction 65537 65536 (lit< tt)) c
cos_near x c s h = loose (fraction 65537 65536 (lit< tt)) (is_in (of_whole (pos 1) +ʳ two_to_minus 16) c (size_law_5 x c s h).0) (le_pos _ _ (lit≤ tt))

-- ---- what is above 0
above_zero : (q : Rational) → of_whole (pos 1) ≤ʳ of_whole (pos 2) *ʳ q → pos 0 <ℤ q.num
above_zero q h = go q.num (positive_above (of_whole (pos 1)) (of_whole (pos 2) *ʳ q) (lt_pos 0 1 (lit< tt)) h)
  where
    go : (n : ℤ) → pos 0 <ℤ (pos 2 *ℤ n) → pos 0 <ℤ n
    go n h = omega (arith, ints)

-- ---- the mean motion
pub record HasMotion (world : Constants) (eph : Elements) : Type 0 where
  pub root : Rational
  pub computed : Rational
  pub is_root : IsNearRoot root world.mu
  pub is_computed : computed *ʳ (eph.root_a *ʳ eph.root_a *ʳ eph.root_a) ≈ root
  pub size : In (fraction 221 (10 ^ 6) (lit< tt)) (computed +ʳ eph.dn)

motion : (world : Constants) (eph : Elements) (sent : Rational) → AreUsable world eph sent → HasMotion world eph
motion world eph sent u =
    let root_axis : Rational = eph.root_a in
    let cube : Rational = root_axis *ʳ root_axis *ʳ root_axis in
    let has_root = near_root_exists world.mu (positive_above (of_whole (pos 398600441800000)) world.mu (lt_pos 0 398600441800000 (lit< tt)) u.mu_low) in
    let least = product_least root_axis (of_whole (pos 0)) u.root_low in
    let has_quotient = quotient_exists has_root.root cube (positive_above (of_whole (pos 91125000000)) cube (lt_pos 0 91125000000 (lit< tt)) least) in
    let n0 : Rational = has_quotient.quotient in
    let high = root_r has_root.root (of_whole (pos 20000000)) (le_pos 0 20000000 (lit≤ tt)) (root_square has_root.root world.mu (near_high has_root.root world.mu has_root.is_root) u.mu_high) in
    let root_in = from_zero_in (of_whole (pos 20000000)) has_root.root (root_nn has_root.root world.mu has_root.is_root) (le_pos 0 20000000 (lit≤ tt)) high in
    let product = along (n0 *ʳ cube) (≈_sym (n0 *ʳ cube) has_root.root has_quotient.is_quotient) root_in in
    let n0_in = is_in (fraction 22 (10 ^ 5) (lit< tt)) n0 (size_over (of_whole (pos 20000000)) (of_whole (pos 91125000000)) (fraction 22 (10 ^ 5) (lit< tt)) n0 cube
    (lt_pos 0 91125000000 (lit< tt)) (le_pos 0 22 (lit≤ tt)) least (le_pos _ _ (lit≤ tt)) product.size) in
    record {
      root = has_root.root;
      computed = n0;
      is_root = has_root.is_root;
      is_computed = has_quotient.is_quotient;
      size = loose (fraction 221 (10 ^ 6) (lit< tt)) (sum_in n0_in (is_in (fraction 1 (10 ^ 7) (lit< tt)) eph.dn u.dn)) (le_pos _ _ (lit≤ tt));
    }

-- ---- the eccentricity and the relativistic factor
ecc_in : (world : Constants) (eph : Elements) (sent : Rational) → AreUsable world eph sent → In (fraction 1 32 (lit< tt)) eph.ecc
ecc_in world eph sent u = loose (fraction 1 32 (lit< tt)) (from_zero_in (fraction 3125 (10 ^ 5) (lit< tt)) eph.ecc u.ecc_low (le_pos _ _ (lit≤ tt)) u.ecc_high) (le_pos _ _ (lit≤ tt))

axis_in : (world : Constants) (eph : Elements) (sent : Rational) → AreUsable world eph sent → In (of_whole (pos 6000)) eph.root_a
axis_in world eph sent u = from_zero_in (of_whole (pos 6000)) eph.root_a (≤ʳ_trans (of_whole (pos 0)) (of_whole (pos 4500)) eph.root_a (le_pos 0 4500 (lit≤ tt)) u.root_low) (le_pos 0 6000 (lit≤ tt)) u.root_high

factor_in : (world : Constants) (eph : Elements) (sent : Rational) → AreUsable world eph sent → In (fraction 84 (10 ^ 9) (lit< tt)) (relativity_of world eph)
factor_in world eph sent u = loose (fraction 84 (10 ^ 9) (lit< tt))
    (product_in (product_in (is_in (fraction 4442807633 (10 ^ 19) (lit< tt)) world.relativity u.relativity) (ecc_in world eph sent u)) (axis_in world eph sent u)) (le_pos _ _ (lit≤ tt))

-- ---- the timing, by a linear line of the clock: a + b (t - toc) and the relativistic term
pub record HasTiming (world : Constants) (eph : Elements) (sent a b : Rational) : Type 0 where
  pub motion : HasMotion world eph
  pub clock : Rational
  pub eccentric : Rational
  pub cos : Rational
  pub sin : Rational
  pub is_pair : IsAnglePair 5 eccentric cos sin
  pub kepler : eph.m0 +ʳ (motion.computed +ʳ eph.dn) *ʳ (sent -ʳ clock -ʳ eph.toe) ≈ eccentric -ʳ eph.ecc *ʳ sin
  pub linear : clock ≈ a +ʳ b *ʳ (sent -ʳ clock -ʳ eph.toc) +ʳ relativity_of world eph *ʳ sin
  pub clock_in : In (fraction 1 20 (lit< tt)) clock
  pub time_in : In (of_whole (pos 7203)) (sent -ʳ clock -ʳ eph.toe)

timing : (world : Constants) (eph : Elements) (sent a b : Rational) → AreUsable world eph sent → In (fraction 2 100 (lit< tt)) a → In (fraction 1 (10 ^ 6) (lit< tt)) b → HasTiming world eph sent a b
timing world eph sent a b u ha hb =
    let has_motion = motion world eph sent u in
    let mean_motion : Rational = has_motion.computed +ʳ eph.dn in
    let factor : Rational = relativity_of world eph in
    let factor_in_bounds = factor_in world eph sent u in
    let ecc_in_bounds = ecc_in world eph sent u in
    let since : Rational = sent -ʳ eph.toc in
    let from_toc = is_in (of_whole (pos 14402)) since u.from_toc in
    let from_toe = is_in (of_whole (pos 7202)) (sent -ʳ eph.toe) u.from_toe in
    let value : Rational = a +ʳ b *ʳ since in
    let value_in = loose (fraction 345 (10 ^ 4) (lit< tt)) (sum_in ha (product_in hb from_toc)) (le_pos _ _ (lit≤ tt)) in
    let slope : Rational = of_whole (pos 1) +ʳ b in
    let least : fraction 99 100 (lit< tt) ≤ʳ slope = ≤ʳ_trans (fraction 99 100 (lit< tt)) (of_whole (pos 1) -ʳ fraction 1 (10 ^ 6) (lit< tt)) slope
    (le_pos _ _ (lit≤ tt)) (one_plus b (fraction 1 (10 ^ 6) (lit< tt)) hb.size.1) in
    let inverse = quotient_exists (of_whole (pos 1)) slope (positive_above (fraction 99 100 (lit< tt)) slope (lt_pos 0 99 (lit< tt)) least) in
    let i : Rational = inverse.quotient in
    let unit = along (i *ʳ slope) (≈_sym (i *ʳ slope) (of_whole (pos 1)) inverse.is_quotient) (itself 1 1 (lit< tt)) in
    let i_in = is_in (fraction 102 100 (lit< tt)) i (size_over (of_whole (pos 1)) (fraction 99 100 (lit< tt)) (fraction 102 100 (lit< tt)) i slope
    (lt_pos 0 99 (lit< tt)) (le_pos 0 102 (lit≤ tt)) least (le_pos _ _ (lit≤ tt)) unit.size) in
    let begin : Rational = eph.m0 +ʳ mean_motion *ʳ (sent -ʳ eph.toe -ʳ value *ʳ i) in
    let begin_in = loose (of_whole (pos 12)) (sum_in (is_in (fraction 65 10 (lit< tt)) eph.m0 u.m0) (product_in has_motion.size (less_in from_toe (product_in value_in i_in)))) (le_pos _ _ (lit≤ tt)) in
    let rate : Rational = eph.ecc -ʳ mean_motion *ʳ factor *ʳ i in
    let rate_in = less_in ecc_in_bounds (product_in (product_in has_motion.size factor_in_bounds) i_in) in
    let sixteen = loose (of_whole (pos 1)) (product_in (itself 16 1 (lit< tt)) rate_in) (le_pos _ _ (lit≤ tt)) in
    let has_angle = fixed_angle begin rate begin_in.size (small rate sixteen) in
    let s : Rational = has_angle.sin in
    let effect_in = loose (fraction 85 (10 ^ 9) (lit< tt)) (product_in factor_in_bounds (sin_in has_angle.angle has_angle.cos has_angle.sin has_angle.is_pair)) (le_pos _ _ (lit≤ tt)) in
    let clock : Rational = (value +ʳ factor *ʳ s) *ʳ i in
    let clock_size = loose (fraction 1 20 (lit< tt)) (product_in (sum_in value_in effect_in) i_in) (le_pos _ _ (lit≤ tt)) in
    record {
      motion = has_motion;
      clock = clock;
      eccentric = has_angle.angle;
      cos = has_angle.cos;
      sin = s;
      is_pair = has_angle.is_pair;
      kepler = kepler_line eph.m0 mean_motion sent eph.toe value factor i eph.ecc has_angle.angle s has_angle.is_sum;
      linear = linear_line a b sent eph.toc factor i s inverse.is_quotient;
      clock_in = clock_size;
      time_in = loose (of_whole (pos 7203)) (along (sent -ʳ clock -ʳ eph.toe) (turned_time sent clock eph.toe) (less_in from_toe clock_size)) (le_pos _ _ (lit≤ tt));
    }
  where
    small : (r : Rational) → In (of_whole (pos 1)) (fraction 16 1 (lit< tt) *ʳ r) → IsSmallSlope r
    small r h = (h.size.0, back r.num r.den h.size.1)
      where
        back : (n : ℤ) (d : ℕ) → (neg_ℤ (pos 16 *ℤ n) *ℤ pos 1) ≤ℤ (pos 1 *ℤ pos (1 * d)) → ((pos 16 *ℤ neg_ℤ n) *ℤ pos 1) ≤ℤ (pos 1 *ℤ pos (1 * d))
        back n d h = subst (λ (z : ℤ). (z *ℤ pos 1) ≤ℤ (pos 1 *ℤ pos (1 * d))) (same_by (n ∷ []) (λ n. (ng (nat 16 ⊗ n), nat 16 ⊗ ng n)) refl) h

-- ---- the place
pub record HasPlane (eph : Elements) (cos sin tk : Rational) : Type 0 where
  pub rest : Rational
  pub is_rest : IsNearRoot rest (one -ʳ eph.ecc *ʳ eph.ecc)
  pub true_pair : Pair
  pub is_cos : true_pair.cos *ʳ (one -ʳ eph.ecc *ʳ cos) ≈ cos -ʳ eph.ecc
  pub is_sin : true_pair.sin *ʳ (one -ʳ eph.ecc *ʳ cos) ≈ rest *ʳ sin
  pub perigee : HasPair 5 eph.peri
  pub change : HasPair 5 (harmonic eph.cus eph.cuc (double (turned true_pair perigee.pair)))
  pub inclined : HasPair 5 (eph.incl +ʳ harmonic eph.cis eph.cic (double (turned true_pair perigee.pair)) +ʳ eph.incl_rate *ʳ tk)
  pub node : HasPair 7 (eph.node +ʳ (eph.node_rate -ʳ earth_rate) *ʳ tk -ʳ earth_rate *ʳ eph.toe_second)

plane : (world : Constants) (eph : Elements) (sent x cos sin tk : Rational) → AreUsable world eph sent → IsAnglePair 5 x cos sin → In (of_whole (pos 7203)) tk → HasPlane eph cos sin tk
plane world eph sent x cos sin tk u p ht =
    let ecc : Rational = eph.ecc in
    let ecc_in_bounds = ecc_in world eph sent u in
    let rest : Rational = one -ʳ ecc *ʳ ecc in
    let has_root = near_root_exists rest (above_zero rest (rest_least ecc u.ecc_low (ecc_32 ecc (fraction 3125 (10 ^ 5) (lit< tt)) u.ecc_high (le_pos _ _ (lit≤ tt))))) in
    let rest_in = from_zero_in (of_whole (pos 2)) has_root.root (root_nn has_root.root rest has_root.is_root) (le_pos 0 2 (lit≤ tt))
    (root_r has_root.root (of_whole (pos 2)) (le_pos 0 2 (lit≤ tt)) (rest_square has_root.root ecc (near_high has_root.root rest has_root.is_root))) in
    let cosine_in_bounds = cos_near x cos sin p in
    let sine_in_bounds = sin_in x cos sin p in
    let rest_of_one : Rational = one -ʳ ecc *ʳ cos in
    let product_in_bounds = product_in ecc_in_bounds cosine_in_bounds in
    let least : fraction 9 10 (lit< tt) ≤ʳ rest_of_one = ≤ʳ_trans (fraction 9 10 (lit< tt)) (one -ʳ fraction 1 32 (lit< tt) *ʳ fraction 65537 65536 (lit< tt)) rest_of_one (le_pos _ _ (lit≤ tt))
    (one_minus (ecc *ʳ cos) (fraction 1 32 (lit< tt) *ʳ fraction 65537 65536 (lit< tt)) product_in_bounds.size.0) in
    let rest_positive = positive_above (fraction 9 10 (lit< tt)) rest_of_one (lt_pos 0 9 (lit< tt)) least in
    let true_cosine = quotient_exists (cos -ʳ ecc) rest_of_one rest_positive in
    let true_sine = quotient_exists (has_root.root *ʳ sin) rest_of_one rest_positive in
    let cn_in = is_in (of_whole (pos 3)) true_cosine.quotient (size_over (of_whole (pos 2)) (fraction 9 10 (lit< tt)) (of_whole (pos 3)) true_cosine.quotient rest_of_one (lt_pos 0 9 (lit< tt)) (le_pos 0 3 (lit≤ tt)) least (le_pos _ _ (lit≤ tt))
    (along (true_cosine.quotient *ʳ rest_of_one) (≈_sym (true_cosine.quotient *ʳ rest_of_one) (cos -ʳ ecc) true_cosine.is_quotient) (loose (of_whole (pos 2)) (less_in cosine_in_bounds ecc_in_bounds) (le_pos _ _ (lit≤ tt)))).size) in
    let sn_in = is_in (of_whole (pos 3)) true_sine.quotient (size_over (fraction 21 10 (lit< tt)) (fraction 9 10 (lit< tt)) (of_whole (pos 3)) true_sine.quotient rest_of_one (lt_pos 0 9 (lit< tt)) (le_pos 0 3 (lit≤ tt)) least (le_pos _ _ (lit≤ tt))
    (along (true_sine.quotient *ʳ rest_of_one) (≈_sym (true_sine.quotient *ʳ rest_of_one) (has_root.root *ʳ sin) true_sine.is_quotient) (loose (fraction 21 10 (lit< tt)) (product_in rest_in sine_in_bounds) (le_pos _ _ (lit≤ tt)))).size) in
    let perigee_pair = pair_of 5 eph.peri (range_5 eph.peri (loose (of_whole (pos 16)) (is_in (fraction 65 10 (lit< tt)) eph.peri u.peri) (le_pos _ _ (lit≤ tt)))) in
    let perigee_cosine_bounds = loose (of_whole (pos 2)) (cos_near eph.peri perigee_pair.pair.cos perigee_pair.pair.sin perigee_pair.is_pair) (le_pos _ _ (lit≤ tt)) in
    let perigee_sine_bounds = loose (of_whole (pos 2)) (sin_in eph.peri perigee_pair.pair.cos perigee_pair.pair.sin perigee_pair.is_pair) (le_pos _ _ (lit≤ tt)) in
    let pair_of_quotients : Pair = record { cos = true_cosine.quotient; sin = true_sine.quotient } in
    let latitude : Pair = turned pair_of_quotients perigee_pair.pair in
    let latitude_cosine_bounds = loose (of_whole (pos 12)) (less_in (product_in cn_in perigee_cosine_bounds) (product_in sn_in perigee_sine_bounds)) (le_pos _ _ (lit≤ tt)) in
    let latitude_sine_bounds = loose (of_whole (pos 12)) (sum_in (product_in sn_in perigee_cosine_bounds) (product_in cn_in perigee_sine_bounds)) (le_pos _ _ (lit≤ tt)) in
    let double_latitude : Pair = double latitude in
    let double_cosine_bounds = loose (of_whole (pos 288)) (less_in (product_in latitude_cosine_bounds latitude_cosine_bounds) (product_in latitude_sine_bounds latitude_sine_bounds)) (le_pos _ _ (lit≤ tt)) in
    let double_sine_bounds = loose (of_whole (pos 288)) (along (times 2 (latitude.sin *ʳ latitude.cos)) (twice (latitude.sin *ʳ latitude.cos)) (product_in (itself 2 1 (lit< tt)) (product_in latitude_sine_bounds latitude_cosine_bounds))) (le_pos _ _ (lit≤ tt)) in
    let u_change = loose (of_whole (pos 1)) (sum_in (product_in (is_in (fraction 1 (10 ^ 3) (lit< tt)) eph.cus u.cus) double_sine_bounds) (product_in (is_in (fraction 1 (10 ^ 3) (lit< tt)) eph.cuc u.cuc) double_cosine_bounds)) (le_pos _ _ (lit≤ tt)) in
    let i_change = loose (of_whole (pos 1)) (sum_in (product_in (is_in (fraction 1 (10 ^ 3) (lit< tt)) eph.cis u.cis) double_sine_bounds) (product_in (is_in (fraction 1 (10 ^ 3) (lit< tt)) eph.cic u.cic) double_cosine_bounds)) (le_pos _ _ (lit≤ tt)) in
    let i_in = loose (of_whole (pos 16)) (sum_in (sum_in (is_in (fraction 65 10 (lit< tt)) eph.incl u.incl) i_change) (product_in (is_in (fraction 1 (10 ^ 8) (lit< tt)) eph.incl_rate u.incl_rate) ht)) (le_pos _ _ (lit≤ tt)) in
    let turn = itself 72921151467 (10 ^ 15) (lit< tt) in
    let rate_in = less_in (is_in (fraction 1 (10 ^ 7) (lit< tt)) eph.node_rate u.node_rate) turn in
    let n_in = loose (of_whole (pos 64)) (less_in (sum_in (is_in (fraction 65 10 (lit< tt)) eph.node u.node) (product_in rate_in ht)) (product_in turn (is_in (of_whole (pos 604800)) eph.toe_second u.toe_second))) (le_pos _ _ (lit≤ tt)) in
    record {
      rest = has_root.root;
      is_rest = has_root.is_root;
      true_pair = pair_of_quotients;
      is_cos = true_cosine.is_quotient;
      is_sin = true_sine.is_quotient;
      perigee = perigee_pair;
      change = pair_of 5 (harmonic eph.cus eph.cuc double_latitude) (range_5 (harmonic eph.cus eph.cuc double_latitude) (loose (of_whole (pos 16)) u_change (le_pos _ _ (lit≤ tt))));
      inclined = pair_of 5 (eph.incl +ʳ harmonic eph.cis eph.cic double_latitude +ʳ eph.incl_rate *ʳ tk) (range_5 (eph.incl +ʳ harmonic eph.cis eph.cic double_latitude +ʳ eph.incl_rate *ʳ tk) i_in);
      node = pair_of 7 (eph.node +ʳ (eph.node_rate -ʳ earth_rate) *ʳ tk -ʳ earth_rate *ʳ eph.toe_second) (range_7 (eph.node +ʳ (eph.node_rate -ʳ earth_rate) *ʳ tk -ʳ earth_rate *ʳ eph.toe_second) n_in);
    }
  where
    twice : (q : Rational) → fraction 2 1 (lit< tt) *ʳ q ≈ times 2 q
    twice q = same_by (q.num ∷ pos q.den ∷ []) (λ n d. (nat 2 ⊗ n ⊗ d, nat 2 ⊗ n ⊗ (nat 1 ⊗ d))) refl

-- ---- the quantities
abbrev quantities_of : (world : Constants) (eph : Elements) (sent a b : Rational) (h : HasTiming world eph sent a b) → HasPlane eph h.cos h.sin (sent -ʳ h.clock -ʳ eph.toe) → Quantities
quantities_of world eph sent a b h p =
    let t : Rational = sent -ʳ h.clock in
    let tk : Rational = t -ʳ eph.toe in
    let mean_motion : Rational = h.motion.computed +ʳ eph.dn in
    let axis : Rational = eph.root_a *ʳ eph.root_a in
    let latitude : Pair = turned p.true_pair p.perigee.pair in
    let doubly : Pair = double latitude in
    let corrected : Pair = turned latitude p.change.pair in
    let dr : Rational = harmonic eph.crs eph.crc doubly in
    let r : Rational = axis *ʳ (one -ʳ eph.ecc *ʳ h.cos) +ʳ dr in
    let px : Rational = r *ʳ corrected.cos in
    let py : Rational = r *ʳ corrected.sin in
    let node : Pair = p.node.pair in
    let inclined : Pair = p.inclined.pair in
    record {
      t = t;
      tk = tk;
      clock = h.clock;
      axis = axis;
      root_mu = h.motion.root;
      computed_motion = h.motion.computed;
      motion = mean_motion;
      mean = eph.m0 +ʳ mean_motion *ʳ tk;
      eccentric = h.eccentric;
      eccentric_pair = record { cos = h.cos; sin = h.sin };
      root_rest = p.rest;
      true_pair = p.true_pair;
      perigee_pair = p.perigee.pair;
      latitude_pair = latitude;
      twice_pair = doubly;
      latitude_change = harmonic eph.cus eph.cuc doubly;
      radius_change = dr;
      inclination_change = harmonic eph.cis eph.cic doubly;
      change_pair = p.change.pair;
      corrected_pair = corrected;
      radius = r;
      inclination = eph.incl +ʳ harmonic eph.cis eph.cic doubly +ʳ eph.incl_rate *ʳ tk;
      inclination_pair = inclined;
      plane_x = px;
      plane_y = py;
      node = eph.node +ʳ (eph.node_rate -ʳ earth_rate) *ʳ tk -ʳ earth_rate *ʳ eph.toe_second;
      node_pair = node;
      x = px *ʳ node.cos -ʳ py *ʳ inclined.cos *ʳ node.sin;
      y = px *ʳ node.sin +ʳ py *ʳ inclined.cos *ʳ node.cos;
      z = py *ʳ inclined.sin;
    }

lines : (world : Constants) (eph : Elements) (sent a b share : Rational) (h : HasTiming world eph sent a b) (p : HasPlane eph h.cos h.sin (sent -ʳ h.clock -ʳ eph.toe))
    → h.clock ≈ eph.af0 +ʳ eph.af2 *ʳ share +ʳ eph.af1 *ʳ (sent -ʳ h.clock -ʳ eph.toc) +ʳ eph.af2 *ʳ ((sent -ʳ h.clock -ʳ eph.toc) *ʳ (sent -ʳ h.clock -ʳ eph.toc)) +ʳ
    relativity_of world eph *ʳ h.sin
    → IsSatelliteSolution world (with_share eph share) sent (quantities_of world eph sent a b h p)
lines world eph sent a b share h p line = record {
  semi_major_axis = refl;
  root_of_mu = h.motion.is_root;
  computed_mean_motion = h.motion.is_computed;
  time_of_sending = refl;
  time_from_epoch = refl;
  corrected_mean_motion = refl;
  mean_anomaly = refl;
  kepler = record { is_pair = h.is_pair; equation = h.kepler };
  root_of_rest = p.is_rest;
  true_anomaly_cos = p.is_cos;
  true_anomaly_sin = p.is_sin;
  perigee = p.perigee.is_pair;
  argument_of_latitude = (refl, refl);
  twice_the_argument = (refl, refl);
  latitude_correction = refl;
  radius_correction = refl;
  inclination_correction = refl;
  change_of_latitude = p.change.is_pair;
  corrected_latitude = (refl, refl);
  corrected_radius = refl;
  corrected_inclination = refl;
  position_in_plane_x = refl;
  position_in_plane_y = refl;
  corrected_node = refl;
  node_of_angle = p.node.is_pair;
  inclination_of_angle = p.inclined.is_pair;
  earth_fixed_x = refl;
  earth_fixed_y = refl;
  earth_fixed_z = refl;
  clock_correction = line;
}

-- ---- by the tangent at a first clock
pub near_solution_exists : (world : Constants) (eph : Elements) (sent : Rational) → AreUsable world eph sent → HasNearSolution world eph sent
near_solution_exists world eph sent u =
    let y : Rational = sent -ʳ eph.toc in
    let y_in = is_in (of_whole (pos 14402)) y u.from_toc in
    let f : Rational = eph.af2 in
    let f_in = is_in (fraction 1 (10 ^ 12) (lit< tt)) f u.af2 in
    let a_in = is_in (fraction 1 (10 ^ 2) (lit< tt)) eph.af0 u.af0 in
    let b_in = is_in (fraction 1 (10 ^ 7) (lit< tt)) eph.af1 u.af1 in
    let c : Rational = eph.af0 +ʳ eph.af1 *ʳ y +ʳ f *ʳ (y *ʳ y) in
    let c_in = loose (fraction 1 50 (lit< tt)) (sum_in (sum_in a_in (product_in b_in y_in)) (product_in f_in (product_in y_in y_in))) (le_pos _ _ (lit≤ tt)) in
    let x : Rational = y -ʳ c in
    let x_in = less_in y_in c_in in
    let a : Rational = eph.af0 -ʳ f *ʳ (x *ʳ x) in
    let bias_in_bounds = loose (fraction 2 100 (lit< tt)) (less_in a_in (product_in f_in (product_in x_in x_in))) (le_pos _ _ (lit≤ tt)) in
    let b : Rational = eph.af1 +ʳ of_whole (pos 2) *ʳ (f *ʳ x) in
    let drift_in_bounds = loose (fraction 1 (10 ^ 6) (lit< tt)) (sum_in b_in (product_in two_in (product_in f_in x_in))) (le_pos _ _ (lit≤ tt)) in
    let has_timing = timing world eph sent a b u bias_in_bounds drift_in_bounds in
    let has_plane = plane world eph sent has_timing.eccentric has_timing.cos has_timing.sin (sent -ʳ has_timing.clock -ʳ eph.toe) u has_timing.is_pair has_timing.time_in in
    let clock : Rational = has_timing.clock in
    let effect : Rational = relativity_of world eph *ʳ has_timing.sin in
    let e_in = loose (fraction 85 (10 ^ 9) (lit< tt)) (product_in (factor_in world eph sent u) (sin_in has_timing.eccentric has_timing.cos has_timing.sin has_timing.is_pair)) (le_pos _ _ (lit≤ tt)) in
    let crude = less_in has_timing.clock_in c_in in
    let two_y = less_in (product_in two_in y_in) has_timing.clock_in in
    let apart = loose (fraction 2 (10 ^ 7) (lit< tt)) (along (clock -ʳ c) (first_error eph.af0 eph.af1 f sent eph.toc clock c effect has_timing.linear refl)
    (less_in (less_in e_in (product_in b_in has_timing.clock_in)) (sum_in (product_in f_in (product_in has_timing.clock_in two_y)) (product_in f_in (product_in crude crude))))) (le_pos _ _ (lit≤ tt)) in
    let square_in = loose (two_to_minus 44) (product_in apart apart) (le_pos _ _ (lit≤ tt)) in
    let square : Rational = (clock -ʳ c) *ʳ (clock -ʳ c) in
    record {
      quantities = quantities_of world eph sent a b has_timing has_plane;
      is = record {
        share = neg_r square;
        small = (square_in.size.1, back square square_in.size.0);
        solves = lines world eph sent a b (neg_r square) has_timing has_plane (tangent eph.af0 eph.af1 f sent eph.toc clock c effect has_timing.linear);
      };
    }
  where
    two_in : In (of_whole (pos 2)) (of_whole (pos 2))
    two_in = record { size = (le_pos 2 2 (lit≤ tt), omega (arith, ints)) }

    back : (d : Rational) → d ≤ʳ two_to_minus 44 → neg_r (neg_r d) ≤ʳ two_to_minus 44
    back d h = go d.num d.den h
      where
        go : (n : ℤ) (d : ℕ) → (n *ℤ pos (2 ^ 44)) ≤ℤ (pos 1 *ℤ pos d) → (neg_ℤ (neg_ℤ n) *ℤ pos (2 ^ 44)) ≤ℤ (pos 1 *ℤ pos d)
        go n d h = omega (arith, ints)

-- ---- a near solution and an exact one
with_af0 : (world : Constants) (eph : Elements) (sent x : Rational) (q : Quantities) → IsSatelliteSolution world eph sent q
    → q.clock ≈ x +ʳ eph.af1 *ʳ (q.t -ʳ eph.toc) +ʳ eph.af2 *ʳ ((q.t -ʳ eph.toc) *ʳ (q.t -ʳ eph.toc)) +ʳ relativity_of world eph *ʳ q.eccentric_pair.sin
    → IsSatelliteSolution world (record eph { af0 = x }) sent q
with_af0 world eph sent x q s c = record {
  semi_major_axis = s.semi_major_axis;
  root_of_mu = s.root_of_mu;
  computed_mean_motion = s.computed_mean_motion;
  time_of_sending = s.time_of_sending;
  time_from_epoch = s.time_from_epoch;
  corrected_mean_motion = s.corrected_mean_motion;
  mean_anomaly = s.mean_anomaly;
  kepler = s.kepler;
  root_of_rest = s.root_of_rest;
  true_anomaly_cos = s.true_anomaly_cos;
  true_anomaly_sin = s.true_anomaly_sin;
  perigee = s.perigee;
  argument_of_latitude = s.argument_of_latitude;
  twice_the_argument = s.twice_the_argument;
  latitude_correction = s.latitude_correction;
  radius_correction = s.radius_correction;
  inclination_correction = s.inclination_correction;
  change_of_latitude = s.change_of_latitude;
  corrected_latitude = s.corrected_latitude;
  corrected_radius = s.corrected_radius;
  corrected_inclination = s.corrected_inclination;
  position_in_plane_x = s.position_in_plane_x;
  position_in_plane_y = s.position_in_plane_y;
  corrected_node = s.corrected_node;
  node_of_angle = s.node_of_angle;
  inclination_of_angle = s.inclination_of_angle;
  earth_fixed_x = s.earth_fixed_x;
  earth_fixed_y = s.earth_fixed_y;
  earth_fixed_z = s.earth_fixed_z;
  clock_correction = c;
}

pub exact_is_near : (world : Constants) (eph : Elements) (sent : Rational) (q : Quantities) → IsSatelliteSolution world eph sent q → IsNearSolution world eph sent q
exact_is_near world eph sent q s = record {
  share = of_whole (pos 0);
  small = (le_pos 0 1 (lit≤ tt), le_pos 0 1 (lit≤ tt));
  solves = with_af0 world eph sent (eph.af0 +ʳ eph.af2 *ʳ of_whole (pos 0)) q s
      (zero_share eph.af0 eph.af1 eph.af2 (q.t -ʳ eph.toc) q.clock (relativity_of world eph *ʳ q.eccentric_pair.sin) s.clock_correction);
}

pub near_is_exact : (world : Constants) (eph : Elements) (sent : Rational) (q : Quantities) → eph.af2 ≈ of_whole (pos 0) → IsNearSolution world eph sent q → IsSatelliteSolution world eph sent q
near_is_exact world eph sent q f n = with_af0 world (with_share eph n.share) sent eph.af0 q n.solves
    (no_share eph.af0 eph.af1 eph.af2 n.share (q.t -ʳ eph.toc) q.clock (relativity_of world eph *ʳ q.eccentric_pair.sin) n.solves.clock_correction f)

pub solution_exists : (world : Constants) (eph : Elements) (sent : Rational) → AreUsable world eph sent → eph.af2 ≈ of_whole (pos 0) → HasSolution world eph sent
solution_exists world eph sent u f = let near_solution = near_solution_exists world eph sent u in record { quantities = near_solution.quantities; is = near_is_exact world eph sent near_solution.quantities f near_solution.is }
