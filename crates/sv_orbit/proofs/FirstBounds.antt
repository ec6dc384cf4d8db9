-- The first bounds of any solution: from |E| ≤ 16 to the time since the reference epoch, to the clock, to the time again, to the clock.
use Rattle.std.proofs.Common.{◌≡◌, ℕ, ◌+◌, ◌*◌, ◌^◌, ◌≤◌, ◌<◌, [], ◌∷◌, ℤ, pos, ◌-ℤ◌, ◌*ℤ◌, neg_ℤ, ◌≤ℤ◌, ◌<ℤ◌, unsigned_abs, arith, refl, lit≤, lit<}
use Rattle.std.proofs.lemmas.Int.{ints}
use Rattle.std.specs.Int.{abs_diff}
use Rattle.whole_math.proofs.IntLaws.{neg_mul_ℤ}
use Rattle.whole_math.proofs.Ring.{va, ko, ◌⊕◌, ◌⊖◌, ◌⊗◌, ng}
use Rattle.whole_math.proofs.Order.{lins, le_pos, mul_le_right, square_nn}
use Rattle.whole_math.proofs.Inequalities.{same_by, nat, pos_nn, le_eq, le_trans_ℤ}
use Rattle.whole_math.proofs.Certificates.{cert, cancel, square_root, mul_positive, ◌≼◌, hy, nm, ◌⊞◌, ◌⊠◌}
use Rattle.decimal_text.specs.declared.exponent.Dec.{Dec}
use Rattle.whole_math.specs.Rational.{Rational, ◌≈◌, ◌≤ʳ◌, of_whole, two_to_minus, ◌+ʳ◌, ◌-ʳ◌, ◌*ʳ◌, IsAtMostInSize, IsNearRoot}
use Rattle.whole_math.specs.Boxes.{of_scale}
use Rattle.whole_math.proofs.RationalLaws.{≈_sym}
use Rattle.whole_math.proofs.RationalOrders.{order_r, equal_r, cancel_r, ◌≐◌}
use Rattle.whole_math.proofs.RationalSizes.{positive_above, size_add, size_sub, size_mul, size_along, size_looser, size_over}
use Rattle.trig_box.specs.AnglePairs.{IsAnglePair, InRange}
use Rattle.trig_box.proofs.PairLaws.{size_law_5}
use Rattle.eph_store.specs.Decimals.{decimal, value_of, IsWithin}
use Rattle.eph_store.specs.declared.ephemeris.Eph.{Eph}
use Rattle.orbit_model.specs.Elements.{Elements, sent_at, elements_of, seconds}
use Rattle.orbit_model.specs.Solution.{Quantities, IsNearSolution, with_share}
use Rattle.sv_orbit.specs.declared.world.World.{World}
use Rattle.sv_orbit.specs.Records.{constants_of}
use Rattle.sv_orbit.proofs.Values.{from_to_within}
use Rattle.sv_orbit.proofs.RootOfMu.{bounded, AreBounded}
use Rattle.whole_math.proofs.NearRoots.{near_root_whole}

-- what the profile says of a number
pub size_of_decimal : (bound places : ℕ) (d : Dec) → IsWithin bound places d → IsAtMostInSize (decimal (pos bound) places) (value_of d)
size_of_decimal bound places d w = (w.high, turned ((value_of d).num) (pos (10 ^ places)) (pos (value_of d).den) (pos bound) w.low)
  where
    turned : (v p d b : ℤ) → (neg_ℤ b *ℤ d) ≤ℤ (v *ℤ p) → (neg_ℤ v *ℤ p) ≤ℤ (b *ℤ d)
    turned v p d b h = le_trans_ℤ (le_eq (neg_mul_ℤ v p)) (step (neg_ℤ b *ℤ d) (v *ℤ p) (b *ℤ d) (neg_mul_ℤ b d) h)
      where
        step : (x y z : ℤ) → x ≡ neg_ℤ z → x ≤ℤ y → neg_ℤ y ≤ℤ z
        step x y z e h = omega (arith, lins)

-- |E| ≤ 16
size_of_angle : (x : Rational) → InRange 5 x → IsAtMostInSize (of_whole (pos 16)) x
size_of_angle x h = (up x.num x.den h, down x.num x.den h)
  where
    up : (n : ℤ) (d : ℕ) → 2 * unsigned_abs n ≤ 2 ^ 5 * d → (n *ℤ pos 1) ≤ℤ (pos 16 *ℤ pos d)
    up n d h = omega (arith, ints)

    down : (n : ℤ) (d : ℕ) → 2 * unsigned_abs n ≤ 2 ^ 5 * d → (neg_ℤ n *ℤ pos 1) ≤ℤ (pos 16 *ℤ pos d)
    down n d h = omega (arith, ints)

-- a near-root of μ is at least 19964900
low_root : (r mu : ℤ) (d : ℕ) → pos 0 ≤ℤ r → pos 398600441800000 ≤ℤ mu
    → (pos (unsigned_abs (((r *ℤ r) *ℤ pos 1) -ℤ (mu *ℤ pos (d * d)))) *ℤ pos (2 ^ 60)) ≤ℤ (mu *ℤ pos (d * d)) → (pos 19964900 *ℤ pos d) ≤ℤ r
low_root r mu d r0 m h = square_root (pos 19964900 *ℤ pos d) r r0 (squares (r *ℤ r) mu (pos d) (below (r *ℤ r) (mu *ℤ pos (d * d)) h) m)
  where
    below : (s n : ℤ) → (pos (unsigned_abs ((s *ℤ pos 1) -ℤ n)) *ℤ pos (2 ^ 60)) ≤ℤ n → ((n -ℤ s) *ℤ pos (2 ^ 60)) ≤ℤ n
    below s n h = omega (arith, ints)

    squares : (s m d : ℤ) → ((m *ℤ (d *ℤ d) -ℤ s) *ℤ pos (2 ^ 60)) ≤ℤ (m *ℤ (d *ℤ d)) → pos 398600441800000 ≤ℤ m → ((pos 19964900 *ℤ d) *ℤ (pos 19964900 *ℤ d)) ≤ℤ s
    squares s m d h k = cancel (pos (2 ^ 60)) ((pos 19964900 *ℤ d) *ℤ (pos 19964900 *ℤ d)) s (omega (arith, ints))
        (cert (s ∷ m ∷ d ∷ []) (((va 1 ⊗ (va 2 ⊗ va 2) ⊖ va 0) ⊗ ko (pos (2 ^ 60)) ≼ va 1 ⊗ (va 2 ⊗ va 2)) ∷ (ko (pos 398600441800000) ≼ va 1) ∷ (ko (pos 0) ≼ va 2 ⊗ va 2) ∷ [])
        (ko (pos (2 ^ 60)) ⊗ ((ko (pos 19964900) ⊗ va 2) ⊗ (ko (pos 19964900) ⊗ va 2))) (ko (pos (2 ^ 60)) ⊗ va 0)
        (hy 0 ⊞ nm 1152921504606846975 ⊠ hy 1 ⊠ hy 2 ⊞ nm 3700635916271612754653240000 ⊠ hy 2) refl (h, (k, (square_nn d, tt))))

-- ---- n ≥ 9.23 · 10^-5
parted : (a b : ℕ) (h : 0 < b) (q : Rational) → of_whole (pos a) ≤ʳ of_whole (pos b) *ʳ q → record { num = pos a; den = b; positive = h } ≤ʳ q
parted a b h q l = le_trans_ℤ (le_eq (same_by (pos a ∷ pos q.den ∷ []) (λ a d. (a ⊗ d, a ⊗ (nat 1 ⊗ d))) refl))
    (le_trans_ℤ l (le_eq (same_by (pos b ∷ q.num ∷ []) (λ b n. (b ⊗ n ⊗ nat 1, n ⊗ b)) refl)))

computed_least : (n0 axis a r : Rational) → n0 *ʳ (axis *ʳ a) ≈ r → axis ≈ a *ʳ a → of_whole (pos 19964900) ≤ʳ r → of_whole (pos 4500) ≤ʳ a
    → a ≤ʳ of_whole (pos 6000) → of_whole (pos 924) ≤ʳ of_whole (pos 10000000) *ʳ n0
computed_least n0 axis a r e f h l m =
    cancel_r (a *ʳ a *ʳ a) (of_whole (pos 924)) (of_whole (pos 10000000) *ʳ n0) (cubed a.num (positive l))
    (order_r (n0 ∷ axis ∷ a ∷ r ∷ []) ((ko (pos 19964900) ≼ va 3) ∷ (va 2 ≼ ko (pos 6000)) ∷ (ko (pos 4500) ≼ va 2) ∷ [])
    ((va 0 ⊗ (va 1 ⊗ va 2) ≐ va 3) ∷ (va 1 ≐ va 2 ⊗ va 2) ∷ [])
    (((va 2 ⊗ va 2) ⊗ va 2) ⊗ ko (pos 924)) (((va 2 ⊗ va 2) ⊗ va 2) ⊗ (ko (pos 10000000) ⊗ va 0))
    (nm 10000000 ⊠ hy 0 ⊞ nm 65000000000 ⊞ nm 924 ⊠ hy 1 ⊠ (nm 36000000 ⊞ nm 6000 ⊠ (hy 2 ⊞ nm 4500) ⊞ (hy 2 ⊞ nm 4500) ⊠ (hy 2 ⊞ nm 4500)))
    (ko (pos 10000000) ∷ ng (ko (pos 10000000) ⊗ va 0 ⊗ va 2) ∷ []) refl (h, (m, (l, tt))) (e, (f, tt)))
  where
    positive : of_whole (pos 4500) ≤ʳ a → pos 0 <ℤ a.num
    positive l = positive_above (of_whole (pos 4500)) a (omega (arith, ints)) l

    cubed : (n : ℤ) → pos 0 <ℤ n → pos 0 <ℤ (n *ℤ n *ℤ n)
    cubed n h = mul_positive (n *ℤ n) n (mul_positive n n h h) h

motion_least : (n n0 dn : Rational) → n ≈ n0 +ʳ dn → of_whole (pos 924) ≤ʳ of_whole (pos 10000000) *ʳ n0 → IsAtMostInSize (decimal (pos 1) 7) dn → decimal (pos 923) 7 ≤ʳ n
motion_least n n0 dn e h s = parted 923 (10 ^ 7) (lit< tt) n
    (order_r (n ∷ n0 ∷ dn ∷ decimal (pos 1) 7 ∷ []) ((ko (pos 924) ≼ ko (pos 10000000) ⊗ va 1) ∷ (ng (va 2) ≼ va 3) ∷ (va 3 ⊗ ko (pos 10000000) ≼ ko (pos 1)) ∷ []) ((va 0 ≐ va 1 ⊕ va 2) ∷ [])
    (ko (pos 923)) (ko (pos 10000000) ⊗ va 0) (hy 0 ⊞ nm 10000000 ⊠ hy 1 ⊞ hy 2) (ko (pos 10000000) ∷ []) refl (h, (s.1, (omega (arith, ints), tt))) (e, tt))

-- ---- the polynomial
-- of af0 and a share of af2
abbrev pub bias_limit : Rational
bias_limit = decimal (pos 1) 2 +ʳ decimal (pos 1) 12 *ʳ two_to_minus 44

abbrev pub clock_limit : Rational → Rational
clock_limit b = bias_limit +ʳ decimal (pos 1) 7 *ʳ b +ʳ decimal (pos 1) 12 *ʳ (b *ʳ b) +ʳ
    decimal (pos 4442807633) 19 *ʳ decimal (pos 3125) 5 *ʳ of_whole (pos 6000) *ʳ (of_whole (pos 1) +ʳ two_to_minus 16)

pub relativity_size : (rel : ℤ) → neg_ℤ (pos 4442807633) ≤ℤ rel → rel ≤ℤ neg_ℤ (pos 4442807309) → IsAtMostInSize (decimal (pos 4442807633) 19) (decimal rel 19)
relativity_size rel l h = (
  mul_le_right (pos (10 ^ 19)) rel (pos 4442807633) (pos_nn (10 ^ 19)) (omega (arith, ints, l, h)),
  mul_le_right (pos (10 ^ 19)) (neg_ℤ rel) (pos 4442807633) (pos_nn (10 ^ 19)) (omega (arith, ints, l, h)),
)

-- the relativistic term
pub effect_size : (eph : Eph) (world : World) (x c s : Rational) → IsAnglePair 5 x c s →
    IsAtMostInSize (decimal (pos 4442807633) 19 *ʳ decimal (pos 3125) 5 *ʳ of_whole (pos 6000) *ʳ (of_whole (pos 1) +ʳ two_to_minus 16))
    ((constants_of world).relativity *ʳ (elements_of eph).ecc *ʳ (elements_of eph).root_a *ʳ s)
effect_size eph world x c s p =
    let constants_bounded : AreBounded world.mu world.rel = bounded world.mu world.rel world.known in
    let relativity_small = relativity_size world.rel constants_bounded.rel_low constants_bounded.rel_high in
    let ecc_small = size_of_decimal 3125 5 eph.ecc (from_to_within 0 3125 5 eph.ecc eph.ecc_in) in
    let root_small = size_of_decimal 6000 0 eph.root_a (from_to_within 4500 6000 0 eph.root_a eph.root_a_in) in
    let six : decimal (pos 6000) 0 ≤ʳ of_whole (pos 6000) = omega (arith, ints) in
    size_mul (decimal (pos 4442807633) 19 *ʳ decimal (pos 3125) 5 *ʳ of_whole (pos 6000)) (of_whole (pos 1) +ʳ two_to_minus 16)
    ((constants_of world).relativity *ʳ (elements_of eph).ecc *ʳ (elements_of eph).root_a) s
    (size_mul (decimal (pos 4442807633) 19 *ʳ decimal (pos 3125) 5) (of_whole (pos 6000)) ((constants_of world).relativity *ʳ (elements_of eph).ecc) (elements_of eph).root_a
    (size_mul (decimal (pos 4442807633) 19) (decimal (pos 3125) 5) (constants_of world).relativity (elements_of eph).ecc relativity_small ecc_small)
    (size_looser (decimal (pos 6000) 0) (of_whole (pos 6000)) (elements_of eph).root_a six root_small))
    (size_law_5 x c s p).1

clock_size : (eph : Eph) (world : World) (sent b : Rational) (q : Quantities) → IsNearSolution (constants_of world) (elements_of eph) sent q
    → IsAtMostInSize b (q.t -ʳ (elements_of eph).toc) → IsAtMostInSize (clock_limit b) q.clock
clock_size eph world sent b q near h =
    let elements : Elements = with_share (elements_of eph) near.share in
    let solves = near.solves in
    let x : Rational = q.t -ʳ elements.toc in
    let bias = size_add (decimal (pos 1) 2) (decimal (pos 1) 12 *ʳ two_to_minus 44) (elements_of eph).af0 ((elements_of eph).af2 *ʳ near.share) (size_of_decimal 1 2 eph.af0 eph.af0_in)
    (size_mul (decimal (pos 1) 12) (two_to_minus 44) (elements_of eph).af2 near.share (size_of_decimal 1 12 eph.af2 eph.af2_in) near.small) in
    let drift = size_mul (decimal (pos 1) 7) b elements.af1 x (size_of_decimal 1 7 eph.af1 eph.af1_in) h in
    let aging = size_mul (decimal (pos 1) 12) (b *ʳ b) elements.af2 (x *ʳ x) (size_of_decimal 1 12 eph.af2 eph.af2_in) (size_mul b b x x h h) in
    let effect = effect_size eph world q.eccentric q.eccentric_pair.cos q.eccentric_pair.sin solves.kepler.is_pair in
    let two = size_add bias_limit (decimal (pos 1) 7 *ʳ b) elements.af0 (elements.af1 *ʳ x) bias drift in
    let three = size_add (bias_limit +ʳ decimal (pos 1) 7 *ʳ b) (decimal (pos 1) 12 *ʳ (b *ʳ b)) (elements.af0 +ʳ elements.af1 *ʳ x) (elements.af2 *ʳ (x *ʳ x)) two aging in
    let value : Rational = elements.af0 +ʳ elements.af1 *ʳ x +ʳ elements.af2 *ʳ (x *ʳ x) +ʳ (constants_of world).relativity *ʳ elements.ecc *ʳ elements.root_a *ʳ q.eccentric_pair.sin in
    let four : IsAtMostInSize (clock_limit b) value =
    size_add (bias_limit +ʳ decimal (pos 1) 7 *ʳ b +ʳ decimal (pos 1) 12 *ʳ (b *ʳ b))
    (decimal (pos 4442807633) 19 *ʳ decimal (pos 3125) 5 *ʳ of_whole (pos 6000) *ʳ (of_whole (pos 1) +ʳ two_to_minus 16))
    (elements.af0 +ʳ elements.af1 *ʳ x +ʳ elements.af2 *ʳ (x *ʳ x))
    ((constants_of world).relativity *ʳ elements.ecc *ʳ elements.root_a *ʳ q.eccentric_pair.sin) three effect in
    size_along (clock_limit b) value q.clock (≈_sym q.clock value solves.clock_correction) four

-- ---- toe and toc are at most two hours apart
pub epochs_size : (a b : ℕ) → a ≤ b + 72000000000 → b ≤ a + 72000000000 → IsAtMostInSize (of_whole (pos 7200)) (seconds a -ʳ seconds b)
epochs_size a b h g = (omega (arith, ints, h), omega (arith, ints, g))

abbrev pub sent_limit : Rational
sent_limit = record { num = pos 720134; den = 100; positive = lit< tt }

-- the sending by the satellite's own clock is at most 7201.34 s from toe
pub sent_size : (tag toe : ℕ) (code : ℤ) → abs_diff tag toe ≤ 72010000000 → pos 0 ≤ℤ code → code ≤ℤ pos (10 ^ 11) → IsAtMostInSize sent_limit (sent_at tag code -ʳ seconds toe)
sent_size tag toe code n l h = let times_apart = apart tag toe n in (high tag toe code times_apart.0 l, low tag toe code times_apart.1 h)
  where
    apart : (a b : ℕ) → abs_diff a b ≤ 72010000000 → (a ≤ b + 72010000000) × (b ≤ a + 72010000000)
    apart a b h = (omega arith, omega arith)

    high : (t e : ℕ) (c : ℤ) → t ≤ e + 72010000000 → pos 0 ≤ℤ c
        → ((((pos t *ℤ pos 149896229 -ℤ c *ℤ pos 5000) *ℤ pos 10000000) -ℤ (pos e *ℤ pos 1498962290000000)) *ℤ pos 100)
        ≤ℤ (pos 720134 *ℤ pos (1498962290000000 * 10000000))
    high t e c h l = omega (arith, ints, h, l)

    low : (t e : ℕ) (c : ℤ) → e ≤ t + 72010000000 → c ≤ℤ pos (10 ^ 11)
        → (neg_ℤ (((pos t *ℤ pos 149896229 -ℤ c *ℤ pos 5000) *ℤ pos 10000000) -ℤ (pos e *ℤ pos 1498962290000000)) *ℤ pos 100)
        ≤ℤ (pos 720134 *ℤ pos (1498962290000000 * 10000000))
    low t e c h l = omega (arith, ints, h, l)

-- ---- the bounds
pub clock_small : (eph : Eph) (world : World) (sent : Rational) (q : Quantities) → IsNearSolution (constants_of world) (elements_of eph) sent q
    → IsAtMostInSize sent_limit (sent -ʳ (elements_of eph).toe) → IsAtMostInSize (of_scale 60 (pos (2 ^ 54))) q.clock
clock_small eph world sent q is near =
    let elements : Elements = elements_of eph in
    let solves = is.solves in
    let constants_bounded : AreBounded world.mu world.rel = bounded world.mu world.rel world.known in
    let sine = size_law_5 q.eccentric q.eccentric_pair.cos q.eccentric_pair.sin solves.kepler.is_pair in
    let one_and : Rational = of_whole (pos 1) +ʳ two_to_minus 16 in
    let ecc_small = size_of_decimal 3125 5 eph.ecc (from_to_within 0 3125 5 eph.ecc eph.ecc_in) in
    let pull = size_mul (decimal (pos 3125) 5) one_and elements.ecc q.eccentric_pair.sin ecc_small sine.1 in
    let angle = size_of_angle q.eccentric solves.kepler.is_pair.in_range in
    let mean = size_along (of_whole (pos 16) +ʳ decimal (pos 3125) 5 *ʳ one_and) (q.eccentric -ʳ elements.ecc *ʳ q.eccentric_pair.sin)
    q.mean (≈_sym q.mean (q.eccentric -ʳ elements.ecc *ʳ q.eccentric_pair.sin) solves.kepler.equation)
    (size_sub (of_whole (pos 16)) (decimal (pos 3125) 5 *ʳ one_and) q.eccentric (elements.ecc *ʳ q.eccentric_pair.sin) angle pull) in
    let turn_limit : Rational = of_whole (pos 16) +ʳ decimal (pos 3125) 5 *ʳ one_and +ʳ decimal (pos 65) 1 in
    let turn = size_along turn_limit (q.mean -ʳ elements.m0) (q.tk *ʳ q.motion) (turned q.mean elements.m0 q.motion q.tk solves.mean_anomaly)
    (size_sub (of_whole (pos 16) +ʳ decimal (pos 3125) 5 *ʳ one_and) (decimal (pos 65) 1) q.mean elements.m0 mean (size_of_decimal 65 1 eph.m0 eph.m0_in)) in
    let root : of_whole (pos 19964900) ≤ʳ q.root_mu = root_least q.root_mu world.mu constants_bounded.mu_low solves.root_of_mu in
    let slow : decimal (pos 923) 7 ≤ʳ q.motion = motion_least q.motion q.computed_motion elements.dn solves.corrected_mean_motion
    (computed_least q.computed_motion q.axis elements.root_a q.root_mu solves.computed_mean_motion solves.semi_major_axis root eph.root_a_in.low eph.root_a_in.high) (size_of_decimal 1 7 eph.dn eph.dn_in) in
    let time = size_over turn_limit (decimal (pos 923) 7) (of_whole (pos 245000)) q.tk q.motion (omega (arith, ints)) (omega (arith, ints)) slow (le_pos _ _ (lit≤ tt)) turn in
    let gap = epochs_size eph.toe.0 eph.toc.0 eph.toc_late_enough eph.toc_early_enough in
    let far = size_along (of_whole (pos 252200)) (q.tk +ʳ (elements.toe -ʳ elements.toc)) (q.t -ʳ elements.toc) (since q.t q.tk elements.toe elements.toc solves.time_from_epoch)
    (size_looser (of_whole (pos 245000) +ʳ of_whole (pos 7200)) (of_whole (pos 252200)) (q.tk +ʳ (elements.toe -ʳ elements.toc)) (le_pos _ _ (lit≤ tt))
    (size_add (of_whole (pos 245000)) (of_whole (pos 7200)) q.tk (elements.toe -ʳ elements.toc) time gap)) in
    let first = size_looser (clock_limit (of_whole (pos 252200))) (of_scale 3 (pos 1)) q.clock (le_pos _ _ (lit≤ tt)) (clock_size eph world sent (of_whole (pos 252200)) q is far) in
    let close_limit : Rational = sent_limit +ʳ of_scale 3 (pos 1) +ʳ of_whole (pos 7200) in
    let close = size_along close_limit (sent -ʳ elements.toe -ʳ q.clock +ʳ (elements.toe -ʳ elements.toc)) (q.t -ʳ elements.toc) (sent_since sent q.t q.clock elements.toe elements.toc solves.time_of_sending)
    (size_add (sent_limit +ʳ of_scale 3 (pos 1)) (of_whole (pos 7200)) (sent -ʳ elements.toe -ʳ q.clock) (elements.toe -ʳ elements.toc)
    (size_sub sent_limit (of_scale 3 (pos 1)) (sent -ʳ elements.toe) q.clock near first) gap) in
    size_looser (clock_limit close_limit) (of_scale 60 (pos (2 ^ 54))) q.clock (le_pos _ _ (lit≤ tt)) (clock_size eph world sent close_limit q is close)
  where
    turned : (m m0 n t : Rational) → m ≈ m0 +ʳ n *ʳ t → m -ʳ m0 ≈ t *ʳ n
    turned m m0 n t e = equal_r (m ∷ m0 ∷ n ∷ t ∷ []) ((va 0 ≐ va 1 ⊕ va 2 ⊗ va 3) ∷ []) (ko (pos 1) ∷ []) (va 0 ⊖ va 1) (va 3 ⊗ va 2) refl (e, tt)

    since : (t k toe toc : Rational) → k ≈ t -ʳ toe → k +ʳ (toe -ʳ toc) ≈ t -ʳ toc
    since t k toe toc e = equal_r (t ∷ k ∷ toe ∷ toc ∷ []) ((va 1 ≐ va 0 ⊖ va 2) ∷ []) (ko (pos 1) ∷ []) (va 1 ⊕ (va 2 ⊖ va 3)) (va 0 ⊖ va 3) refl (e, tt)

    sent_since : (sent t k toe toc : Rational) → t ≈ sent -ʳ k → sent -ʳ toe -ʳ k +ʳ (toe -ʳ toc) ≈ t -ʳ toc
    sent_since sent t k toe toc e = equal_r (sent ∷ t ∷ k ∷ toe ∷ toc ∷ []) ((va 1 ≐ va 0 ⊖ va 2) ∷ []) (ng (ko (pos 1)) ∷ []) (((va 0 ⊖ va 3) ⊖ va 2) ⊕ (va 3 ⊖ va 4)) (va 1 ⊖ va 4) refl (e, tt)

    root_least : (r : Rational) (mu : ℤ) → pos 398600441800000 ≤ℤ mu → IsNearRoot r (of_whole mu) → of_whole (pos 19964900) ≤ʳ r
    root_least r mu l near = let h = near_root_whole r (of_whole mu) near in le_trans_ℤ (low_root r.num mu r.den h.0 l h.1) (le_eq (same_by (r.num ∷ []) (λ n. (n, n ⊗ nat 1)) refl))
