-- The Earth's turn in a box of times: its angles, its pairs, and the places that it turns.
use Rattle.std.proofs.Common.{◌≡◌, ◌+◌, ◌*◌, ◌^◌, ◌≤◌, [], ◌∷◌, ℤ, pos, ◌+ℤ◌, ◌-ℤ◌, ◌*ℤ◌, neg_ℤ, ◌≤ℤ◌, unsigned_abs, arith, sym, subst, refl, lit<, lit≤, to_z, of_z}
use Rattle.std.proofs.lemmas.Int.{ints}
use Rattle.std.specs.Int.{w64}
use Rattle.whole_math.proofs.Ring.{va, ko, ◌⊕◌, ◌⊖◌, ◌⊗◌, ng}
use Rattle.whole_math.proofs.Order.{le_pos, lt_pos}
use Rattle.whole_math.proofs.Certificates.{cert, weak, ◌≼◌, hy}
use Rattle.whole_math.proofs.Inequalities.{same_by, le_refl_ℤ, less_nn}
use Rattle.whole_math.specs.Rounding.{floor_div}
use Rattle.whole_math.proofs.Rounding.{floor_le, lt_floor}
use Rattle.whole_math.specs.Rational.{Rational, ◌≈◌, ◌≤ʳ◌, of_whole, ◌+ʳ◌, ◌-ʳ◌, ◌*ʳ◌, neg_r, times, two_to_minus, AreWithin, InBox}
use Rattle.whole_math.specs.Boxes.{of_scale}
use Rattle.whole_math.proofs.RationalLaws.{≤ʳ_trans, ≤ʳ_from_same}
use Rattle.whole_math.proofs.Ends.{low_end, high_end}
use Rattle.trig_box.specs.AnglePairs.{Pair, doubled, part, IsAnglePair}
use Rattle.trig_box.specs.CanonicalPairs.{taylor_pair, IsCanonicalPair}
use Rattle.trig_box.proofs.PairLaws.{canonical_exists, canonical_is_pair, canonical_law, sharp_law, size_law_5}
use Rattle.orbit_model.specs.Elements.{earth_rate}
use Rattle.sv_orbit.proofs.Iterates.{no_sine}
use Rattle.signal_travel.proofs.EarthTurnCertificates.{angle_up, angle_down, pad_low, pad_high, zero_right, zero_left}

-- ---- a pair of a time of the box lies within the pad of the canonical pair of the middle
within : (t : Rational) (l h m r a p : ℤ) → InBox 60 l h t → (m -ℤ l) ≤ℤ r → (h -ℤ m) ≤ℤ r → a ≡ floor_div (pos 72921151467 *ℤ m) 16000000000000000 →
    (r +ℤ pos 135168) ≤ℤ (pos 4096 *ℤ p) → pos 0 ≤ℤ r →
    AreWithin (of_scale 61 (p -ℤ pos 1)) (earth_rate *ʳ t) (of_scale 56 a)
within t l h m r a p b lm mh e k r0 = (
  angle_up t.num (pos t.den) h m r a p b.1 mh (top (pos 72921151467 *ℤ m) a e) k r0 (weak (pos 0) (pos t.den) (lt_pos 0 t.den t.positive)),
  angle_down t.num (pos t.den) l m r a p b.0 lm (bottom (pos 72921151467 *ℤ m) a e) k r0 (weak (pos 0) (pos t.den) (lt_pos 0 t.den t.positive)),
)
  where
    top : (z a : ℤ) → a ≡ floor_div z 16000000000000000 → z ≤ℤ ((a *ℤ pos 16000000000000000) +ℤ pos 16000000000000000)
    top z a e = subst (λ (y : ℤ). z ≤ℤ ((y *ℤ pos 16000000000000000) +ℤ pos 16000000000000000)) (sym e)
        (weak z ((floor_div z 16000000000000000 *ℤ pos 16000000000000000) +ℤ pos 16000000000000000) (lt_floor z 16000000000000000 (lit< tt)))

    bottom : (z a : ℤ) → a ≡ floor_div z 16000000000000000 → (a *ℤ pos 16000000000000000) ≤ℤ z
    bottom z a e = subst (λ (y : ℤ). (y *ℤ pos 16000000000000000) ≤ℤ z) (sym e) (floor_le z 16000000000000000 (lit< tt))

-- twice that distance, and the constant of the law, are at most the pad
pad_most : (p : ℤ) → times 2 (of_scale 61 (p -ℤ pos 1)) +ʳ two_to_minus 67 ≤ʳ of_scale 60 p
pad_most p = omega (arith, ints)

-- a box that reaches the pad further on both sides
pub padded_holds : (l h l' h' p : ℤ) (c s d : Rational) → l' ≡ l -ℤ p → h' ≡ h +ℤ p → InBox 60 l h s → AreWithin d c s → d ≤ʳ of_scale 60 p → InBox 60 l' h' c
padded_holds l h l' h' p c s d el eh b w k = (
  ≤ʳ_trans (of_scale 60 l') (of_scale 60 l -ʳ of_scale 60 p) c (≤ʳ_from_same (of_scale 60 l') (of_scale 60 l -ʳ of_scale 60 p) (low l p l' el))
      (pad_low c s d (of_scale 60 l) (of_scale 60 p) b.0 w.1 k),
  ≤ʳ_trans c (of_scale 60 h +ʳ of_scale 60 p) (of_scale 60 h') (pad_high c s d (of_scale 60 h) (of_scale 60 p) b.1 w.0 k)
      (≤ʳ_from_same (of_scale 60 h +ʳ of_scale 60 p) (of_scale 60 h') (high h p h' eh)),
)
  where
    low : (l p z : ℤ) → z ≡ l -ℤ p → of_scale 60 z ≈ of_scale 60 l -ʳ of_scale 60 p
    low l p z e = subst (λ (y : ℤ). of_scale 60 y ≈ of_scale 60 l -ʳ of_scale 60 p) (sym e) (same_by (l ∷ p ∷ pos (2 ^ 60) ∷ []) (λ l p k. ((l ⊖ p) ⊗ (k ⊗ k), (l ⊗ k ⊖ p ⊗ k) ⊗ k)) refl)

    high : (h p z : ℤ) → z ≡ h +ℤ p → of_scale 60 h +ʳ of_scale 60 p ≈ of_scale 60 z
    high h p z e = subst (λ (y : ℤ). of_scale 60 h +ʳ of_scale 60 p ≈ of_scale 60 y) (sym e) (same_by (h ∷ p ∷ pos (2 ^ 60) ∷ []) (λ h p k. ((h ⊗ k ⊕ p ⊗ k) ⊗ k, (h ⊕ p) ⊗ (k ⊗ k))) refl)

-- the boxes of the pairs of an angle
pub record ArePairs (a cl ch sl sh : ℤ) : Type 0 where
  pub angle_low : pos 0 ≤ℤ a
  pub angle_high : a ≤ℤ pos 875753788197
  pub pairs : (c s : Rational) → IsAnglePair 5 (of_scale 56 a) c s → InBox 60 cl ch c × InBox 60 sl sh s
  pub cos_narrow : (ch -ℤ cl) ≤ℤ pos 512
  pub sin_narrow : (sh -ℤ sl) ≤ℤ pos 512

-- the box of times, its middle, the angle, the boxes of the pairs, the pad
pub record IsTurn (tl th m a p cl ch sl sh : ℤ) : Type 0 where
  pub middle_high : m ≤ℤ th
  pub below : (m -ℤ tl) ≤ℤ (th -ℤ m)
  pub angle : a ≡ floor_div (pos 72921151467 *ℤ m) 16000000000000000
  pub angle_low : pos 0 ≤ℤ a
  pub angle_high : a ≤ℤ pos 875753788197
  pub least : ((th -ℤ m) +ℤ pos 135168) ≤ℤ (pos 4096 *ℤ p)
  pub pairs : (c s : Rational) → IsAnglePair 5 (of_scale 56 a) c s → InBox 60 cl ch c × InBox 60 sl sh s

canonical : (a : ℤ) → pos 0 ≤ℤ a → a ≤ℤ pos 875753788197 → (c : Rational) × (s : Rational) × IsCanonicalPair 5 (of_scale 56 a) c s
canonical a l h = canonical_exists 5 (of_scale 56 a) (go a l h)
  where
    go : (a : ℤ) → pos 0 ≤ℤ a → a ≤ℤ pos 875753788197 → 2 * unsigned_abs a ≤ 2 ^ 5 * 2 ^ 56
    go a l h = omega (arith, ints)

pub turn_holds : (tl th m a p cl ch sl sh cl' ch' sl' sh' : ℤ) → IsTurn tl th m a p cl ch sl sh → cl' ≡ cl -ℤ p → ch' ≡ ch +ℤ p → sl' ≡ sl -ℤ p → sh' ≡ sh +ℤ p →
    (t c s : Rational) → InBox 60 tl th t → IsAnglePair 5 (earth_rate *ʳ t) c s → InBox 60 cl' ch' c × InBox 60 sl' sh' s
turn_holds tl th m a p cl ch sl sh cl' ch' sl' sh' k e f g h t c s b q =
    let canonical_pair = canonical a k.angle_low k.angle_high in
    let angle_is_within = within t tl th m (th -ℤ m) a p b k.below (le_refl_ℤ (th -ℤ m)) k.angle k.least (less_nn k.middle_high) in
    let is_pair = canonical_is_pair 5 (of_scale 56 a) canonical_pair.0 canonical_pair.1 canonical_pair.2 in
    let law = sharp_law 5 (of_scale 61 (p -ℤ pos 1)) (earth_rate *ʳ t) (of_scale 56 a) c s canonical_pair.0 canonical_pair.1 (lit≤ tt) q is_pair angle_is_within in
    let held = k.pairs canonical_pair.0 canonical_pair.1 is_pair in
    let distance : Rational = times 2 (of_scale 61 (p -ℤ pos 1)) +ʳ two_to_minus 67 in
    (padded_holds cl ch cl' ch' p c canonical_pair.0 distance e f held.0 law.0 (pad_most p), padded_holds sl sh sl' sh' p s canonical_pair.1 distance g h held.1 law.1 (pad_most p))

-- ---- sizes: the pair of so small an angle is near (1, 0)

-- from a bound of the negative
low_of : (m : ℤ) (q : Rational) → neg_r q ≤ʳ of_scale 60 m → of_scale 60 (neg_ℤ m) ≤ʳ q
low_of m q h = go m q.num (pos q.den) h
  where
    go : (m n d : ℤ) → (neg_ℤ n *ℤ pos 1152921504606846976) ≤ℤ (m *ℤ d) → (neg_ℤ m *ℤ d) ≤ℤ (n *ℤ pos 1152921504606846976)
    go m n d h = cert (m ∷ n ∷ d ∷ []) ((ng (va 1) ⊗ ko (pos 1152921504606846976) ≼ va 0 ⊗ va 2) ∷ []) (ng (va 0) ⊗ va 2) (va 1 ⊗ ko (pos 1152921504606846976)) (hy 0) refl (h, tt)

one_most : of_whole (pos 1) +ʳ two_to_minus 16 ≤ʳ of_scale 60 (pos 1152939096792891392)
one_most = le_pos (65537 * 1152921504606846976) (1152939096792891392 * 65536) (lit≤ tt)

pub cos_ends : (a cl ch sl sh : ℤ) → ArePairs a cl ch sl sh → (neg_ℤ (pos 1152939096792891904) ≤ℤ cl) × (ch ≤ℤ pos 1152939096792891904)
cos_ends a cl ch sl sh k =
    let canonical_pair = canonical a k.angle_low k.angle_high in
    let is_pair = canonical_is_pair 5 (of_scale 56 a) canonical_pair.0 canonical_pair.1 canonical_pair.2 in
    let cosine_at_most = (size_law_5 (of_scale 56 a) canonical_pair.0 canonical_pair.1 is_pair).0 in
    let cosine_in_box = (k.pairs canonical_pair.0 canonical_pair.1 is_pair).0 in
    let largest : Rational = of_whole (pos 1) +ʳ two_to_minus 16 in
    let cosine : Rational = canonical_pair.0 in (
      low_end 60 cl ch (pos 512) (neg_ℤ (pos 1152939096792891392)) cosine k.cos_narrow (low_of (pos 1152939096792891392) cosine (≤ʳ_trans (neg_r cosine) largest (of_scale 60 (pos 1152939096792891392)) cosine_at_most.1 one_most)) cosine_in_box,
      high_end 60 cl ch (pos 512) (pos 1152939096792891392) cosine k.cos_narrow (≤ʳ_trans cosine largest (of_scale 60 (pos 1152939096792891392)) cosine_at_most.0 one_most) cosine_in_box,
    )

first_sine : (taylor_pair (part 5 (of_scale 56 (pos 0)))).sin.num ≡ pos 0
first_sine = omega (arith, ints)

at_zero : (d s e : Rational) → e.num ≡ pos 0 → AreWithin d s e → (s ≤ʳ d) × (neg_r s ≤ʳ d)
at_zero d s e z w = (
  zero_right s.num (pos s.den) (pos e.den) d.num (pos d.den)
      (subst (λ (m : ℤ). (((s.num *ℤ pos e.den) -ℤ (m *ℤ pos s.den)) *ℤ pos d.den) ≤ℤ (d.num *ℤ (pos s.den *ℤ pos e.den))) z w.0) (lt_pos 0 e.den e.positive),
  zero_left s.num (pos s.den) (pos e.den) d.num (pos d.den)
      (subst (λ (m : ℤ). (((m *ℤ pos s.den) -ℤ (s.num *ℤ pos e.den)) *ℤ pos d.den) ≤ℤ (d.num *ℤ (pos e.den *ℤ pos s.den))) z w.1) (lt_pos 0 e.den e.positive),
)

zero_pair : Pair
zero_pair = doubled 5 (taylor_pair (part 5 (of_scale 56 (pos 0))))

zero_canonical : IsCanonicalPair 5 (of_scale 56 (pos 0)) zero_pair.cos zero_pair.sin
unfolding zero_pair
zero_canonical = record { in_range = lit≤ tt; cos_is = refl; sin_is = refl }

zero_is : zero_pair.sin.num ≡ pos 0
unfolding zero_pair
zero_is = no_sine 5 (taylor_pair (part 5 (of_scale 56 (pos 0)))) first_sine

pub sin_ends : (a cl ch sl sh : ℤ) → ArePairs a cl ch sl sh → (neg_ℤ (pos 28024121222816) ≤ℤ sl) × (sh ≤ℤ pos 28024121222816)
sin_ends a cl ch sl sh k =
    let canonical_pair = canonical a k.angle_low k.angle_high in
    let is_pair = canonical_is_pair 5 (of_scale 56 a) canonical_pair.0 canonical_pair.1 canonical_pair.2 in
    let sine_in_box = (k.pairs canonical_pair.0 canonical_pair.1 is_pair).1 in
    let sine : Rational = canonical_pair.1 in
    let law = canonical_law 5 (of_scale 56 a) (of_scale 56 a) (of_scale 56 (pos 0)) canonical_pair.0 sine zero_pair.cos zero_pair.sin (lit≤ tt) canonical_pair.2 zero_canonical (near a k.angle_low) in
    let sine_near_zero = at_zero (times 2 (of_scale 56 a)) sine zero_pair.sin zero_is law.1 in
    let angle_at_most = small a k.angle_high in (
      low_end 60 sl sh (pos 512) (neg_ℤ (pos 28024121222304)) sine k.sin_narrow (low_of (pos 28024121222304) sine (≤ʳ_trans (neg_r sine) (times 2 (of_scale 56 a)) (of_scale 60 (pos 28024121222304)) sine_near_zero.1 angle_at_most)) sine_in_box,
      high_end 60 sl sh (pos 512) (pos 28024121222304) sine k.sin_narrow (≤ʳ_trans sine (times 2 (of_scale 56 a)) (of_scale 60 (pos 28024121222304)) sine_near_zero.0 angle_at_most) sine_in_box,
    )
  where
    near : (a : ℤ) → pos 0 ≤ℤ a → AreWithin (of_scale 56 a) (of_scale 56 a) (of_scale 56 (pos 0))
    near a h = (omega (arith, ints), omega (arith, ints))

    small : (a : ℤ) → a ≤ℤ pos 875753788197 → times 2 (of_scale 56 a) ≤ʳ of_scale 60 (pos 28024121222304)
    small a h = omega (arith, ints)

-- ---- the limits of the padded boxes
pub pad_small : (d p : ℤ) → (d +ℤ d) ≤ℤ pos 192153584101141164 → (pos 4096 *ℤ p) ≤ℤ (d +ℤ pos 139264) → p ≤ℤ pos 23456248059260
pad_small d p h k = omega (arith, ints)

pub padded_within : (l h l' h' p m n : ℤ) → l' ≡ l -ℤ p → h' ≡ h +ℤ p → neg_ℤ m ≤ℤ l → h ≤ℤ m → p ≤ℤ pos 23456248059260 → (m +ℤ pos 23456248059260) ≤ℤ n → (neg_ℤ n ≤ℤ l') × (h' ≤ℤ n)
padded_within l h l' h' p m n el eh ml mh k o = (omega (arith, ints), omega (arith, ints))

-- the width of a padded box of 512 units
pub padded_width : (l h l' h' p d t w : ℤ) → l' ≡ l -ℤ p → h' ≡ h +ℤ p → (h -ℤ l) ≤ℤ pos 512 → (pos 4096 *ℤ p) ≤ℤ (d +ℤ pos 139264)
    → (d +ℤ d) ≤ℤ (t +ℤ pos 1) → (t +ℤ pos (580 * 2 ^ 12 + 1)) ≤ℤ (pos (2 ^ 12) *ℤ w) → (h' -ℤ l') ≤ℤ w
padded_width l h l' h' p d t w el eh n k j o = omega (arith, ints)

-- ---- from the values of the code, read with casts, to plain ones
pub plain_radius : (m h : ℤ) → pos 0 ≤ℤ m → m ≤ℤ h → h ≤ℤ pos 192153584101141163 → to_z w64 (of_z w64 (to_z w64 (of_z w64 h) -ℤ to_z w64 (of_z w64 m))) ≡ h -ℤ m
plain_radius m h a b c = omega (arith, ints)
