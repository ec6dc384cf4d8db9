-- Every sent place is seen: a travel time is found by bisection, with canonical pairs.
use Rattle.std.proofs.Common.{◌≡◌, ℕ, zero, suc, ◌*◌, ◌^◌, ◌≤◌, ◌⊎◌, inl, inr, [], ◌∷◌, ℤ, pos, ◌*ℤ◌, ◌≤ℤ◌, unsigned_abs, arith, refl, lit<, lit≤}
use Rattle.std.proofs.lemmas.Int.{ints}
use Rattle.whole_math.proofs.Ring.{va, ko, ◌⊕◌, ◌⊗◌}
use Rattle.whole_math.proofs.Certificates.{nm, sq, ◌⊞◌}
use Rattle.whole_math.proofs.Inequalities.{same_by, nat}
use Rattle.whole_math.proofs.Order.{le_pos}
use Rattle.whole_math.proofs.Powers.{pow_suc}
use Rattle.whole_math.specs.Rational.{Rational, ◌≈◌, ◌≤ʳ◌, of_whole, ◌+ʳ◌, ◌-ʳ◌, ◌*ʳ◌, neg_r, times, divided, two_to_minus, AreWithin, IsAtMostInSize}
use Rattle.whole_math.proofs.RationalLaws.{≤ʳ_total, ≤ʳ_trans, ≤ʳ_from_same, ≈_sym}
use Rattle.orbit_model.proofs.Orders.{cert_r, root_r}
use Rattle.trig_box.specs.AnglePairs.{Pair, doubled, part, IsAnglePair}
use Rattle.trig_box.specs.CanonicalPairs.{taylor_pair, IsCanonicalPair}
use Rattle.trig_box.proofs.PairLaws.{canonical_law, canonical_is_pair, size_law_5}
use Rattle.orbit_model.specs.Elements.{earth_rate}
use Rattle.orbit_model.specs.SeenPlaces.{Position, difference, square, turned_back, range_of}
use Rattle.orbit_model.specs.Places.{HasSeenPlace, IsSentPlace, IsReceiverPlace}
use Rattle.orbit_model.proofs.NearRoots.{near_root, travel_root}
use Rattle.orbit_model.proofs.Apart.{IsBetween, turned_square, loosely, vector_square}
use Rattle.orbit_model.proofs.BisectionCertificates.{coordinate_square, first_move, second_move, first_size, first_neg, second_size, second_neg, square_move, ends_high, ends_low, light_square, at_last, sum_move, zero_early, middle_low, middle_high, most_below, upper_half, lower_half, slower, slower_back, range_nn}
use Rattle.orbit_model.proofs.ChangeCertificates.{neg_square}

pub turned_round : (x y z : Rational) → y *ʳ y +ʳ x *ʳ x +ʳ z *ʳ z ≤ʳ x *ʳ x +ʳ y *ʳ y +ʳ z *ʳ z
turned_round x y z =
    cert_r (x ∷ y ∷ z ∷ []) ([]) ((((va 1) ⊗ (va 1)) ⊕ ((va 0) ⊗ (va 0))) ⊕ ((va 2) ⊗ (va 2))) ((((va 0) ⊗ (va 0)) ⊕ ((va 1) ⊗ (va 1))) ⊕ ((va 2) ⊗ (va 2))) (nm 0) refl tt

pub turned_about : (x y z : Rational) → z *ʳ z +ʳ y *ʳ y +ʳ x *ʳ x ≤ʳ x *ʳ x +ʳ y *ʳ y +ʳ z *ʳ z
turned_about x y z =
    cert_r (x ∷ y ∷ z ∷ []) ([]) ((((va 2) ⊗ (va 2)) ⊕ ((va 1) ⊗ (va 1))) ⊕ ((va 0) ⊗ (va 0))) ((((va 0) ⊗ (va 0)) ⊕ ((va 1) ⊗ (va 1))) ⊕ ((va 2) ⊗ (va 2))) (nm 0) refl tt

-- ---- how far a seen place moves

-- ---- where the bisection ends

pub square_nn : (x y z : Rational) → of_whole (pos 0) ≤ʳ x *ʳ x +ʳ y *ʳ y +ʳ z *ʳ z
square_nn x y z =
    cert_r (x ∷ y ∷ z ∷ []) ([]) (ko (pos 0)) ((((va 0) ⊗ (va 0)) ⊕ ((va 1) ⊗ (va 1))) ⊕ ((va 2) ⊗ (va 2))) (((sq (va 0)) ⊞ (sq (va 1))) ⊞ (sq (va 2))) refl tt

-- ---- a step of the bisection: m is the middle of a and b

-- ---- the pair by which the Earth turns in a time, and what is seen after it
abbrev pair_at : Rational → Pair
pair_at t = doubled 5 (taylor_pair (part 5 (earth_rate *ʳ t)))

abbrev gap_at : Position → Position → Rational → Rational
gap_at sent point t = square (difference (turned_back (pair_at t) sent) point)

-- a time from 0 to 1/6 s
record IsTime (t : Rational) : Type 0 where
  not_negative : of_whole (pos 0) ≤ʳ t
  most : of_whole (pos 6) *ʳ t ≤ʳ of_whole (pos 1)

canonical_at : (t : Rational) → IsTime t → IsCanonicalPair 5 (earth_rate *ʳ t) (pair_at t).cos (pair_at t).sin
canonical_at t h = record { in_range = go t.num t.den h.not_negative h.most; cos_is = refl; sin_is = refl }
  where
    go : (n : ℤ) (d : ℕ) → (pos 0 *ℤ pos d) ≤ℤ (n *ℤ pos 1) → ((pos 6 *ℤ n) *ℤ pos 1) ≤ℤ (pos 1 *ℤ pos (1 * d)) → 2 * unsigned_abs (pos 72921151467 *ℤ n) ≤ 2 ^ 5 * (10 ^ 15 * d)
    go n d h k = omega (arith, ints)

-- the distances
pub record AreApart (sent point : Position) : Type 0 where
  pub is_sent : IsSentPlace sent
  pub is_receiver : IsReceiverPlace point

pub coordinates : (x y z : Rational) (b : ℕ) → x *ʳ x +ʳ y *ʳ y +ʳ z *ʳ z ≤ʳ of_whole (pos b) *ʳ of_whole (pos b)
    → (x ≤ʳ of_whole (pos b)) × (neg_r x ≤ʳ of_whole (pos b))
coordinates x y z b h =
    let square_at_most = coordinate_square x y z (of_whole (pos b)) h in
    let bound_not_negative = go b in
    (root_r x (of_whole (pos b)) bound_not_negative square_at_most, root_r (neg_r x) (of_whole (pos b)) bound_not_negative (neg_square x (of_whole (pos b)) square_at_most))
  where
    go : (b : ℕ) → (pos 0 *ℤ pos 1) ≤ℤ (pos b *ℤ pos 1)
    go b = omega (arith, ints)

pub both_within : (d p q : Rational) → AreWithin (times 2 d) p q → (p -ʳ q ≤ʳ of_whole (pos 2) *ʳ d) × (q -ʳ p ≤ʳ of_whole (pos 2) *ʳ d)
both_within d p q h = (≤ʳ_trans (p -ʳ q) (times 2 d) (of_whole (pos 2) *ʳ d) h.0 twice, ≤ʳ_trans (q -ʳ p) (times 2 d) (of_whole (pos 2) *ʳ d) h.1 twice)
  where
    twice : times 2 d ≤ʳ of_whole (pos 2) *ʳ d
    twice = ≤ʳ_from_same (times 2 d) (of_whole (pos 2) *ʳ d) (same_by (d.num ∷ pos d.den ∷ []) (λ n d. (nat 2 ⊗ n ⊗ (nat 1 ⊗ d), nat 2 ⊗ n ⊗ d)) refl)

at_most_two : (q : Rational) → IsAtMostInSize (of_whole (pos 1) +ʳ two_to_minus 16) q → (q ≤ʳ of_whole (pos 2)) × (neg_r q ≤ʳ of_whole (pos 2))
at_most_two q h = (≤ʳ_trans q (of_whole (pos 1) +ʳ two_to_minus 16) (of_whole (pos 2)) h.0 two, ≤ʳ_trans (neg_r q) (of_whole (pos 1) +ʳ two_to_minus 16) (of_whole (pos 2)) h.1 two)
  where
    two : of_whole (pos 1) +ʳ two_to_minus 16 ≤ʳ of_whole (pos 2)
    two = le_pos 65537 131072 (lit≤ tt)

pub rate_low : of_whole (pos 0) ≤ʳ earth_rate
rate_low = le_pos 0 72921151467 (lit≤ tt)

rate_high : earth_rate ≤ʳ of_whole (pos 1)
rate_high = le_pos 72921151467 1000000000000000 (lit≤ tt)

-- what the laws say of the pairs of two angles
pub record AreTurns (d : Rational) (p q : Pair) : Type 0 where
  pub cos_up : p.cos -ʳ q.cos ≤ʳ of_whole (pos 2) *ʳ d
  pub cos_down : q.cos -ʳ p.cos ≤ʳ of_whole (pos 2) *ʳ d
  pub sin_up : p.sin -ʳ q.sin ≤ʳ of_whole (pos 2) *ʳ d
  pub sin_down : q.sin -ʳ p.sin ≤ʳ of_whole (pos 2) *ʳ d

turns : (a b : Rational) → IsTime a → IsTime b → a ≤ʳ b → AreTurns (b -ʳ a) (pair_at b) (pair_at a)
turns a b ha hb o =
    let near : AreWithin (b -ʳ a) (earth_rate *ʳ b) (earth_rate *ʳ a) = (slower a b earth_rate o rate_low rate_high, slower_back a b earth_rate o rate_low) in
    let law = canonical_law 5 (b -ʳ a) (earth_rate *ʳ b) (earth_rate *ʳ a) (pair_at b).cos (pair_at b).sin (pair_at a).cos (pair_at a).sin
    (lit≤ tt) (canonical_at b hb) (canonical_at a ha) near in
    let cosines_near = both_within (b -ʳ a) (pair_at b).cos (pair_at a).cos law.0 in
    let sines_near = both_within (b -ʳ a) (pair_at b).sin (pair_at a).sin law.1 in
    record { cos_up = cosines_near.0; cos_down = cosines_near.1; sin_up = sines_near.0; sin_down = sines_near.1 }

-- each coordinate of the places, and each part of the pairs, at its most
record AreSized (sent point : Position) : Type 0 where
  x : (sent.x ≤ʳ of_whole (pos 38000000)) × (neg_r sent.x ≤ʳ of_whole (pos 38000000))
  y : (sent.y ≤ʳ of_whole (pos 38000000)) × (neg_r sent.y ≤ʳ of_whole (pos 38000000))
  p : (point.x ≤ʳ of_whole (pos 7000000)) × (neg_r point.x ≤ʳ of_whole (pos 7000000))
  q : (point.y ≤ʳ of_whole (pos 7000000)) × (neg_r point.y ≤ʳ of_whole (pos 7000000))

sized : (sent point : Position) → AreApart sent point → AreSized sent point
sized sent point h = record {
  x = coordinates sent.x sent.y sent.z 38000000 (along (square sent) 38000000 h.is_sent.1);
  y = coordinates sent.y sent.x sent.z 38000000 (≤ʳ_trans (sent.y *ʳ sent.y +ʳ sent.x *ʳ sent.x +ʳ sent.z *ʳ sent.z) (square sent)
      (of_whole (pos 38000000) *ʳ of_whole (pos 38000000)) (turned_round sent.x sent.y sent.z) (along (square sent) 38000000 h.is_sent.1));
  p = coordinates point.x point.y point.z 7000000 (along (square point) 7000000 h.is_receiver.1);
  q = coordinates point.y point.x point.z 7000000
      (≤ʳ_trans (point.y *ʳ point.y +ʳ point.x *ʳ point.x +ʳ point.z *ʳ point.z) (square point)
      (of_whole (pos 7000000) *ʳ of_whole (pos 7000000)) (turned_round point.x point.y point.z) (along (square point) 7000000 h.is_receiver.1));
}
  where
    along : (q : Rational) (b : ℕ) → q ≤ʳ of_whole (pos (b * b)) → q ≤ʳ of_whole (pos b) *ʳ of_whole (pos b)
    along q b h = ≤ʳ_trans q (of_whole (pos (b * b))) (of_whole (pos b) *ʳ of_whole (pos b)) h (≤ʳ_from_same (of_whole (pos (b * b))) (of_whole (pos b) *ʳ of_whole (pos b)) refl)

-- the squared distance changes slowly with the pair by which the Earth turns
pub moves_slowly : (sent point : Position) (d x y : Rational) (p q : Pair) → AreApart sent point → IsAnglePair 5 x p.cos p.sin → IsAnglePair 5 y q.cos q.sin → AreTurns d p q
    → square (difference (turned_back q sent) point) -ʳ square (difference (turned_back p sent) point) ≤ʳ of_whole (pos 96672000000000000) *ʳ d
moves_slowly sent point d x y p q h hp hq t =
    let point_sized = sized sent point h in
    let c : Rational = p.cos in
    let s : Rational = p.sin in
    let e : Rational = q.cos in
    let f : Rational = q.sin in
    let left_sizes = size_law_5 x c s hp in
    let right_sizes = size_law_5 y e f hq in
    let left_cos_small = at_most_two c left_sizes.0 in
    let left_sin_small = at_most_two s left_sizes.1 in
    let right_cos_small = at_most_two e right_sizes.0 in
    let right_sin_small = at_most_two f right_sizes.1 in
    let u : Rational = c *ʳ sent.x +ʳ s *ʳ sent.y in
    let v : Rational = e *ʳ sent.x +ʳ f *ʳ sent.y in
    let w : Rational = c *ʳ sent.y -ʳ s *ʳ sent.x in
    let v2 : Rational = e *ʳ sent.y -ʳ f *ʳ sent.x in
    sum_move u v w v2 sent.z point.x point.y point.z d
    (square_move u v point.x d
    (first_move c s e f sent.x sent.y d t.cos_up t.cos_down t.sin_up t.sin_down point_sized.x.0 point_sized.x.1 point_sized.y.0 point_sized.y.1)
    (first_move e f c s sent.x sent.y d t.cos_down t.cos_up t.sin_down t.sin_up point_sized.x.0 point_sized.x.1 point_sized.y.0 point_sized.y.1)
    (first_size e f sent.x sent.y right_cos_small.0 right_cos_small.1 right_sin_small.0 right_sin_small.1 point_sized.x.0 point_sized.x.1 point_sized.y.0 point_sized.y.1) (first_neg e f sent.x sent.y right_cos_small.0 right_cos_small.1 right_sin_small.0 right_sin_small.1 point_sized.x.0 point_sized.x.1 point_sized.y.0 point_sized.y.1)
    (first_size c s sent.x sent.y left_cos_small.0 left_cos_small.1 left_sin_small.0 left_sin_small.1 point_sized.x.0 point_sized.x.1 point_sized.y.0 point_sized.y.1) (first_neg c s sent.x sent.y left_cos_small.0 left_cos_small.1 left_sin_small.0 left_sin_small.1 point_sized.x.0 point_sized.x.1 point_sized.y.0 point_sized.y.1) point_sized.p.0 point_sized.p.1)
    (square_move w v2 point.y d
    (second_move c s e f sent.x sent.y d t.cos_up t.cos_down t.sin_up t.sin_down point_sized.x.0 point_sized.x.1 point_sized.y.0 point_sized.y.1)
    (second_move e f c s sent.x sent.y d t.cos_down t.cos_up t.sin_down t.sin_up point_sized.x.0 point_sized.x.1 point_sized.y.0 point_sized.y.1)
    (second_size e f sent.x sent.y right_cos_small.0 right_cos_small.1 right_sin_small.0 right_sin_small.1 point_sized.x.0 point_sized.x.1 point_sized.y.0 point_sized.y.1) (second_neg e f sent.x sent.y right_cos_small.0 right_cos_small.1 right_sin_small.0 right_sin_small.1 point_sized.x.0 point_sized.x.1 point_sized.y.0 point_sized.y.1)
    (second_size c s sent.x sent.y left_cos_small.0 left_cos_small.1 left_sin_small.0 left_sin_small.1 point_sized.x.0 point_sized.x.1 point_sized.y.0 point_sized.y.1) (second_neg c s sent.x sent.y left_cos_small.0 left_cos_small.1 left_sin_small.0 left_sin_small.1 point_sized.x.0 point_sized.x.1 point_sized.y.0 point_sized.y.1) point_sized.q.0 point_sized.q.1)

slow : (sent point : Position) (a b : Rational) → AreApart sent point → IsTime a → IsTime b → a ≤ʳ b
    → gap_at sent point a -ʳ gap_at sent point b ≤ʳ of_whole (pos 96672000000000000) *ʳ (b -ʳ a)
slow sent point a b h ha hb o =
    moves_slowly sent point (b -ʳ a) (earth_rate *ʳ b) (earth_rate *ʳ a) (pair_at b) (pair_at a) h
    (canonical_is_pair 5 (earth_rate *ʳ b) (pair_at b).cos (pair_at b).sin (canonical_at b hb))
    (canonical_is_pair 5 (earth_rate *ʳ a) (pair_at a).cos (pair_at a).sin (canonical_at a ha)) (turns a b ha hb o)

-- ---- the bisection
-- light would be early at the one time and late at the other, which are at most 1/(6·2^n) s apart
record Bracket (sent point : Position) (n : ℕ) : Type 0 where
  early : Rational
  late : Rational
  early_time : IsTime early
  late_time : IsTime late
  ordered : early ≤ʳ late
  is_early : of_whole (pos 89875517873681764) *ʳ (early *ʳ early) ≤ʳ gap_at sent point early
  is_late : gap_at sent point late ≤ʳ of_whole (pos 89875517873681764) *ʳ (late *ʳ late)
  narrow : of_whole (pos (6 * 2 ^ n)) *ʳ (late -ʳ early) ≤ʳ of_whole (pos 1)

gap_bounds : (sent point : Position) (t : Rational) → AreApart sent point → IsTime t → IsBetween 141000000000000 2040000000000000 (gap_at sent point t)
gap_bounds sent point t h i =
    let angle : Rational = earth_rate *ʳ t in
    let is_pair = canonical_is_pair 5 angle (pair_at t).cos (pair_at t).sin (canonical_at t i) in
    vector_square (turned_back (pair_at t) sent) point (loosely (square (turned_back (pair_at t) sent)) (turned_square sent angle (pair_at t) h.is_sent is_pair)) h.is_receiver

sixth : Rational
sixth = record { num = pos 1; den = 6; positive = lit< tt }

first_time : IsTime (of_whole (pos 0))
first_time = record { not_negative = le_pos 0 0 (lit≤ tt); most = le_pos 0 1 (lit≤ tt) }

last_time : IsTime sixth
unfolding sixth
last_time = record { not_negative = le_pos 0 1 (lit≤ tt); most = le_pos 6 6 (lit≤ tt) }

start : (sent point : Position) → AreApart sent point → Bracket sent point 0
unfolding sixth
start sent point h = record {
  early = of_whole (pos 0);
  late = sixth;
  early_time = first_time;
  late_time = last_time;
  ordered = le_pos 0 1 (lit≤ tt);
  is_early =
      let gap : Position = difference (turned_back (pair_at (of_whole (pos 0))) sent) point in
      zero_early (gap_at sent point (of_whole (pos 0))) (square_nn gap.x gap.y gap.z);
  is_late = at_last (gap_at sent point sixth) sixth (gap_bounds sent point sixth h last_time).high (le_pos 6 6 (lit≤ tt)) last_time.not_negative;
  narrow = le_pos 6 6 (lit≤ tt);
}

-- ---- the middle
halved : Rational → Rational
halved q = divided q 2 (lit< tt)

twice_half : (q : Rational) → of_whole (pos 2) *ʳ halved q ≈ q
unfolding halved
twice_half q = same_by (q.num ∷ pos q.den ∷ []) (λ n d. (nat 2 ⊗ n ⊗ d, n ⊗ (nat 1 ⊗ (nat 2 ⊗ d)))) refl

twice_power : (n : ℕ) → of_whole (pos (6 * 2 ^ suc n)) ≤ʳ of_whole (pos 2) *ʳ of_whole (pos (6 * 2 ^ n))
twice_power n = go (pos (2 ^ suc n)) (pos (2 ^ n)) (pow_suc 2 n)
  where
    go : (p q : ℤ) → p ≡ pos 2 *ℤ q → ((pos 6 *ℤ p) *ℤ pos 1) ≤ℤ ((pos 2 *ℤ (pos 6 *ℤ q)) *ℤ pos 1)
    go p q e = omega (arith, ints)

power_nn : (n : ℕ) → of_whole (pos 0) ≤ʳ of_whole (pos (6 * 2 ^ n))
power_nn n = go (6 * 2 ^ n)
  where
    go : (b : ℕ) → (pos 0 *ℤ pos 1) ≤ℤ (pos b *ℤ pos 1)
    go b = omega (arith, ints)

step : (sent point : Position) (n : ℕ) → Bracket sent point n → Bracket sent point (suc n)
step sent point n k =
    let early : Rational = k.early in
    let late : Rational = k.late in
    let middle : Rational = halved (early +ʳ late) in
    let twice_middle : of_whole (pos 2) *ʳ middle ≤ʳ early +ʳ late = ≤ʳ_from_same (of_whole (pos 2) *ʳ middle) (early +ʳ late) (twice_half (early +ʳ late)) in
    let down : early +ʳ late ≤ʳ of_whole (pos 2) *ʳ middle = ≤ʳ_from_same (early +ʳ late) (of_whole (pos 2) *ʳ middle) (≈_sym (of_whole (pos 2) *ʳ middle) (early +ʳ late) (twice_half (early +ʳ late))) in
    let early_below = middle_low early late middle k.ordered down in
    let late_above = middle_high early late middle k.ordered twice_middle in
    let time : IsTime middle = record { not_negative = ≤ʳ_trans (of_whole (pos 0)) early middle k.early_time.not_negative early_below; most = most_below middle late late_above k.late_time.most } in
    go early late middle k.early_time k.late_time time early_below late_above k.is_early k.is_late
    (upper_half early late middle (of_whole (pos (6 * 2 ^ n))) (of_whole (pos (6 * 2 ^ suc n))) k.narrow (twice_power n) down late_above (power_nn n))
    (lower_half early late middle (of_whole (pos (6 * 2 ^ n))) (of_whole (pos (6 * 2 ^ suc n))) k.narrow (twice_power n) twice_middle early_below (power_nn n))
    (≤ʳ_total (gap_at sent point middle) (of_whole (pos 89875517873681764) *ʳ (middle *ʳ middle)))
  where
    light : Rational → Rational
    light t = of_whole (pos 89875517873681764) *ʳ (t *ʳ t)

    go : (a b m : Rational) → IsTime a → IsTime b → IsTime m → a ≤ʳ m → m ≤ʳ b → of_whole (pos 89875517873681764) *ʳ (a *ʳ a) ≤ʳ gap_at sent point a →
        gap_at sent point b ≤ʳ of_whole (pos 89875517873681764) *ʳ (b *ʳ b) →
        of_whole (pos (6 * 2 ^ suc n)) *ʳ (b -ʳ m) ≤ʳ of_whole (pos 1) → of_whole (pos (6 * 2 ^ suc n)) *ʳ (m -ʳ a) ≤ʳ of_whole (pos 1) →
        (gap_at sent point m ≤ʳ of_whole (pos 89875517873681764) *ʳ (m *ʳ m)) ⊎ (of_whole (pos 89875517873681764) *ʳ (m *ʳ m) ≤ʳ gap_at sent point m) → Bracket sent point (suc n)
    go a b m ta tb tm am mb ea lb w v (inl l) = record { early = a; late = m; early_time = ta; late_time = tm; ordered = am; is_early = ea; is_late = l; narrow = v }
    go a b m ta tb tm am mb ea lb w v (inr e) = record { early = m; late = b; early_time = tm; late_time = tb; ordered = mb; is_early = e; is_late = lb; narrow = w }

bracket : (sent point : Position) → AreApart sent point → (n : ℕ) → Bracket sent point n
bracket sent point h zero = start sent point h
bracket sent point h (suc n) = step sent point n (bracket sent point h n)

-- ---- the law
found : (sent point : Position) → AreApart sent point → Bracket sent point 80 → HasSeenPlace sent point
found sent point h k =
    let early : Rational = k.early in
    let late : Rational = k.late in
    let early_gap : Rational = gap_at sent point early in
    let late_gap : Rational = gap_at sent point late in
    let bounds = gap_bounds sent point late h k.late_time in
    let high = ends_high early late early_gap late_gap k.is_early (slow sent point early late h k.early_time k.late_time k.ordered) k.ordered k.late_time.most k.narrow bounds.low in
    let gb0 = ≤ʳ_trans (of_whole (pos 0)) (of_whole (pos 141000000000000)) late_gap (le_pos 0 141000000000000 (lit≤ tt)) bounds.low in
    let low = ends_low late_gap (range_of late) gb0 (light_square late late_gap k.is_late) in
    let turn : Pair = pair_at late in
    record {
      travel = late;
      seen = turned_back turn sent;
      is_seen = record {
        turn = turn;
        turn_is = canonical_is_pair 5 (earth_rate *ʳ late) turn.cos turn.sin (canonical_at late k.late_time);
        seen_is = (refl, refl, refl);
        travel_is = travel_root late late_gap (near_root (range_of late) late_gap (range_nn late k.late_time.not_negative) high low);
      };
    }

pub seen_place_exists : (sent point : Position) → IsSentPlace sent → IsReceiverPlace point → HasSeenPlace sent point
seen_place_exists sent point s r = let are_apart : AreApart sent point = record { is_sent = s; is_receiver = r } in found sent point are_apart (bracket sent point are_apart 80)
