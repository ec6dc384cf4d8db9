-- How little the time of light depends on the time in which the Earth turns, and what a pass says of every travel time by that.
use Rattle.std.proofs.Common.{◌≡◌, ◌*◌, ◌^◌, [], ◌∷◌, ◌⊎◌, inl, inr, ℤ, pos, ◌+ℤ◌, ◌-ℤ◌, ◌*ℤ◌, ◌≤ℤ◌, ◌<ℤ◌, arith, refl, lit≤}
use Rattle.std.proofs.lemmas.Int.{ints}
use Rattle.whole_math.proofs.Ring.{◌⊕◌, ◌⊗◌}
use Rattle.whole_math.proofs.Inequalities.{same_by, nat}
use Rattle.whole_math.proofs.Order.{le_pos, lt_pos}
use Rattle.whole_math.specs.Rational.{Rational, ◌≈◌, ◌≤ʳ◌, of_whole, ◌+ʳ◌, ◌-ʳ◌, ◌*ʳ◌, times, two_to_minus, AreWithin, InBox}
use Rattle.whole_math.specs.Boxes.{of_scale}
use Rattle.whole_math.proofs.Boxes.{end_in}
use Rattle.whole_math.proofs.RationalLaws.{≈_sym, ≤ʳ_trans, ≤ʳ_total, ≤ʳ_from_same}
use Rattle.iv_core.specs.declared.Iv.{Iv}
use Rattle.iv_core.specs.Intervals.{Holds}
use Rattle.trig_box.specs.AnglePairs.{Pair, IsAnglePair}
use Rattle.trig_box.proofs.PairLaws.{sharp_law}
use Rattle.orbit_model.specs.Elements.{earth_rate}
use Rattle.orbit_model.specs.SeenPlaces.{Position, difference, square, turned_back, point_of, IsSeenPlace, over_light_speed_squared, range_of}
use Rattle.orbit_model.proofs.Orders.{root_r}
use Rattle.orbit_model.proofs.NearRoots.{range_root, near_high, near_low, root_nn}
use Rattle.orbit_model.proofs.Apart.{IsBetween, turned_square, loosely, vector_square}
use Rattle.orbit_model.proofs.Seen.{square_same, difference_same}
use Rattle.orbit_model.proofs.Exists.{AreApart, AreTurns, moves_slowly, both_within, rate_low}
use Rattle.sv_orbit.proofs.Roots.{near_root_exists}
use Rattle.signal_travel.specs.declared.sent.Point.{Point}
use Rattle.signal_travel.specs.declared.sent.SentBox.{SentBox}
use Rattle.signal_travel.specs.SeenAfter.{IsSeenAfter}
use Rattle.signal_travel.specs.VectorBoxes.{HoldsVector}
use Rattle.signal_travel.proofs.Sights.{some_turn, point_place}
use Rattle.signal_travel.proofs.SeenAfterCertificates.{rate_times, rate_enough, range_least, times_square, sum_least, times_apart, less_least, less_back, both_least, not_late, not_early}

-- ---- the turns of two times
-- half of what the parts of the pairs of two times within d are apart at most
half_move : Rational → Rational
half_move d = earth_rate *ʳ d +ʳ two_to_minus 68

-- twice a sum with the slack of the law of pairs
twice_sum : (e : Rational) → times 2 e +ʳ two_to_minus 67 ≤ʳ times 2 (e +ʳ two_to_minus 68)
twice_sum e = ≤ʳ_from_same (times 2 e +ʳ two_to_minus 67) (times 2 (e +ʳ two_to_minus 68))
    (same_by (e.num ∷ pos e.den ∷ []) (λ n d. (
      (nat 2 ⊗ n ⊗ nat 147573952589676412928 ⊕ nat 1 ⊗ d) ⊗ (d ⊗ nat 295147905179352825856),
      nat 2 ⊗ (n ⊗ nat 295147905179352825856 ⊕ nat 1 ⊗ d) ⊗ (d ⊗ nat 147573952589676412928),
    )) refl)

near_turns : (d a b : Rational) (p q : Pair) → AreWithin d a b → IsAnglePair 5 (earth_rate *ʳ a) p.cos p.sin → IsAnglePair 5 (earth_rate *ʳ b) q.cos q.sin → AreTurns (half_move d) p q
unfolding half_move
near_turns d a b p q w hp hq =
    let e : Rational = earth_rate *ʳ d in
    let law = sharp_law 5 e (earth_rate *ʳ a) (earth_rate *ʳ b) p.cos p.sin q.cos q.sin (lit≤ tt) hp hq
    (rate_times earth_rate d a b rate_low w.0, rate_times earth_rate d b a rate_low w.1) in
    let cos = both_within (e +ʳ two_to_minus 68) p.cos q.cos (loosely_within e p.cos q.cos law.0) in
    let sin = both_within (e +ʳ two_to_minus 68) p.sin q.sin (loosely_within e p.sin q.sin law.1) in
    record { cos_up = cos.0; cos_down = cos.1; sin_up = sin.0; sin_down = sin.1 }
  where
    loosely_within : (e p q : Rational) → AreWithin (times 2 e +ʳ two_to_minus 67) p q → AreWithin (times 2 (e +ʳ two_to_minus 68)) p q
    loosely_within e p q h = (
      ≤ʳ_trans (p -ʳ q) (times 2 e +ʳ two_to_minus 67) (times 2 (e +ʳ two_to_minus 68)) h.0 (twice_sum e),
      ≤ʳ_trans (q -ʳ p) (times 2 e +ʳ two_to_minus 67) (times 2 (e +ʳ two_to_minus 68)) h.1 (twice_sum e),
    )

-- ---- the times of light after them
-- the squared distance, with the Earth turned and at the seen place
record IsGap (sent point : Position) (turn : Pair) (seen : Position) : Type 0 where
  bounds : IsBetween 141000000000000 2040000000000000 (square (difference (turned_back turn sent) point))
  same : square (difference seen point) ≈ square (difference (turned_back turn sent) point)

gap : (sent point seen : Position) (a t : Rational) → AreApart sent point → (x : IsSeenAfter sent point a t seen) → IsGap sent point x.turn seen
gap sent point seen a t h x =
    let place : Position = turned_back x.turn sent in
    record {
      bounds = vector_square place point (loosely (square place) (turned_square sent (earth_rate *ʳ a) x.turn h.is_sent x.turn_is)) h.is_receiver;
      same = square_same (difference seen point) (difference place point) (difference_same seen place point x.seen_is);
    }

rate_most : of_whole (pos 1000000000000000) *ʳ earth_rate ≤ʳ of_whole (pos 72921151467)
rate_most = le_pos (1000000000000000 * 72921151467) (72921151467 * 1000000000000000) (lit≤ tt)

-- 1000 |t - s| ≤ d + 2^-50 for times of light t and s after turns in times within d of each other
pub closer : (sent point seen other : Position) (d a b t s : Rational) → AreApart sent point → of_whole (pos 0) ≤ʳ d → AreWithin d a b →
    IsSeenAfter sent point a t seen → IsSeenAfter sent point b s other → of_whole (pos 1000) *ʳ (t -ʳ s) ≤ʳ d +ʳ two_to_minus 50
unfolding half_move
closer sent point seen other d a b t s h o w x y =
    let u : Rational = half_move d in
    let v : Rational = two_to_minus 50 in
    let left_gap = gap sent point seen a t h x in
    let right_gap = gap sent point other b s h y in
    let left_turned_square : Rational = square (difference (turned_back x.turn sent) point) in
    let right_turned_square : Rational = square (difference (turned_back y.turn sent) point) in
    let left_square : Rational = square (difference seen point) in
    let right_square : Rational = square (difference other point) in
    let most : Rational = of_whole (pos 2040000000000000) in
    let above : left_square ≤ʳ left_turned_square = ≤ʳ_from_same left_square left_turned_square left_gap.same in
    let below : right_turned_square ≤ʳ right_square = ≤ʳ_from_same right_turned_square right_square (≈_sym right_square right_turned_square right_gap.same) in
    let range = range_root s right_square y.travel_is in
    let low = near_low (range_of s) right_square range in
    let far = root_r (of_whole (pos 11800000)) (range_of s) (root_nn (range_of s) right_square range)
    (range_least (range_of s) right_square low (≤ʳ_trans (of_whole (pos 141000000000000)) right_turned_square right_square right_gap.bounds.low below)) in
    let sum_nonnegative = both_least d v o (le_pos 0 1 (lit≤ tt)) in
    times_apart t s d v
    (root_r (of_whole (pos 1000) *ʳ range_of t) (of_whole (pos 1000) *ʳ range_of s +ʳ of_whole (pos 299792458) *ʳ (d +ʳ v))
    (sum_least s d v far sum_nonnegative)
    (times_square t s d v u left_turned_square right_turned_square left_square right_square (near_high (range_of t) left_square (range_root t left_square x.travel_is)) low
    (moves_slowly sent point u (earth_rate *ʳ b) (earth_rate *ʳ a) y.turn x.turn h y.turn_is x.turn_is (near_turns d b a y.turn x.turn (w.1, w.0) y.turn_is x.turn_is))
    (enough d o) above below (≤ʳ_trans left_square left_turned_square most above left_gap.bounds.high)
    (≤ʳ_trans right_square right_turned_square most (≤ʳ_from_same right_square right_turned_square right_gap.same) right_gap.bounds.high) far sum_nonnegative))
  where
    enough : (d : Rational) → of_whole (pos 0) ≤ʳ d → of_whole (pos 1152921504606846976) *ʳ (of_whole (pos 96672000000000000) *ʳ half_move d) +ʳ of_whole (pos 4080000000000000)
        ≤ʳ of_whole (pos 8157037253232621494131805388800) *ʳ (d +ʳ two_to_minus 50)
    enough d o = rate_enough d earth_rate (two_to_minus 68) (two_to_minus 50) o rate_most (le_pos (2 ^ 68) (2 ^ 68) (lit≤ tt)) (le_pos (2 ^ 50) (2 ^ 50) (lit≤ tt))

-- ---- light comes from somewhere after each turn
record HasLight (sent point : Position) (turned : Rational) : Type 0 where
  seen : Position
  travel : Rational
  is_seen : IsSeenAfter sent point turned travel seen

light_after : (sent point : Position) (l : ℤ) → AreApart sent point → pos 0 ≤ℤ l → l ≤ℤ pos 192153584101141163 → HasLight sent point (of_scale 60 l)
light_after sent point l h l0 l1 =
    let some_turn_exists = some_turn l l0 l1 in
    let place : Position = turned_back some_turn_exists.turn sent in
    let square_length : Rational = square (difference place point) in
    let bounds = vector_square place point (loosely (square place) (turned_square sent (earth_rate *ʳ of_scale 60 l) some_turn_exists.turn h.is_sent some_turn_exists.is_pair)) h.is_receiver in
    let has_root = near_root_exists (over_light_speed_squared square_length) (positive square_length bounds.low) in
    record { seen = place; travel = has_root.root; is_seen = record { turn = some_turn_exists.turn; turn_is = some_turn_exists.is_pair; seen_is = (refl, refl, refl); travel_is = has_root.is_root } }
  where
    positive : (q : Rational) → of_whole (pos 141000000000000) ≤ʳ q → pos 0 <ℤ q.num
    positive q h = go q.num (pos q.den) (lt_pos 0 q.den q.positive) h
      where
        go : (n d : ℤ) → pos 0 <ℤ d → (pos 141000000000000 *ℤ d) ≤ℤ (n *ℤ pos 1) → pos 0 <ℤ n
        go n d p h = omega (arith, ints)

-- ---- a pass that leads near where it began
is_after : (sent point seen : Position) (t : Rational) → IsSeenPlace sent point t seen → IsSeenAfter sent point t t seen
is_after sent point seen t h = record { turn = h.turn; turn_is = h.turn_is; seen_is = h.seen_is; travel_is = h.travel_is }

reach_enough : of_whole (pos 1000) *ʳ of_scale 60 (pos 4080) +ʳ two_to_minus 50 ≤ʳ of_whole (pos 999) *ʳ of_scale 60 (pos 4096)
reach_enough = omega (arith, ints)

pub settled : (sent point seen : Position) (g lo hi l h : ℤ) (t : Rational) → AreApart sent point → pos 0 ≤ℤ g → g ≤ℤ pos 192153584101141163 →
    l ≡ g -ℤ pos 4096 → h ≡ g +ℤ pos 4096 →
    ((other : Position) (s : Rational) → IsSeenAfter sent point (of_scale 60 g) s other → InBox 60 lo hi s) →
    (hi -ℤ g) ≤ℤ pos 4080 → (g -ℤ lo) ≤ℤ pos 4080 → IsSeenPlace sent point t seen → InBox 60 l h t
settled sent point seen g lo hi l h t k g0 g1 el eh holds above below is =
    let light = light_after sent point g k g0 g1 in
    let travel : Rational = light.travel in
    let guess : Rational = of_scale 60 g in
    let a : Rational = of_scale 60 (pos 4080) in
    let r : Rational = of_scale 60 (pos 4096) in
    let v : Rational = two_to_minus 50 in
    let travel_in_box = holds light.seen travel light.is_seen in
    let is_seen_after = is_after sent point seen t is in
    go (≤ʳ_total guess t)
    (λ o. not_late t travel guess a r v
    (closer sent point seen light.seen (t -ʳ guess) t guess t travel k (less_least t guess o) (≤ʳ_from_same (t -ʳ guess) (t -ʳ guess) refl, less_back t guess o) is_seen_after light.is_seen)
    (≤ʳ_trans travel (of_scale 60 hi) (guess +ʳ a) travel_in_box.1 (up hi g above)) reach_enough)
    (λ o. not_early t travel guess a r v
    (closer sent point light.seen seen (guess -ʳ t) guess t travel t k (less_least guess t o) (≤ʳ_from_same (guess -ʳ t) (guess -ʳ t) refl, less_back guess t o) light.is_seen is_seen_after)
    (≤ʳ_trans (guess -ʳ a) (of_scale 60 lo) travel (down lo g below) travel_in_box.0) reach_enough)
  where
    up : (hi g : ℤ) → (hi -ℤ g) ≤ℤ pos 4080 → of_scale 60 hi ≤ʳ of_scale 60 g +ʳ of_scale 60 (pos 4080)
    up hi g h = omega (arith, ints)

    down : (lo g : ℤ) → (g -ℤ lo) ≤ℤ pos 4080 → of_scale 60 g -ʳ of_scale 60 (pos 4080) ≤ʳ of_scale 60 lo
    down lo g h = omega (arith, ints)

    high : (g h : ℤ) → h ≡ g +ℤ pos 4096 → of_scale 60 g +ʳ of_scale 60 (pos 4096) ≤ʳ of_scale 60 h
    high g h e = omega (arith, ints)

    low : (g l : ℤ) → l ≡ g -ℤ pos 4096 → of_scale 60 l ≤ʳ of_scale 60 g -ʳ of_scale 60 (pos 4096)
    low g l e = omega (arith, ints)

    least : (g l : ℤ) → l ≡ g -ℤ pos 4096 → of_scale 60 l ≤ʳ of_scale 60 g
    least g l e = omega (arith, ints)

    most : (g h : ℤ) → h ≡ g +ℤ pos 4096 → of_scale 60 g ≤ʳ of_scale 60 h
    most g h e = omega (arith, ints)

    go : (of_scale 60 g ≤ʳ t) ⊎ (t ≤ʳ of_scale 60 g) → (of_scale 60 g ≤ʳ t → t ≤ʳ of_scale 60 g +ʳ of_scale 60 (pos 4096))
        → (t ≤ʳ of_scale 60 g → of_scale 60 g -ʳ of_scale 60 (pos 4096) ≤ʳ t) → InBox 60 l h t
    go (inl o) late early = (≤ʳ_trans (of_scale 60 l) (of_scale 60 g) t (least g l el) o, ≤ʳ_trans t (of_scale 60 g +ʳ of_scale 60 (pos 4096)) (of_scale 60 h) (late o) (high g h eh))
    go (inr o) late early = (≤ʳ_trans (of_scale 60 l) (of_scale 60 g -ʳ of_scale 60 (pos 4096)) t (low g l el) (early o), ≤ʳ_trans t (of_scale 60 g) (of_scale 60 h) o (most g h eh))

-- ---- in the code's terms: a pass from the times around x leads near x, so that the times around it are all
pub all_around : (sent : SentBox) (point : Point) (box travel : Iv 60) (x : ℤ) → pos 4096 ≤ℤ x → (x +ℤ pos 4096) ≤ℤ pos 192153584101141163 →
    box.lo ≡ x -ℤ pos 4096 → box.hi ≡ x +ℤ pos 4096 →
    ((p seen : Position) (u t : Rational) → HoldsVector sent.place p → Holds box u → IsSeenAfter p (point_of point.x point.y point.z) u t seen → Holds travel t) →
    (travel.hi -ℤ x) ≤ℤ pos 4080 → (x -ℤ travel.lo) ≤ℤ pos 4080 →
    (p seen : Position) (t : Rational) → HoldsVector sent.place p → IsSeenPlace p (point_of point.x point.y point.z) t seen → Holds box t
all_around sent point box travel x low high el eh light above below p seen t h s =
    let place : Position = point_of point.x point.y point.z in
    settled p place seen x travel.lo travel.hi box.lo box.hi t (record { is_sent = sent.away p.x p.y p.z h.0 h.1 h.2; is_receiver = point_place point })
    (least x low) (most x high) el eh
    (λ other u r. light p other (of_scale 60 x) u h (end_in 60 box.lo box.hi x (first box.lo x el) (last box.hi x eh)) r) above below s
  where
    least : (x : ℤ) → pos 4096 ≤ℤ x → pos 0 ≤ℤ x
    least x h = omega (arith, ints)

    most : (x : ℤ) → (x +ℤ pos 4096) ≤ℤ pos 192153584101141163 → x ≤ℤ pos 192153584101141163
    most x h = omega (arith, ints)

    first : (l x : ℤ) → l ≡ x -ℤ pos 4096 → l ≤ℤ x
    first l x e = omega (arith, ints)

    last : (h x : ℤ) → h ≡ x +ℤ pos 4096 → x ≤ℤ h
    last h x e = omega (arith, ints)

pub around_width : (l h x : ℤ) → l ≡ x -ℤ pos 4096 → h ≡ x +ℤ pos 4096 → (h -ℤ l) ≤ℤ pos (2 ^ 19)
around_width l h x el eh = omega (arith, ints)
