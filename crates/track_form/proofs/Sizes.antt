-- Each entry of the form of a track is below 2^52 in size.
use Rattle.std.proofs.Common.{◌≡◌, ℕ, zero, suc, ◌+◌, ◌-◌, ◌*◌, ◌^◌, ◌<◌, ◌≤◌, Bool, List, [], ◌∷◌, length, map, All, get_or, Any, nat_eq, cond, true, false, ℤ, pos, ◌+ℤ◌, ◌-ℤ◌, ◌*ℤ◌, neg_ℤ, ◌≤ℤ◌, ◌<ℤ◌, unsigned_abs, arith, ◌∙◌, subst, pow_pos, suc-mul, add-mul}
use Rattle.std.proofs.Math.Nat.{mul-le-mul_left, mul-le-mul_right, mul_comm, le_of_mul-le-mul_right}
use Rattle.std.proofs.Math.Pow.{pow_mono}
use Rattle.std.proofs.lemmas.Int.{ints, unsigned_abs-mul}
use Rattle.std.proofs.lemmas.List.Elements.{All-head, All-tail}
use Rattle.whole_math.specs.Rounding.{floor_div, nearest_div}
use Rattle.whole_math.specs.Vectors.{sum}
use Rattle.whole_math.proofs.Order.{lins}
use Rattle.whole_math.proofs.Rounding.{nearest_close, floor_close, floor_near}
use Rattle.whole_math.proofs.Inequalities.{pos_nn}
use Rattle.whole_math.proofs.Words.{size_add}
use Rattle.track_form.specs.Fronts.{Front, part, own_entry, other_entry, track_entry, AreExponents, IsSmallFront}
use Rattle.obs_rows.specs.declared.limits.TheConstants.{MOST_PAIRS}

-- ---- one rounded entry
-- q m is within m of x
abbrev IsRounded : ℤ → ℕ → ℤ → Type 0
IsRounded x m q = (neg_ℤ (pos m) ≤ℤ (x -ℤ (pos m *ℤ q))) × ((x -ℤ (pos m *ℤ q)) ≤ℤ pos m)

nearest_rounded : (x : ℤ) (m : ℕ) → 0 < m → IsRounded x m (nearest_div x m)
nearest_rounded x m h = let nearest_bounds = nearest_close x m h in (low (pos m) (x -ℤ (pos m *ℤ nearest_div x m)) (pos_nn m) nearest_bounds.0, high (pos m) (x -ℤ (pos m *ℤ nearest_div x m)) (pos_nn m) nearest_bounds.1)
  where
    low : (m d : ℤ) → pos 0 ≤ℤ m → neg_ℤ m ≤ℤ (pos 2 *ℤ d) → neg_ℤ m ≤ℤ d
    low m d k h = omega (arith, ints)

    high : (m d : ℤ) → pos 0 ≤ℤ m → (pos 2 *ℤ d) <ℤ m → d ≤ℤ m
    high m d k h = omega (arith, ints)

floor_rounded : (x : ℤ) (m : ℕ) → 0 < m → IsRounded x m (floor_div x m)
floor_rounded x m h = go x (pos m *ℤ floor_div x m) (pos m) (pos_nn m) (floor_close x m h) (floor_near x m h)
  where
    go : (x f m : ℤ) → pos 0 ≤ℤ m → f ≤ℤ x → x <ℤ (f +ℤ m) → (neg_ℤ m ≤ℤ (x -ℤ f)) × ((x -ℤ f) ≤ℤ m)
    go x f m k h g = (omega (arith, lins), omega (arith, lins))

-- |q| k is at most |x| + k, where k is at most m
rounded_size : (x q : ℤ) (m k b : ℕ) → IsRounded x m q → k ≤ m → unsigned_abs x ≤ b → unsigned_abs q * k ≤ b + k
rounded_size x q m k b is few small = by_size (unsigned_abs q) (whole (unsigned_abs q)
    (subst (λ (n : ℕ). n ≤ unsigned_abs x + m) (unsigned_abs-mul (pos m) q ∙ mul_comm m (unsigned_abs q)) (near x (pos m *ℤ q) m is.0 is.1)))
  where
    near : (x f : ℤ) (m : ℕ) → neg_ℤ (pos m) ≤ℤ (x -ℤ f) → (x -ℤ f) ≤ℤ pos m → unsigned_abs f ≤ unsigned_abs x + m
    near x f m h g = omega (arith, ints)

    whole : (a : ℕ) → a * m ≤ unsigned_abs x + m → a * m ≤ b + m
    whole a h = omega (arith, h, small)

    by_size : (a : ℕ) → a * m ≤ b + m → a * k ≤ b + k
    by_size zero h = omega arith
    by_size (suc a) h =
        let less : a * m ≤ b = omega (arith, suc-mul a m, h) in
        let fewer : a * k ≤ a * m = mul-le-mul_left a few in
        omega (arith, suc-mul a k, less, fewer)

-- ---- all pairs
-- k times the sum is at most the number of the fronts times b + k
sum_size : (f : Front → ℤ) (k b : ℕ) (fs : List Front) → All (λ g. unsigned_abs (f g) * k ≤ b + k) fs → unsigned_abs (sum (map f fs)) * k ≤ length fs * (b + k)
sum_size f k b [] all = omega arith
sum_size f k b (g ∷ fs) all = step (unsigned_abs (f g)) (unsigned_abs (sum (map f fs))) (unsigned_abs (f g +ℤ sum (map f fs))) (length fs) (b + k)
    (size_add (f g) (sum (map f fs))) (All-head (λ (g : Front). unsigned_abs (f g) * k ≤ b + k) g fs all) (sum_size f k b fs (All-tail (λ (g : Front). unsigned_abs (f g) * k ≤ b + k) g fs all))
  where
    step : (a s t l c : ℕ) → t ≤ a + s → a * k ≤ c → s * k ≤ l * c → t * k ≤ suc l * c
    step a s t l c h i j =
        let products_ordered : t * k ≤ (a + s) * k = mul-le-mul_right k h in
        let product_splits : (a + s) * k ≡ a * k + s * k = add-mul a s k in
        let successor_times : suc l * c ≡ l * c + c = suc-mul l c in
        omega (arith, products_ordered, product_splits, successor_times, i, j)

-- what each pair is divided by is at least twice the number of pairs
part_large : (e h : ℕ) (f : Front) (k : ℕ) → k ≤ 2 ^ e → f.h + e ≤ h → k ≤ part h f
part_large e h f k enough over = let power_at_most : 2 ^ e ≤ 2 ^ (h - f.h) = pow_mono (omega (arith, over)) in omega (arith, power_at_most, enough)

each_part : (e h k : ℕ) (r : ℤ → ℕ → ℤ) (at : Front → ℤ) (fs : List Front) → ((x : ℤ) (m : ℕ) → 0 < m → IsRounded x m (r x m)) → k ≤ 2 ^ e → All (λ f. f.h + e ≤ h) fs →
    All (λ f. unsigned_abs (at f) < 2 ^ 52) fs
    → All (λ f. unsigned_abs (r (at f) (part h f)) * k ≤ 2 ^ 52 + k) fs
each_part e h k r at fs is enough over small i d inside =
    let front = get_or fs i d in
    rounded_size (at front) (r (at front) (part h front)) (part h front) k (2 ^ 52) (is (at front) (part h front) (pow_pos (h - front.h))) (part_large e h front k enough (over i d inside)) (below (at front) (small i d inside))
  where
    below : (x : ℤ) → unsigned_abs x < 2 ^ 52 → unsigned_abs x ≤ 2 ^ 52
    below x h = omega (arith, h)

-- Of the first pairs of a track of `all` pairs the sum of the rounded entries is at most 2^51 and one for each pair: so a loop
-- over the pairs may keep its sums as 64-bit numbers
pub sum_half : (e h all : ℕ) (r : ℤ → ℕ → ℤ) (at : Front → ℤ) (fs : List Front) → ((x : ℤ) (m : ℕ) → 0 < m → IsRounded x m (r x m)) → 1 ≤ all → length fs ≤ all → 2 * all ≤ 2 ^ e →
    All (λ f. f.h + e ≤ h) fs →
    All (λ f. unsigned_abs (at f) < 2 ^ 52) fs → unsigned_abs (sum (map (λ f. r (at f) (part h f)) fs)) ≤ 2 ^ 51 + all
sum_half e h all r at fs is some few enough over small =
    halves (unsigned_abs (sum (map (λ (f : Front). r (at f) (part h f)) fs))) (length fs) few
    (sum_size (λ f. r (at f) (part h f)) (2 * all) (2 ^ 52) fs (each_part e h (2 * all) r at fs is enough over small))
  where
    halves : (s l : ℕ) → l ≤ all → s * (2 * all) ≤ l * (2 ^ 52 + 2 * all) → s ≤ 2 ^ 51 + all
    halves s l h g =
        let products_ordered : l * (2 ^ 52 + 2 * all) ≤ all * (2 ^ 52 + 2 * all) = mul-le-mul_right (2 ^ 52 + 2 * all) h in
        let half_at_most : s * (2 * all) ≤ all * (2 ^ 52 + 2 * all) = omega (arith, g, products_ordered) in
        le_of_mul-le-mul_right {k = 2 * all} (subst (λ (n : ℕ). s * (2 * all) ≤ n) (turn all) half_at_most) (omega (arith, some))
      where
        turn : (l : ℕ) → l * (2 ^ 52 + 2 * l) ≡ (2 ^ 51 + l) * (2 * l)
        turn l = omega arith

-- ---- each entry
pub entry_small : (n e h : ℕ) (fs : List Front) → 1 ≤ length fs → length fs ≤ MOST_PAIRS → n ≤ 61 → AreExponents fs e h → All IsSmallFront fs → (i j : ℕ) → unsigned_abs (track_entry n h fs i j) < 2 ^ 52
entry_small n e h fs some few columns exponents small i j = by_place (nat_eq i j)
  where
    own : unsigned_abs (own_entry n h fs i) < 2 ^ 52
    own = less (sum (map (λ (f : Front). floor_div (f.at i i) (part h f)) fs)) (length fs)
        (sum_half e h (length fs) floor_div (λ f. f.at i i) fs floor_rounded some (omega arith) exponents.enough exponents.over (λ k d l. small k d l i i)) few
      where
        taken : (l : ℕ) → l ≤ MOST_PAIRS → l * n ≤ MOST_PAIRS * 61
        taken l h = let count_at_most : l * n ≤ l * 61 = mul-le-mul_left l columns in omega (arith, count_at_most, h)

        less : (s : ℤ) (l : ℕ) → unsigned_abs s ≤ 2 ^ 51 + l → l ≤ MOST_PAIRS → unsigned_abs (s -ℤ (pos l *ℤ pos n)) < 2 ^ 52
        less s l h g = go s (l * n) l h g (taken l g)
          where
            go : (s : ℤ) (t l : ℕ) → unsigned_abs s ≤ 2 ^ 51 + l → l ≤ MOST_PAIRS → t ≤ MOST_PAIRS * 61 → unsigned_abs (s -ℤ pos t) < 2 ^ 52
            go s t l h g k = omega (arith, ints)

    other : unsigned_abs (other_entry h fs i j) < 2 ^ 52
    other = omega (arith, few, sum_half e h (length fs) nearest_div (λ f. f.at i j) fs nearest_rounded some (omega arith) exponents.enough exponents.over (λ k d l. small k d l i j))

    by_place : (b : Bool) → unsigned_abs (cond b (own_entry n h fs i) (other_entry h fs i j)) < 2 ^ 52
    by_place true = own
    by_place false = other

-- ---- the exponent
-- of at most 3600 pairs, none over 77, it is at most 90
pub exponent_few : (e h : ℕ) (fs : List Front) → length fs ≤ MOST_PAIRS → All (λ f. f.h ≤ 77) fs → AreExponents fs e h → h ≤ 90
exponent_few e h fs few each exponents = by_pair exponents.attained
  where
    thirteen : 2 * length fs ≤ 2 ^ 13
    thirteen = omega (arith, few)

    by_pair : Any (λ f. f.h + e ≡ h) fs → h ≤ 90
    by_pair some =
        let exponent_at_most : e ≤ 13 = exponents.least 13 thirteen in
        let one : some.1.h ≤ 77 = subst (λ (f : Front). f.h ≤ 77) some.3 (each some.0 some.1 some.2) in
        omega (arith, exponent_at_most, some.4, one)

-- they are unique, so a text has one form
pub exponents_unique : (fs : List Front) (e h d g : ℕ) → AreExponents fs e h → AreExponents fs d g → (e ≡ d) × (h ≡ g)
exponents_unique fs e h d g a b =
    let one : e ≤ d = a.least d b.enough in
    let two : d ≤ e = b.least e a.enough in
    let low : h ≤ g = up e h d g a.attained b.over one in
    let high : g ≤ h = up d g e h b.attained a.over two in
    (omega (arith, one, two), omega (arith, low, high))
  where
    up : (e h d g : ℕ) → Any (λ f. f.h + e ≡ h) fs → All (λ f. f.h + d ≤ g) fs → e ≤ d → h ≤ g
    up e h d g some over le = omega (arith, some.4, subst (λ (f : Front). f.h + d ≤ g) some.3 (over some.0 some.1 some.2), le)
