-- How the sum changes from one whole number to the next.
use Rattle.std.proofs.Common.{◌≡◌, ◌≢◌, ◌⊎◌, inl, inr, ℕ, ℤ, zero, suc, pos, negsuc, ◌*◌, ◌+ℤ◌, ◌-ℤ◌, ◌*ℤ◌, ◌<ℤ◌, ◌≤ℤ◌, List, [], ◌∷◌, length, refl, ap, ◌∙◌, arith}
use Rattle.std.proofs.lemmas.Int.{ints}
use Rattle.whole_math.proofs.Inequalities.{same_by, nat}
use Rattle.whole_math.proofs.Ring.{◌⊕◌, ◌⊖◌, ◌⊗◌}
use Rattle.whole_math.proofs.IntLaws.{add_mul_ℤ, zero_mul_ℤ}
use Rattle.whole_math.proofs.Order.{mul_sub_ℤ}
use Rattle.whole_math.specs.Rounding.{IsCeil}
use Rattle.file_jobs.specs.ZeroSums.{square, sum_at, slope_at, total, IsBest, IsRival, IsLowest}

one_square : (d w : ℤ) → square (d -ℤ pos 60 *ℤ (w +ℤ pos 1)) ≡ square (d -ℤ pos 60 *ℤ w) +ℤ (pos 3600 +ℤ (pos 7200 *ℤ w -ℤ pos 120 *ℤ d))
one_square d w = same_by (d ∷ w ∷ []) (λ d w.
    let left = d ⊖ nat 60 ⊗ (w ⊕ nat 1) in
    let right = d ⊖ nat 60 ⊗ w in
    (left ⊗ left, right ⊗ right ⊕ (nat 3600 ⊕ (nat 7200 ⊗ w ⊖ nat 120 ⊗ d)))) refl

pub sum_at-next : (ds : List ℤ) (w : ℤ) → sum_at ds (w +ℤ pos 1) ≡ sum_at ds w +ℤ slope_at ds w
sum_at-next [] w = refl
sum_at-next (d ∷ ds) w = omega (arith, ints, one_square d w, sum_at-next ds w)

pub slope_at-le : (ds : List ℤ) (v w : ℤ) → v ≤ℤ w → slope_at ds v ≤ℤ slope_at ds w
slope_at-le [] v w le = omega (arith, ints)
slope_at-le (d ∷ ds) v w le = omega (arith, ints, slope_at-le ds v w le)

-- the slope by the number of the differences and their total
pub slope_at-is : (ds : List ℤ) (w : ℤ) → slope_at ds w ≡ (pos (3600 * length ds) +ℤ pos (7200 * length ds) *ℤ w) -ℤ pos 120 *ℤ total ds
slope_at-is [] w = omega (arith, ints, zero_mul_ℤ w)
slope_at-is (d ∷ ds) w =
    let n = length ds in
    let longer : pos (7200 * suc n) ≡ pos (7200 * n) +ℤ pos 7200 = omega (arith, ints) in
    let more : pos (7200 * suc n) *ℤ w ≡ pos (7200 * n) *ℤ w +ℤ pos 7200 *ℤ w = ap (λ (z : ℤ). z *ℤ w) longer ∙ add_mul_ℤ (pos (7200 * n)) (pos 7200) w in
    omega (arith, ints, more, slope_at-is ds w)

-- from where it doesn't fall, the sum never falls again
climbs : (ds : List ℤ) (m : ℤ) (k : ℕ) → pos 0 ≤ℤ slope_at ds m → sum_at ds m ≤ℤ sum_at ds (m +ℤ pos k)
climbs ds m zero up =
    let here : m +ℤ pos 0 ≡ m = omega (arith, ints) in
    let same_sum = ap (sum_at ds) here in
    omega (arith, ints, same_sum)
climbs ds m (suc k) up =
    let step : m +ℤ pos (suc k) ≡ (m +ℤ pos k) +ℤ pos 1 = omega (arith, ints) in
    let same_sum = ap (sum_at ds) step in
    let later : m ≤ℤ (m +ℤ pos k) = omega (arith, ints) in
    omega (arith, ints, same_sum, sum_at-next ds (m +ℤ pos k), slope_at-le ds m (m +ℤ pos k) later, climbs ds m k up)

climbs_above : (ds : List ℤ) (m : ℤ) (k : ℕ) → pos 0 <ℤ slope_at ds m → sum_at ds m <ℤ sum_at ds (m +ℤ pos (suc k))
climbs_above ds m k up =
    let step : m +ℤ pos (suc k) ≡ (m +ℤ pos 1) +ℤ pos k = omega (arith, ints) in
    let same_sum = ap (sum_at ds) step in
    let later : m ≤ℤ (m +ℤ pos 1) = omega (arith, ints) in
    let rises = slope_at-le ds m (m +ℤ pos 1) later in
    let still : pos 0 ≤ℤ slope_at ds (m +ℤ pos 1) = omega (arith, ints, rises) in
    omega (arith, ints, same_sum, sum_at-next ds m, climbs ds (m +ℤ pos 1) k still)

-- below a number to which the sum still falls, every sum is greater
falls : (ds : List ℤ) (m : ℤ) (k : ℕ) → slope_at ds (m -ℤ pos 1) <ℤ pos 0 → sum_at ds m <ℤ sum_at ds (m -ℤ pos (suc k))
falls ds m zero down =
    let back : (m -ℤ pos 1) +ℤ pos 1 ≡ m = omega (arith, ints) in
    let same_sum = ap (sum_at ds) back in
    omega (arith, ints, same_sum, sum_at-next ds (m -ℤ pos 1))
falls ds m (suc k) down =
    let w = m -ℤ pos (suc (suc k)) in
    let back : w +ℤ pos 1 ≡ m -ℤ pos (suc k) = omega (arith, ints) in
    let same_sum = ap (sum_at ds) back in
    let earlier : w ≤ℤ (m -ℤ pos 1) = omega (arith, ints) in
    omega (arith, ints, same_sum, sum_at-next ds w, slope_at-le ds w (m -ℤ pos 1) earlier, falls ds m k down)

-- another number stands above or below
abbrev Apart : ℤ → ℤ → Type 0
Apart m w = ((k : ℕ) × (w ≡ m +ℤ pos (suc k))) ⊎ ((k : ℕ) × (w ≡ m -ℤ pos (suc k)))

apart_by : (m w d : ℤ) → d ≡ w -ℤ m → w ≢ m → Apart m w
apart_by m w (pos zero) e ne = absurd (ne (omega (arith, ints)))
apart_by m w (pos (suc k)) e ne = inl (k, omega (arith, ints, e))
apart_by m w (negsuc k) e ne = inr (k, omega (arith, ints, e))

apart : (m w : ℤ) → w ≢ m → Apart m w
apart m w ne = apart_by m w (w -ℤ m) refl ne

pub least_all : (ds : List ℤ) (m w : ℤ) → IsLowest ds m → w ≢ m → sum_at ds m ≤ℤ sum_at ds w
least_all ds m w low ne = elim (apart m w ne) [
  | inl above ↦ let same_above = ap (sum_at ds) above.1 in omega (arith, ints, same_above, climbs ds m (suc above.0) low.stays)
  | inr below ↦ let same_below = ap (sum_at ds) below.1 in omega (arith, ints, same_below, falls ds m below.0 low.fell)
]

-- a lesser number has a greater sum
pub less_greater : (ds : List ℤ) (m w : ℤ) → IsLowest ds m → w <ℤ m → sum_at ds m <ℤ sum_at ds w
less_greater ds m w low lt = elim (apart m w (λ e. absurd (omega (arith, ints)))) [
  | inl above ↦ absurd (omega (arith, ints, above.1))
  | inr below ↦ let same_below = ap (sum_at ds) below.1 in omega (arith, ints, same_below, falls ds m below.0 low.fell)
]

pub best_where : (ds : List ℤ) (m : ℤ) → IsLowest ds m → sum_at ds m <ℤ sum_at ds (m +ℤ pos 1) → IsBest ds m
best_where ds m low lt = λ w ne.
    let rises : pos 0 <ℤ slope_at ds m = omega (arith, ints, sum_at-next ds m) in
    elim (apart m w ne) [
      | inl above ↦ let same_above = ap (sum_at ds) above.1 in omega (arith, ints, same_above, climbs_above ds m above.0 rises)
      | inr below ↦ let same_below = ap (sum_at ds) below.1 in omega (arith, ints, same_below, falls ds m below.0 low.fell)
    ]

pub rival_next : (ds : List ℤ) (m : ℤ) → IsLowest ds m → sum_at ds (m +ℤ pos 1) ≤ℤ sum_at ds m → IsRival ds m (m +ℤ pos 1)
rival_next ds m low le = record {
  other = λ e. absurd (omega (arith, ints, e));
  least = λ w ne. omega (arith, ints, least_all ds m w low ne);
  lesser = λ w ne e. lesser_at w ne e;
}
  where
    lesser_at : (w : ℤ) → w ≢ m → sum_at ds w ≡ sum_at ds (m +ℤ pos 1) → (m +ℤ pos 1) ≤ℤ w
    lesser_at w ne e = elim (apart m w ne) [
      | inl above ↦ omega (arith, ints, above.1)
      | inr below ↦ let same_below = ap (sum_at ds) below.1 in absurd (omega (arith, ints, same_below, e, falls ds m below.0 low.fell))
    ]

pub reaches_by : (ds : List ℤ) (m w d : ℤ) → IsLowest ds m → d ≡ w -ℤ m → sum_at ds m ≤ℤ sum_at ds w
reaches_by ds m w (pos zero) low e =
    let here : w ≡ m = omega (arith, ints, e) in
    let same_sum = ap (sum_at ds) here in
    omega (arith, ints, same_sum)
reaches_by ds m w (pos (suc k)) low e = least_all ds m w low (λ is. absurd (omega (arith, ints, is, e)))
reaches_by ds m w (negsuc k) low e = least_all ds m w low (λ is. absurd (omega (arith, ints, is, e)))

lesser_by : (ds : List ℤ) (m w d : ℤ) → IsLowest ds m → sum_at ds w ≡ sum_at ds m → d ≡ w -ℤ m → m ≤ℤ w
lesser_by ds m w (pos k) low same e = omega (arith, ints, e)
lesser_by ds m w (negsuc k) low same e =
    let is_below : w <ℤ m = omega (arith, ints, e) in
    absurd (omega (arith, ints, same, less_greater ds m w low is_below))

pub rival_lowest : (ds : List ℤ) (z m : ℤ) → IsLowest ds m → m ≢ z → IsRival ds z m
rival_lowest ds z m low ne = record {
  other = ne;
  least = λ w wz. reaches_by ds m w (w -ℤ m) low refl;
  lesser = λ w wz e. lesser_by ds m w (w -ℤ m) low e refl;
}

-- the sum is lowest at the mean's quotient by 60, less a half and rounded up
pub lowest_at : (ds : List ℤ) (p : ℤ) → IsCeil (total ds -ℤ pos (30 * length ds)) (60 * length ds) p → IsLowest ds p
lowest_at ds p is =
    let n = length ds in
    let factor : pos (7200 * n) ≡ pos 120 *ℤ pos (60 * n) = omega (arith, ints) in
    let turned : (pos 120 *ℤ pos (60 * n)) *ℤ p ≡ pos 120 *ℤ (p *ℤ pos (60 * n)) = same_by (pos (60 * n) ∷ p ∷ []) (λ k q. (nat 120 ⊗ k ⊗ q, nat 120 ⊗ (q ⊗ k))) refl in
    let times : pos (7200 * n) *ℤ p ≡ pos 120 *ℤ (p *ℤ pos (60 * n)) = ap (λ (z : ℤ). z *ℤ p) factor ∙ turned in
    let times_before : pos (7200 * n) *ℤ (p -ℤ pos 1) ≡ pos (7200 * n) *ℤ p -ℤ pos (7200 * n) *ℤ pos 1 = mul_sub_ℤ (pos (7200 * n)) p (pos 1) in
    let slope_here = slope_at-is ds p in
    let slope_before = slope_at-is ds (p -ℤ pos 1) in
    record {
      stays = omega (arith, ints, slope_here, times, is.0);
      fell = omega (arith, ints, slope_before, times, times_before, is.1);
    }

-- the same quotient of the same numbers
pub ceil_same : (z : ℤ) (m : ℕ) (q : ℤ) {y : ℤ} {n : ℕ} {p : ℤ} → IsCeil z m q → z ≡ y → m ≡ n → q ≡ p → IsCeil y n p
ceil_same z m q is same_z same_m same_q = rw (← same_z, ← same_m, ← same_q) is
