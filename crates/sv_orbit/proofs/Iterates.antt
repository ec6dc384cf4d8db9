-- The iteration E' = A + g sin E from 0, with canonical pairs: where its angles lie, and how near each is to the next.
use Rattle.std.proofs.Common.{◌≡◌, ℕ, zero, suc, ◌+◌, ◌*◌, ◌^◌, ◌≤◌, [], ◌∷◌, ℤ, pos, ◌*ℤ◌, neg_ℤ, ◌≤ℤ◌, unsigned_abs, arith, refl, lit≤, ap, ◌∙◌}
use Rattle.std.proofs.lemmas.Int.{ints}
use Rattle.std.proofs.lemmas.Nat.{pow-add}
use Rattle.whole_math.proofs.Ring.{◌⊗◌}
use Rattle.whole_math.proofs.Order.{le_pos}
use Rattle.whole_math.proofs.IntLaws.{zero_mul_ℤ}
use Rattle.whole_math.proofs.Inequalities.{same_by, nat}
use Rattle.whole_math.proofs.Powers.{pow_suc}
use Rattle.whole_math.specs.Rational.{Rational, ◌≈◌, ◌≤ʳ◌, of_whole, ◌+ʳ◌, ◌-ʳ◌, ◌*ʳ◌, neg_r, times, two_to_minus, AreWithin}
use Rattle.whole_math.proofs.RationalLaws.{≤ʳ_trans, ≤ʳ_from_same}
use Rattle.trig_box.specs.AnglePairs.{Pair, doubled, sum_of_terms, part, InRange}
use Rattle.trig_box.specs.CanonicalPairs.{taylor_pair, IsCanonicalPair}
use Rattle.trig_box.proofs.PairLaws.{canonical_law}
use Rattle.sv_orbit.specs.FixedAngles.{IsSmallSlope}
use Rattle.sv_orbit.proofs.Certs.{moved, near_up, near_down, sized_up, sized_down, at_most_15, doubly, doubly_back, zero_up, zero_down, twice_two, first_up, first_down, halves, ends, fourfold}

-- ---- the canonical pair of an angle
abbrev pub pair_at : Rational → Pair
pair_at x = doubled 5 (taylor_pair (part 5 x))

abbrev pub sine_at : Rational → Rational
sine_at x = (pair_at x).sin

pub in_range : (x : Rational) → x ≤ʳ of_whole (pos 16) → neg_r x ≤ʳ of_whole (pos 16) → InRange 5 x
in_range x h k = go x.num x.den h k
  where
    go : (n : ℤ) (d : ℕ) → (n *ℤ pos 1) ≤ℤ (pos 16 *ℤ pos d) → (neg_ℤ n *ℤ pos 1) ≤ℤ (pos 16 *ℤ pos d) → 2 * unsigned_abs n ≤ 2 ^ 5 * d
    go n d h k = omega (arith, ints)

pub canonical_at : (x : Rational) → InRange 5 x → IsCanonicalPair 5 x (pair_at x).cos (pair_at x).sin
canonical_at x h = record { in_range = h; cos_is = refl; sin_is = refl }

pub no_sine : (k : ℕ) (p : Pair) → p.sin.num ≡ pos 0 → (doubled k p).sin.num ≡ pos 0
unfolding doubled
no_sine zero p e = e
no_sine (suc k) p e = ap (λ (z : ℤ). pos 2 *ℤ (z *ℤ (doubled k p).cos.num)) (no_sine k p e) ∙ none (doubled k p).cos.num
  where
    none : (c : ℤ) → pos 2 *ℤ (pos 0 *ℤ c) ≡ pos 0
    none c = same_by (c ∷ []) (λ c. (nat 2 ⊗ (nat 0 ⊗ c), nat 0)) refl

pub sine_of_zero : sine_at (of_whole (pos 0)) ≈ of_whole (pos 0)
sine_of_zero = go (sine_at (of_whole (pos 0))).num (pos (sine_at (of_whole (pos 0))).den) (no_sine 5 (taylor_pair (part 5 (of_whole (pos 0)))) (zero_mul_ℤ (sum_of_terms 1 (part 5 (of_whole (pos 0))) 9).num))
  where
    go : (n d : ℤ) → n ≡ pos 0 → n *ℤ pos 1 ≡ pos 0 *ℤ d
    go n d e = ap (λ (z : ℤ). z *ℤ pos 1) e ∙ same_by (d ∷ []) (λ d. (nat 0 ⊗ nat 1, nat 0 ⊗ d)) refl

-- ---- what is given: |A| ≤ a ≤ 12
pub record IsGiven (A g a : Rational) : Type 0 where
  pub small : IsSmallSlope g
  pub up : A ≤ʳ a
  pub down : neg_r A ≤ʳ a
  pub not_negative : of_whole (pos 0) ≤ʳ a
  pub most : a ≤ʳ of_whole (pos 12)

-- |E| ≤ 5a/4
pub record IsSized (a E : Rational) : Type 0 where
  pub up : of_whole (pos 4) *ʳ E ≤ʳ of_whole (pos 5) *ʳ a
  pub down : of_whole (pos 4) *ʳ neg_r E ≤ʳ of_whole (pos 5) *ʳ a

-- |E - A| ≤ a/4
pub record IsNear (A a E : Rational) : Type 0 where
  pub up : of_whole (pos 4) *ʳ (E -ʳ A) ≤ʳ a
  pub down : of_whole (pos 4) *ʳ (A -ʳ E) ≤ʳ a

pub near_sized : (A g a E : Rational) → IsGiven A g a → IsNear A a E → IsSized a E
near_sized A g a E i n = record { up = sized_up A E a n.up i.up; down = sized_down A E a n.down i.down }

pub most_15 : (A g a E : Rational) → IsGiven A g a → IsSized a E → (E ≤ʳ of_whole (pos 15)) × (neg_r E ≤ʳ of_whole (pos 15))
most_15 A g a E i s = (at_most_15 E a s.up i.most, at_most_15 (neg_r E) a s.down i.most)

pub sized_in_range : (A g a E : Rational) → IsGiven A g a → IsSized a E → InRange 5 E
sized_in_range A g a E i s =
    let at_most_fifteen = most_15 A g a E i s in
    let fifteen_at_most : of_whole (pos 15) ≤ʳ of_whole (pos 16) = le_pos 15 16 (lit≤ tt) in
    in_range E (≤ʳ_trans E (of_whole (pos 15)) (of_whole (pos 16)) at_most_fifteen.0 fifteen_at_most) (≤ʳ_trans (neg_r E) (of_whole (pos 15)) (of_whole (pos 16)) at_most_fifteen.1 fifteen_at_most)

twice_d : (d p : Rational) → p ≤ʳ times 2 d → p ≤ʳ of_whole (pos 2) *ʳ d
twice_d d p h = ≤ʳ_trans p (times 2 d) (of_whole (pos 2) *ʳ d) h
    (≤ʳ_from_same (times 2 d) (of_whole (pos 2) *ʳ d) (same_by (d.num ∷ pos d.den ∷ []) (λ n d. (nat 2 ⊗ n ⊗ (nat 1 ⊗ d), nat 2 ⊗ n ⊗ d)) refl))

-- ---- a step
abbrev pub next : Rational → Rational → Rational → Rational
next A g E = A +ʳ g *ʳ sine_at E

pub next_near : (A g a E : Rational) → IsGiven A g a → IsSized a E → IsNear A a (next A g E)
next_near A g a E i s =
    let zero_angle : Rational = of_whole (pos 0) in
    let d : Rational = of_whole (pos 2) *ʳ a in
    let zero_in_range = in_range zero_angle (le_pos 0 16 (lit≤ tt)) (le_pos 0 16 (lit≤ tt)) in
    let sine_is_within = canonical_law 5 d E zero_angle (pair_at E).cos (pair_at E).sin (pair_at zero_angle).cos (pair_at zero_angle).sin (lit≤ tt) (canonical_at E (sized_in_range A g a E i s)) (canonical_at zero_angle zero_in_range)
    (doubly E a s.up i.not_negative, doubly_back E a s.down i.not_negative) in
    let sine : Rational = sine_at E in
    let zero_sine : Rational = sine_at zero_angle in
    let sine_at_most = twice_two a (sine -ʳ zero_sine) (twice_d d (sine -ʳ zero_sine) sine_is_within.1.0) in
    let down = twice_two a (zero_sine -ʳ sine) (twice_d d (zero_sine -ʳ sine) sine_is_within.1.1) in
    record { up = near_up A g sine zero_sine a i.small.0 i.small.1 sine_at_most down sine_of_zero; down = near_down A g sine zero_sine a i.small.0 i.small.1 sine_at_most down sine_of_zero }

-- ---- the iteration
unfoldable pub iterate : Rational → Rational → ℕ → Rational
iterate A g zero = of_whole (pos 0)
iterate A g (suc n) = next A g (iterate A g n)

zero_sized : (a : Rational) → of_whole (pos 0) ≤ʳ a → IsSized a (of_whole (pos 0))
zero_sized a h = record { up = zero_up a h; down = zero_down a h }

pub all_sized : (A g a : Rational) (n : ℕ) → IsGiven A g a → IsSized a (iterate A g n)
unfolding iterate
all_sized A g a zero i = zero_sized a i.not_negative
all_sized A g a (suc n) i = near_sized A g a (next A g (iterate A g n)) i (next_near A g a (iterate A g n) i (all_sized A g a n i))

pub later_near : (A g a : Rational) (n : ℕ) → IsGiven A g a → IsNear A a (iterate A g (suc n))
unfolding iterate
later_near A g a n i = next_near A g a (iterate A g n) i (all_sized A g a n i)

-- 2^-n
half_power : (n : ℕ) → two_to_minus n ≤ʳ of_whole (pos 2) *ʳ two_to_minus (suc n)
half_power n = go (pos (2 ^ suc n)) (pos (2 ^ n)) (pow_suc 2 n)
  where
    go : (p q : ℤ) → p ≡ pos 2 *ℤ q → (pos 1 *ℤ (pos 1 *ℤ p)) ≤ℤ ((pos 2 *ℤ pos 1) *ℤ q)
    go p q e = omega (arith, ints)

pub power_nn : (n : ℕ) → of_whole (pos 0) ≤ʳ two_to_minus n
power_nn n = go (2 ^ n)
  where
    go : (d : ℕ) → (pos 0 *ℤ pos d) ≤ℤ (pos 1 *ℤ pos 1)
    go d = omega (arith, ints)

-- each angle is within a 2^-n of the next
pub steps : (A g a : Rational) (n : ℕ) → IsGiven A g a → AreWithin (a *ʳ two_to_minus n) (next A g (iterate A g n)) (iterate A g n)
unfolding iterate
steps A g a zero i =
    let zero_sine : Rational = sine_at (of_whole (pos 0)) in
    (first_up A g zero_sine a i.up sine_of_zero, first_down A g zero_sine a i.down sine_of_zero)
steps A g a (suc n) i =
    let E : Rational = iterate A g n in
    let F : Rational = next A g E in
    let step_is_within = steps A g a n i in
    let d : Rational = a *ʳ two_to_minus n in
    let e : Rational = a *ʳ two_to_minus (suc n) in
    let next_is_within = canonical_law 5 d F E (pair_at F).cos (pair_at F).sin (pair_at E).cos (pair_at E).sin (lit≤ tt)
    (canonical_at F (sized_in_range A g a F i (near_sized A g a F i (next_near A g a E i (all_sized A g a n i))))) (canonical_at E (sized_in_range A g a E i (all_sized A g a n i))) step_is_within in
    let next_sine : Rational = sine_at F in
    let sine : Rational = sine_at E in
    let difference_at_most = twice_d d (next_sine -ʳ sine) next_is_within.1.0 in
    let down = twice_d d (sine -ʳ next_sine) next_is_within.1.1 in
    let bound_halves = halves a (two_to_minus n) (two_to_minus (suc n)) i.not_negative (power_nn n) (half_power n) in
    (moved A g next_sine sine (of_whole (pos 2) *ʳ d) e i.small.0 i.small.1 difference_at_most down bound_halves, moved A g sine next_sine (of_whole (pos 2) *ʳ d) e i.small.0 i.small.1 down difference_at_most bound_halves)

-- at last within 2^-j / 4
sixty_four : (j : ℕ) → of_whole (pos 64) *ʳ two_to_minus (suc (5 + j)) ≤ʳ two_to_minus j
sixty_four j =
    let same_exponent : suc (5 + j) ≡ 6 + j = omega arith in
    go (2 ^ suc (5 + j)) (2 ^ j) (ap (λ (i : ℕ). 2 ^ i) same_exponent ∙ pow-add 2 6 j)
  where
    go : (p q : ℕ) → p ≡ 64 * q → ((pos 64 *ℤ pos 1) *ℤ pos q) ≤ℤ (pos 1 *ℤ pos (1 * p))
    go p q e = omega (arith, ints)

pub last_step : (A g a : Rational) (j : ℕ) → IsGiven A g a
    → (of_whole (pos 4) *ʳ (next A g (iterate A g (suc (5 + j))) -ʳ iterate A g (suc (5 + j))) ≤ʳ two_to_minus j)
    × (of_whole (pos 4) *ʳ (iterate A g (suc (5 + j)) -ʳ next A g (iterate A g (suc (5 + j)))) ≤ʳ two_to_minus j)
last_step A g a j i =
    let n : ℕ = suc (5 + j) in
    let E : Rational = iterate A g n in
    let F : Rational = next A g E in
    let last_power : Rational = two_to_minus n in
    let step_is_within = steps A g a n i in
    let bound_at_most = ends a last_power (two_to_minus j) i.not_negative i.most (power_nn n) (sixty_four j) in
    (fourfold (F -ʳ E) (a *ʳ last_power) (two_to_minus j) step_is_within.0 bound_at_most, fourfold (E -ʳ F) (a *ʳ last_power) (two_to_minus j) step_is_within.1 bound_at_most)
