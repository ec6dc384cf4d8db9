-- The quantities of a solution from those that the boxes hold, and a mean anomaly at an approximate clock.
use Rattle.std.proofs.Common.{◌*◌, ◌^◌, List, [], ◌∷◌, ℤ, pos, ◌+ℤ◌, ◌-ℤ◌, ◌*ℤ◌, neg_ℤ, ◌≤ℤ◌, ◌<ℤ◌, arith, refl, lit≤, lit<}
use Rattle.std.proofs.lemmas.Int.{ints}
use Rattle.whole_math.proofs.Ring.{Ex, va, ko, ◌⊕◌, ◌⊖◌, ◌⊗◌, ng}
use Rattle.whole_math.proofs.Order.{le_pos}
use Rattle.whole_math.proofs.Inequalities.{same_by, nat}
use Rattle.whole_math.proofs.Certificates.{cert, ◌≼◌, hy, nm, ◌⊞◌, ◌⊠◌}
use Rattle.whole_math.specs.Rational.{Rational, ◌≈◌, ◌≤ʳ◌, of_whole, two_to_minus, ◌+ʳ◌, ◌-ʳ◌, ◌*ʳ◌, times, IsAtMostInSize, AreWithin, InBox}
use Rattle.whole_math.specs.Boxes.{of_scale}
use Rattle.whole_math.proofs.RationalLaws.{≤ʳ_from_same, ≤ʳ_antisym, ≈_sym}
use Rattle.whole_math.proofs.RationalOrders.{order_r, equal_r, cancel_r, ◌≐◌}
use Rattle.whole_math.proofs.RationalSizes.{size_mul, size_along, size_looser}
use Rattle.whole_math.proofs.Ends.{size_of_box}
use Rattle.orbit_model.specs.Elements.{Elements}
use Rattle.sv_orbit.specs.ClockTerms.{per_ten_thousand, correction}
use Rattle.sv_orbit.proofs.Values.{times_is, per_ten_thousand_is}

cancel_equal : (c p q : Rational) → pos 0 <ℤ c.num → c *ʳ p ≈ c *ʳ q → p ≈ q
cancel_equal c p q h e = ≤ʳ_antisym p q (cancel_r c p q h (≤ʳ_from_same (c *ʳ p) (c *ʳ q) e)) (cancel_r c q p h (≤ʳ_from_same (c *ʳ q) (c *ʳ p) (≈_sym (c *ʳ p) (c *ʳ q) e)))

-- tk over 10^4
pub epoch_time_is : (sent toe k t tk : Rational) → t ≈ sent -ʳ k → tk ≈ t -ʳ toe → per_ten_thousand (sent -ʳ toe) -ʳ per_ten_thousand k ≈ per_ten_thousand tk
epoch_time_is sent toe k t tk e f = cancel_equal (of_whole (pos 10000)) (per_ten_thousand (sent -ʳ toe) -ʳ per_ten_thousand k) (per_ten_thousand tk) (omega (arith, ints))
    (equal_r (sent ∷ toe ∷ k ∷ t ∷ tk ∷ per_ten_thousand (sent -ʳ toe) ∷ per_ten_thousand k ∷ per_ten_thousand tk ∷ [])
    ((va 5 ⊗ ko (pos 10000) ≐ va 0 ⊖ va 1) ∷ (va 6 ⊗ ko (pos 10000) ≐ va 2) ∷ (va 7 ⊗ ko (pos 10000) ≐ va 4) ∷ (va 4 ≐ va 3 ⊖ va 1) ∷ (va 3 ≐ va 0 ⊖ va 2) ∷ [])
    (ko (pos 1) ∷ ng (ko (pos 1)) ∷ ng (ko (pos 1)) ∷ ng (ko (pos 1)) ∷ ng (ko (pos 1)) ∷ [])
    (ko (pos 10000) ⊗ (va 5 ⊖ va 6)) (ko (pos 10000) ⊗ va 7) refl (per_ten_thousand_is (sent -ʳ toe), (per_ten_thousand_is k, (per_ten_thousand_is tk, (f, (e, tt))))))

-- M0 + n tk
pub mean_is : (m m0 n tk : Rational) → m ≈ m0 +ʳ n *ʳ tk → m0 +ʳ times 10000 n *ʳ per_ten_thousand tk ≈ m
mean_is m m0 n tk e = equal_r (m ∷ m0 ∷ n ∷ tk ∷ times 10000 n ∷ per_ten_thousand tk ∷ []) ((va 0 ≐ va 1 ⊕ va 2 ⊗ va 3) ∷ (va 4 ≐ ko (pos 10000) ⊗ va 2) ∷ (va 5 ⊗ ko (pos 10000) ≐ va 3) ∷ [])
    (ng (ko (pos 1)) ∷ va 5 ∷ va 2 ∷ []) (va 1 ⊕ va 4 ⊗ va 5) (va 0) refl (e, (times_is 10000 n, (per_ten_thousand_is tk, tt)))

-- the clock is its own correction
pub clock_is : (d : Elements) (sent t k y : Rational) → t ≈ sent -ʳ k →
    k ≈ d.af0 +ʳ d.af1 *ʳ (t -ʳ d.toc) +ʳ d.af2 *ʳ ((t -ʳ d.toc) *ʳ (t -ʳ d.toc)) +ʳ y → correction d sent k y ≈ k
clock_is d sent t k y e f =
    let since : Ex = (va 4 ⊖ va 5) ⊖ va 6 in
    let own : Ex = va 3 ⊖ va 6 in
    equal_r (d.af0 ∷ d.af1 ∷ d.af2 ∷ t ∷ sent ∷ k ∷ d.toc ∷ y ∷ [])
    ((va 5 ≐ ((va 0 ⊕ va 1 ⊗ own) ⊕ va 2 ⊗ (own ⊗ own)) ⊕ va 7) ∷ (va 3 ≐ va 4 ⊖ va 5) ∷ [])
    (ng (ko (pos 1)) ∷ ng (va 1 ⊕ va 2 ⊗ (since ⊕ own)) ∷ [])
    (((va 0 ⊕ va 1 ⊗ since) ⊕ va 2 ⊗ (since ⊗ since)) ⊕ va 7) (va 5) refl (f, (e, tt))

-- ---- the mean anomaly at a clock d
abbrev pub mean_at : Rational → Rational → Rational → Rational → Rational → Rational
mean_at m0 n sent toe d = m0 +ʳ times 10000 n *ʳ (per_ten_thousand (sent -ʳ toe) -ʳ per_ten_thousand d)

mean_gap : (m m0 n sent toe k t tk d : Rational) → m ≈ m0 +ʳ n *ʳ tk → tk ≈ t -ʳ toe → t ≈ sent -ʳ k →
    times 10000 n *ʳ per_ten_thousand (d -ʳ k) ≈ m -ʳ mean_at m0 n sent toe d
mean_gap m m0 n sent toe k t tk d e f g =
    let step : Ex = (va 10 ⊖ va 11) ⊕ va 12 in
    equal_r (m0 ∷ n ∷ sent ∷ toe ∷ k ∷ d ∷ m ∷ tk ∷ t ∷ times 10000 n ∷ per_ten_thousand (sent -ʳ toe) ∷ per_ten_thousand d ∷ per_ten_thousand (d -ʳ k) ∷ [])
    ((va 6 ≐ va 0 ⊕ va 1 ⊗ va 7) ∷ (va 7 ≐ va 8 ⊖ va 3) ∷ (va 8 ≐ va 2 ⊖ va 4) ∷ (va 9 ≐ ko (pos 10000) ⊗ va 1)
    ∷ (va 10 ⊗ ko (pos 10000) ≐ va 2 ⊖ va 3) ∷ (va 11 ⊗ ko (pos 10000) ≐ va 5) ∷ (va 12 ⊗ ko (pos 10000) ≐ va 5 ⊖ va 4) ∷ [])
    (ng (ko (pos 1)) ∷ ng (va 1) ∷ ng (va 1) ∷ step ∷ va 1 ∷ ng (va 1) ∷ va 1 ∷ [])
    (va 9 ⊗ va 12) (va 6 ⊖ (va 0 ⊕ va 9 ⊗ (va 10 ⊖ va 11))) refl
    (e, (f, (g, (times_is 10000 n, (per_ten_thousand_is (sent -ʳ toe), (per_ten_thousand_is d, (per_ten_thousand_is (d -ʳ k), tt)))))))

half_gap : (p l w : ℤ) → ((p -ℤ l) +ℤ (p -ℤ l)) ≤ℤ w → of_scale 60 p -ʳ of_scale 60 l ≤ʳ of_scale 61 w
half_gap p l w h = cert (p ∷ l ∷ w ∷ []) (((va 0 ⊖ va 1) ⊕ (va 0 ⊖ va 1) ≼ va 2) ∷ [])
    ((va 0 ⊗ ko (pos (2 ^ 60)) ⊖ va 1 ⊗ ko (pos (2 ^ 60))) ⊗ ko (pos (2 ^ 61))) (va 2 ⊗ ko (pos (2 ^ 60 * 2 ^ 60))) (nm (2 ^ 120) ⊠ hy 0) refl (h, tt)

middle_near : (lo hi p w : ℤ) (k : Rational) → InBox 60 lo hi k → ((hi -ℤ p) +ℤ (hi -ℤ p)) ≤ℤ w → ((p -ℤ lo) +ℤ (p -ℤ lo)) ≤ℤ w → IsAtMostInSize (of_scale 61 w) (of_scale 60 p -ʳ k)
middle_near lo hi p w k i a b =
    let values : List Rational = of_scale 60 lo ∷ of_scale 60 hi ∷ of_scale 60 p ∷ k ∷ of_scale 61 w ∷ [] in (
      order_r values ((va 0 ≼ va 3) ∷ (va 2 ⊖ va 0 ≼ va 4) ∷ []) [] (va 2 ⊖ va 3) (va 4) (hy 0 ⊞ hy 1) [] refl (i.0, (half_gap p lo w b, tt)) tt,
      order_r values ((va 3 ≼ va 1) ∷ (va 1 ⊖ va 2 ≼ va 4) ∷ []) [] (ng (va 2 ⊖ va 3)) (va 4) (hy 0 ⊞ hy 1) [] refl (i.1, (half_gap hi p w a, tt)) tt,
    )

-- within 2^-35 of the mean anomaly, where the clock is within 224698263229 / 2^61 of d
pub mean_near : (m m0 n sent toe k t tk : Rational) (lo hi p nl nh : ℤ) → m ≈ m0 +ʳ n *ʳ tk → tk ≈ t -ʳ toe → t ≈ sent -ʳ k →
    InBox 60 lo hi k → ((hi -ℤ p) +ℤ (hi -ℤ p)) ≤ℤ pos 224698263229 → ((p -ℤ lo) +ℤ (p -ℤ lo)) ≤ℤ pos 224698263229 →
    InBox 60 nl nh (times 10000 n) → neg_ℤ (pos 2527203938098207432) ≤ℤ nl → nh ≤ℤ pos 2527203938098207432 → AreWithin (two_to_minus 35) m (mean_at m0 n sent toe (of_scale 60 p))
mean_near m m0 n sent toe k t tk lo hi p nl nh e f g i a b j nlow nhigh =
    let d : Rational = of_scale 60 p in
    let far = middle_near lo hi p (pos 224698263229) k i a b in
    let share : IsAtMostInSize ((record { num = pos 1; den = 10000; positive = lit< tt }) *ʳ of_scale 61 (pos 224698263229)) (per_ten_thousand (d -ʳ k)) =
    size_along ((record { num = pos 1; den = 10000; positive = lit< tt }) *ʳ of_scale 61 (pos 224698263229))
    ((record { num = pos 1; den = 10000; positive = lit< tt }) *ʳ (d -ʳ k)) (per_ten_thousand (d -ʳ k)) (tenth_is (d -ʳ k))
    (size_mul (record { num = pos 1; den = 10000; positive = lit< tt }) (of_scale 61 (pos 224698263229)) (record { num = pos 1; den = 10000; positive = lit< tt }) (d -ʳ k) (own, negative) far) in
    let fast = size_of_box 60 2527203938098207432 nl nh (times 10000 n) nlow nhigh j in
    let gap = size_along
    (of_scale 60 (pos 2527203938098207432) *ʳ ((record { num = pos 1; den = 10000; positive = lit< tt }) *ʳ of_scale 61 (pos 224698263229)))
    (times 10000 n *ʳ per_ten_thousand (d -ʳ k)) (m -ʳ mean_at m0 n sent toe d) (mean_gap m m0 n sent toe k t tk d e f g)
    (size_mul (of_scale 60 (pos 2527203938098207432)) ((record { num = pos 1; den = 10000; positive = lit< tt }) *ʳ of_scale 61 (pos 224698263229))
    (times 10000 n) (per_ten_thousand (d -ʳ k)) fast share) in
    let small = size_looser
    (of_scale 60 (pos 2527203938098207432) *ʳ ((record { num = pos 1; den = 10000; positive = lit< tt }) *ʳ of_scale 61 (pos 224698263229)))
    (two_to_minus 35) (m -ʳ mean_at m0 n sent toe d) (le_pos _ _ (lit≤ tt)) gap in
    (small.0, order_r (m ∷ mean_at m0 n sent toe d ∷ two_to_minus 35 ∷ []) ((ng (va 0 ⊖ va 1) ≼ va 2) ∷ []) [] (va 1 ⊖ va 0) (va 2) (hy 0) [] refl (small.1, tt) tt)
  where
    own : (pos 1 *ℤ pos 10000) ≤ℤ (pos 1 *ℤ pos 10000)
    own = omega (arith, ints)

    negative : (neg_ℤ (pos 1) *ℤ pos 10000) ≤ℤ (pos 1 *ℤ pos 10000)
    negative = omega (arith, ints)

    tenth_is : (y : Rational) → (record { num = pos 1; den = 10000; positive = lit< tt }) *ʳ y ≈ per_ten_thousand y
    tenth_is y = same_by (y.num ∷ pos y.den ∷ []) (λ a d. (nat 1 ⊗ a ⊗ (nat 10000 ⊗ d), a ⊗ (nat 10000 ⊗ d))) refl
