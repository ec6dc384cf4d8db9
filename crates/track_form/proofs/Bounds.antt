-- What the form and the upper sum of a track say of rationals that the pairs bound.
use Rattle.std.proofs.Common.{◌≡◌, ℕ, ◌^◌, ◌≤◌, List, [], ◌∷◌, ◌++◌, All, ℤ, pos, ◌+ℤ◌, ◌*ℤ◌, ◌≤ℤ◌, refl, pow_pos}
use Rattle.std.specs.List.{AllZip}
use Rattle.whole_math.specs.Rounding.{ceil_div}
use Rattle.whole_math.specs.Vectors.{sum, len}
use Rattle.whole_math.proofs.Ring.{◌⊕◌, ◌⊖◌, ◌⊗◌}
use Rattle.whole_math.proofs.Inequalities.{le_by, both_nn, prod_nn, less_nn, pos_nn, nat}
use Rattle.whole_math.proofs.Rounding.{ceil_close}
use Rattle.whole_math.specs.Rational.{Rational, of_whole, ◌*ʳ◌, ◌≤ʳ◌}
use Rattle.whole_math.proofs.RationalLaws.{≤ʳ_trans, of_whole-le}
use Rattle.whole_math.specs.Spread.{sum_of_rationals}
use Rattle.quadratic_form.specs.Rows.{value}
use Rattle.track_form.specs.Fronts.{Front, front_form, track_form, fronts_value, BoundsPair, IsAtMost}
use Rattle.track_form.proofs.SumOfForms.{sum_below}

-- 64 times the sum is at least the sum of the pairs' values
pairs_below : (n : ℕ) (z : List ℤ) (fs : List Front) (gs : List Rational) → AllZip (BoundsPair n z) fs gs →
    of_whole (fronts_value n fs (z ++ (pos 1 ∷ []))) ≤ʳ of_whole (pos 64) *ʳ sum_of_rationals gs
pairs_below n z [] [] h = of_whole-le (pos 0) (pos 64 *ℤ pos 0) (le_by [] (nat 0, nat 64 ⊗ nat 0, nat 0) refl (pos_nn 0))
pairs_below n z [] (g ∷ gs) h = absurd h
pairs_below n z (f ∷ fs) [] h = absurd h
pairs_below n z (f ∷ fs) (g ∷ gs) h =
    step (pos (2 ^ f.h) *ℤ value (front_form n f) z) (fronts_value n fs (z ++ (pos 1 ∷ []))) g.num (sum_of_rationals gs).num g.den (sum_of_rationals gs).den h.0 (pairs_below n z fs gs h.1)
  where
    step : (k l a c : ℤ) (b d : ℕ) → (k *ℤ (pos 1 *ℤ pos b)) ≤ℤ ((pos 64 *ℤ a) *ℤ pos 1) → (l *ℤ (pos 1 *ℤ pos d)) ≤ℤ ((pos 64 *ℤ c) *ℤ pos 1)
        → ((k +ℤ l) *ℤ (pos 1 *ℤ (pos b *ℤ pos d))) ≤ℤ ((pos 64 *ℤ ((a *ℤ pos d) +ℤ (c *ℤ pos b))) *ℤ pos 1)
    step k l a c b d h i = le_by (k ∷ l ∷ pos b ∷ pos d ∷ a ∷ c ∷ []) (λ k l b d a c.
        ((k ⊕ l) ⊗ (nat 1 ⊗ (b ⊗ d)), nat 64 ⊗ (a ⊗ d ⊕ c ⊗ b) ⊗ nat 1, d ⊗ (nat 64 ⊗ a ⊗ nat 1 ⊖ k ⊗ (nat 1 ⊗ b)) ⊕ b ⊗ (nat 64 ⊗ c ⊗ nat 1 ⊖ l ⊗ (nat 1 ⊗ d)))) refl
        (both_nn (prod_nn (pos_nn d) (less_nn h)) (prod_nn (pos_nn b) (less_nn i)))

-- 64 times the sum is at least 2^h times the value of the track's form
pub bound_of_track : (n h : ℕ) (z : List ℤ) (fs : List Front) (gs : List Rational) → All (λ f. f.h ≤ h) fs → len (z ++ (pos 1 ∷ [])) ≡ pos n → AllZip (BoundsPair n z) fs gs
    → of_whole (pos (2 ^ h) *ℤ value (track_form n h fs) z) ≤ʳ of_whole (pos 64) *ʳ sum_of_rationals gs
bound_of_track n h z fs gs all e bounds =
    ≤ʳ_trans (of_whole (pos (2 ^ h) *ℤ value (track_form n h fs) z)) (of_whole (fronts_value n fs (z ++ (pos 1 ∷ [])))) (of_whole (pos 64) *ʳ sum_of_rationals gs)
    (of_whole-le (pos (2 ^ h) *ℤ value (track_form n h fs) z) (fronts_value n fs (z ++ (pos 1 ∷ []))) (sum_below n h fs (z ++ (pos 1 ∷ [])) all e)) (pairs_below n z fs gs bounds)

-- ---- the upper sum
pub sum_at_most : (gs : List Rational) (us : List ℤ) → AllZip IsAtMost gs us → sum_of_rationals gs ≤ʳ of_whole (sum us)
sum_at_most [] [] h = of_whole-le (pos 0) (pos 0) (le_by [] (nat 0, nat 0, nat 0) refl (pos_nn 0))
sum_at_most [] (u ∷ us) h = absurd h
sum_at_most (g ∷ gs) [] h = absurd h
sum_at_most (g ∷ gs) (u ∷ us) h = step g.num (sum_of_rationals gs).num u (sum us) g.den (sum_of_rationals gs).den h.0 (sum_at_most gs us h.1)
  where
    step : (a c u v : ℤ) (b d : ℕ) → (a *ℤ pos 1) ≤ℤ (u *ℤ pos b) → (c *ℤ pos 1) ≤ℤ (v *ℤ pos d) → (((a *ℤ pos d) +ℤ (c *ℤ pos b)) *ℤ pos 1) ≤ℤ ((u +ℤ v) *ℤ (pos b *ℤ pos d))
    step a c u v b d h i = le_by (a ∷ c ∷ u ∷ v ∷ pos b ∷ pos d ∷ []) (λ a c u v b d. ((a ⊗ d ⊕ c ⊗ b) ⊗ nat 1, (u ⊕ v) ⊗ (b ⊗ d), d ⊗ (u ⊗ b ⊖ a ⊗ nat 1) ⊕ b ⊗ (v ⊗ d ⊖ c ⊗ nat 1))) refl
        (both_nn (prod_nn (pos_nn d) (less_nn h)) (prod_nn (pos_nn b) (less_nn i)))

-- in units of 2^h, rounded up
pub top_at_most : (h : ℕ) (gs : List Rational) (us : List ℤ) → AllZip IsAtMost gs us → sum_of_rationals gs ≤ʳ of_whole (pos (2 ^ h) *ℤ ceil_div (sum us) (2 ^ h))
top_at_most h gs us all = ≤ʳ_trans (sum_of_rationals gs) (of_whole (sum us)) (of_whole (pos (2 ^ h) *ℤ ceil_div (sum us) (2 ^ h))) (sum_at_most gs us all)
    (of_whole-le (sum us) (pos (2 ^ h) *ℤ ceil_div (sum us) (2 ^ h)) (ceil_close (sum us) (2 ^ h) (pow_pos h)))
