-- The form of a track stays below the sum of the pairs' forms.
use Rattle.std.proofs.Common.{◌≡◌, ℕ, suc, ◌+◌, ◌-◌, ◌^◌, ◌<◌, ◌≤◌, Bool, List, [], ◌∷◌, length, map, All, nat_eq, cond, true, false, ℤ, pos, ◌+ℤ◌, ◌-ℤ◌, ◌*ℤ◌, ◌≤ℤ◌, arith, sym, ap, ◌∙◌, refl, pow_pos, pow-add}
use Rattle.std.proofs.lemmas.Bool.Decides.{nat_tests}
use Rattle.std.proofs.lemmas.List.Elements.{All-head, All-tail}
use Rattle.whole_math.specs.Rounding.{floor_div, nearest_div}
use Rattle.whole_math.specs.Vectors.{len, sum}
use Rattle.whole_math.proofs.Ring.{◌⊕◌, ◌⊖◌, ◌⊗◌}
use Rattle.whole_math.proofs.Order.{lins}
use Rattle.whole_math.proofs.Inequalities.{le_by, both_nn, prod_nn, less_nn, pos_nn, le_eq, same_by, nat}
use Rattle.whole_math.proofs.IntLaws.{zero_mul_ℤ}
use Rattle.quadratic_form.specs.Forms.{Column, quad}
use Rattle.quadratic_form.specs.Elimination.{rounded}
use Rattle.quadratic_form.specs.Places.{form_from}
use Rattle.quadratic_form.proofs.Forms.{quad_plus, quad_times}
use Rattle.quadratic_form.proofs.EliminationStep.{rounded_below}
use Rattle.quadratic_form.proofs.Places.{form_same, form_plus, form_times, form_rounded}
use Rattle.integer_form.proofs.FormShapes.{len_form}
use Rattle.track_form.specs.Fronts.{Front, front_form, part, own_entry, other_entry, track_entry, track_form, fronts_value}
use Rattle.track_form.specs.Parts.{part_at}

-- ---- one pair more
-- the entries that one pair adds
abbrev own_part : ℕ → ℕ → Front → ℕ → ℤ
own_part n h f i = floor_div (f.at i i) (part h f) -ℤ pos n

abbrev entry_part : ℕ → ℕ → Front → ℕ → ℕ → ℤ
entry_part n h f i j = part_at n (part h f) f.at i j

-- n for each pair
own_more : (n h : ℕ) (f : Front) (fs : List Front) (i : ℕ) → own_entry n h (f ∷ fs) i ≡ own_part n h f i +ℤ own_entry n h fs i
own_more n h f fs i = step (floor_div (f.at i i) (part h f)) (sum (map (λ (g : Front). floor_div (g.at i i) (part h g)) fs)) (pos (length fs)) (pos n) (pos (suc (length fs))) (more (length fs))
  where
    more : (k : ℕ) → pos (suc k) ≡ pos 1 +ℤ pos k
    more k = omega (arith, lins)

    step : (a s k n m : ℤ) → m ≡ pos 1 +ℤ k → (a +ℤ s) -ℤ (m *ℤ n) ≡ (a -ℤ n) +ℤ (s -ℤ (k *ℤ n))
    step a s k n m e = rw e (same_by (a ∷ s ∷ k ∷ n ∷ []) (λ a s k n. (a ⊕ s ⊖ (nat 1 ⊕ k) ⊗ n, a ⊖ n ⊕ (s ⊖ k ⊗ n))) refl)

pub entry_more : (n h : ℕ) (f : Front) (fs : List Front) (i j : ℕ) → track_entry n h (f ∷ fs) i j ≡ part_at n (part h f) f.at i j +ℤ track_entry n h fs i j
entry_more n h f fs i j = by_place (nat_eq i j)
  where
    by_place : (b : Bool) → cond b (own_entry n h (f ∷ fs) i) (other_entry h (f ∷ fs) i j) ≡ cond b (own_part n h f i) (nearest_div (f.at i j) (part h f))
        +ℤ cond b (own_entry n h fs i) (other_entry h fs i j)
    by_place true = own_more n h f fs i
    by_place false = refl

-- the form that one pair adds is its form, rounded
part_rounded : (n h : ℕ) (f : Front) → form_from (entry_part n h f) 0 n ≡ rounded (part h f) (pos n) (front_form n f)
part_rounded n h f = form_rounded (part h f) (pos n) f.at (entry_part n h f) 0 n (λ r a b. own r (nat_eq r r) refl) (λ r c a l b. other r c (nat_eq r c) refl l)
  where
    own : (r : ℕ) (b : Bool) → nat_eq r r ≡ b → cond b (own_part n h f r) (nearest_div (f.at r r) (part h f)) ≡ own_part n h f r
    own r true e = refl
    own r false e = absurd (grind (arith, nat_tests, e))

    other : (r c : ℕ) (b : Bool) → nat_eq r c ≡ b → r < c → cond b (own_part n h f r) (nearest_div (f.at r c) (part h f)) ≡ nearest_div (f.at r c) (part h f)
    other r c true e l = absurd (grind (arith, nat_tests, e, l))
    other r c false e l = refl

-- what a pair adds stays below its form
one_below : (n h : ℕ) (f : Front) (v : List ℤ) → f.h ≤ h → len v ≡ pos n → (pos (2 ^ h) *ℤ quad (form_from (entry_part n h f) 0 n) v) ≤ℤ (pos (2 ^ f.h) *ℤ quad (front_form n f) v)
one_below n h f v le e = rw (split, part_rounded n h f)
    (step (pos (2 ^ f.h)) (pos (part h f)) (quad (rounded (part h f) (pos n) (front_form n f)) v) (quad (front_form n f) v) (pos_nn (2 ^ f.h))
    (rounded_below (part h f) (pos n) (front_form n f) v (pow_pos (h - f.h)) (len_form f.at 0 n ∙ sym e) (le_eq e)))
  where
    split : pos (2 ^ h) ≡ pos (2 ^ f.h) *ℤ pos (part h f)
    split = ap pos (ap (λ k. 2 ^ k) (back h f.h le) ∙ pow-add 2 f.h (h - f.h))
      where
        back : (a b : ℕ) → b ≤ a → a ≡ b + (a - b)
        back a b h = omega arith

    step : (a m p q : ℤ) → pos 0 ≤ℤ a → (m *ℤ p) ≤ℤ q → (a *ℤ m *ℤ p) ≤ℤ (a *ℤ q)
    step a m p q h k = le_by (a ∷ m ∷ p ∷ q ∷ []) (λ a m p q. (a ⊗ m ⊗ p, a ⊗ q, a ⊗ (q ⊖ m ⊗ p))) refl (prod_nn h (less_nn k))

-- no pair, nothing
none_value : (n h : ℕ) (v : List ℤ) → quad (track_form n h []) v ≡ pos 0
none_value n h v = ap (λ (a : List Column). quad a v) (form_same (track_entry n h []) (λ i j. pos 0 *ℤ pos 0) 0 n (λ r c a b d. none (nat_eq r c)) ∙ form_times (pos 0) (λ i j. pos 0) 0 n)
    ∙ quad_times (pos 0) (form_from (λ i j. pos 0) 0 n) v ∙ zero_mul_ℤ (quad (form_from (λ i j. pos 0) 0 n) v)
  where
    none : (b : Bool) → cond b (pos 0 -ℤ (pos 0 *ℤ pos n)) (pos 0) ≡ pos 0 *ℤ pos 0
    none true = same_by (pos n ∷ []) (λ n. (nat 0 ⊖ nat 0 ⊗ n, nat 0 ⊗ nat 0)) refl
    none false = refl

-- ---- all pairs
pub sum_below : (n h : ℕ) (fs : List Front) (v : List ℤ) → All (λ f. f.h ≤ h) fs → len v ≡ pos n → (pos (2 ^ h) *ℤ quad (track_form n h fs) v) ≤ℤ fronts_value n fs v
sum_below n h [] v all e = rw (none_value n h v) (step (pos (2 ^ h)))
  where
    step : (m : ℤ) → (m *ℤ pos 0) ≤ℤ pos 0
    step m = le_eq (same_by (m ∷ []) (λ m. (m ⊗ nat 0, nat 0)) refl)
sum_below n h (f ∷ fs) v all e =
    rw (ap (λ (a : List Column). quad a v) (form_same (track_entry n h (f ∷ fs)) (λ i j. entry_part n h f i j +ℤ track_entry n h fs i j) 0 n (λ r c a b d. entry_more n h f fs r c)
    ∙ form_plus (entry_part n h f) (track_entry n h fs) 0 n)
    ∙ quad_plus (form_from (entry_part n h f) 0 n) (track_form n h fs) v)
    (step (pos (2 ^ h)) (quad (form_from (entry_part n h f) 0 n) v) (quad (track_form n h fs) v) (pos (2 ^ f.h) *ℤ quad (front_form n f) v) (fronts_value n fs v)
    (one_below n h f v (All-head (λ (g : Front). g.h ≤ h) f fs all) e) (sum_below n h fs v (All-tail (λ (g : Front). g.h ≤ h) f fs all) e))
  where
    step : (m p q s t : ℤ) → (m *ℤ p) ≤ℤ s → (m *ℤ q) ≤ℤ t → (m *ℤ (p +ℤ q)) ≤ℤ (s +ℤ t)
    step m p q s t h k = le_by (m ∷ p ∷ q ∷ s ∷ t ∷ []) (λ m p q s t. (m ⊗ (p ⊕ q), s ⊕ t, s ⊖ m ⊗ p ⊕ (t ⊖ m ⊗ q))) refl (both_nn (less_nn h) (less_nn k))
