-- The sum of squares stays below the upper sum, for all data in the boxes.
use Rattle.std.proofs.Common.{ℕ, ◌^◌, ◌/◌, ◌<◌, List, [], ◌∷◌, length, ℤ, pos, ◌+ℤ◌, ◌-ℤ◌, ◌*ℤ◌, neg_ℤ, ◌≤ℤ◌, ◌<ℤ◌, arith, refl, pow_pos}
use Rattle.std.proofs.lemmas.Int.{ints}
use Rattle.whole_math.proofs.Ring.{◌⊕◌, ◌⊖◌, ◌⊗◌, ng}
use Rattle.whole_math.proofs.Order.{square_nn}
use Rattle.whole_math.proofs.Rounding.{lt_floor, floor_close, ceil_close}
use Rattle.whole_math.specs.Rounding.{floor_div, ceil_div}
use Rattle.whole_math.proofs.Inequalities.{le_by, both_nn, prod_nn, less_nn, pos_nn, weak, halve, le_trans_ℤ, nat}
use Rattle.quadratic_form.proofs.Spread.{spread_pairs}
use Rattle.quadratic_form.proofs.NormalForm.{square_within}
use Rattle.whole_math.specs.Bounds.{Within}
use Rattle.quadratic_form.specs.Rows.{SignalRow, WholeData, WholeBaseline, SignalGroup, WholeInBoxes, WholeFits, WholeFitsAll, whole_residual, whole_residuals, share, whole_sum_of_squares, GroupsOf}
use Rattle.quadratic_form.specs.UpperSum.{size, centre, rad, gap, gaps_from, gaps, upper_sum, top}
use Rattle.whole_math.specs.Vectors.{dot}
use Rattle.quadratic_form.specs.Spread.{spread, distances_from, pair_distances}

size_within : (b : ℤ) → Within (size b) b
size_within b = (lower_sum b, high b)
  where
    lower_sum : (b : ℤ) → neg_ℤ (size b) ≤ℤ b
    lower_sum b = omega (arith, ints)

    high : (b : ℤ) → b ≤ℤ size b
    high b = omega (arith, ints)

within_times : (m t b : ℤ) → Within m t → Within (m *ℤ size b) (t *ℤ b)
within_times m t b h = go m t (size b) b h (size_within b)
  where
    go : (m t a b : ℤ) → Within m t → Within a b → Within (m *ℤ a) (t *ℤ b)
    go m t a b h k = (
      halve (le_by (m ∷ a ∷ t ∷ b ∷ []) (λ m a t b. (nat 2 ⊗ ng (m ⊗ a), nat 2 ⊗ (t ⊗ b), (m ⊖ t) ⊗ (a ⊖ b) ⊕ (t ⊖ ng m) ⊗ (b ⊖ ng a))) refl
          (both_nn (prod_nn (less_nn h.1) (less_nn k.1)) (prod_nn (less_nn h.0) (less_nn k.0)))),
      halve (le_by (t ∷ b ∷ m ∷ a ∷ []) (λ t b m a. (nat 2 ⊗ (t ⊗ b), nat 2 ⊗ (m ⊗ a), (m ⊖ t) ⊗ (b ⊖ ng a) ⊕ (t ⊖ ng m) ⊗ (a ⊖ b))) refl
          (both_nn (prod_nn (less_nn h.1) (less_nn k.0)) (prod_nn (less_nn h.0) (less_nn k.1)))),
    )

floor_part : (x : ℤ) (n : ℕ) → 0 < n → ((pos n *ℤ floor_div x n) ≤ℤ x) × (x ≤ℤ (pos n *ℤ (floor_div x n +ℤ pos 1)))
floor_part x n h = (floor_close x n h, step x (floor_div x n) (pos n) (lt_floor x n h))
  where
    step : (x f n : ℤ) → x <ℤ (f *ℤ n +ℤ n) → x ≤ℤ (n *ℤ (f +ℤ pos 1))
    step x f n h = le_by (x ∷ n ∷ f ∷ []) (λ x n f. (x, n ⊗ (f ⊕ nat 1), f ⊗ n ⊕ n ⊖ x)) refl (less_nn (weak h))

-- the residual lies within rad of the centre
in_reach : (d : ℤ) (z : List ℤ) (m : WholeBaseline) (r : SignalRow) (t : WholeData) → pos 0 ≤ℤ d → WholeInBoxes d r t →
    Within (d *ℤ pos (2 ^ 16) *ℤ rad m r) (whole_residual d (pos (2 ^ 16)) z m r t -ℤ d *ℤ pos (2 ^ 16) *ℤ centre z m r)
in_reach d z m r t h k =
    step d t.y r.y r.ry t.u1 r.u1 m.b1 r.ru1 (size m.b1) t.u2 r.u2 m.b2 r.ru2 (size m.b2) t.u3 r.u3 m.b3 r.ru3 (size m.b3) (dot r.cycles z) (floor_div x (2 ^ 16)) (ceil_div y (2 ^ 16)) h
    (floor_part x (2 ^ 16) (pow_pos 16)) (ceil_close y (2 ^ 16) (pow_pos 16)) k.y
    (within_times (d *ℤ r.ru1) (t.u1 -ℤ (d *ℤ r.u1)) m.b1 k.u1) (within_times (d *ℤ r.ru2) (t.u2 -ℤ (d *ℤ r.u2)) m.b2 k.u2) (within_times (d *ℤ r.ru3) (t.u3 -ℤ (d *ℤ r.u3)) m.b3 k.u3)
  where
    x : ℤ
    x = r.y *ℤ pos (2 ^ 16) -ℤ (r.u1 *ℤ m.b1 +ℤ (r.u2 *ℤ m.b2 +ℤ r.u3 *ℤ m.b3))

    y : ℤ
    y = (r.ru1 *ℤ size m.b1) +ℤ ((r.ru2 *ℤ size m.b2) +ℤ (r.ru3 *ℤ size m.b3))

    step : (d y c a p u i j k q v l n o s w b e z t f g : ℤ) → pos 0 ≤ℤ d →
        ((pos (2 ^ 16) *ℤ f) ≤ℤ (c *ℤ pos (2 ^ 16) -ℤ (u *ℤ i +ℤ (v *ℤ l +ℤ w *ℤ b)))) × ((c *ℤ pos (2 ^ 16) -ℤ (u *ℤ i +ℤ (v *ℤ l +ℤ w *ℤ b))) ≤ℤ (pos (2 ^ 16) *ℤ (f +ℤ pos 1))) →
        (j *ℤ k +ℤ (n *ℤ o +ℤ e *ℤ z)) ≤ℤ (pos (2 ^ 16) *ℤ g) → Within (d *ℤ a) (y -ℤ d *ℤ c) →
        Within (d *ℤ j *ℤ k) ((p -ℤ d *ℤ u) *ℤ i) → Within (d *ℤ n *ℤ o) ((q -ℤ d *ℤ v) *ℤ l) → Within (d *ℤ e *ℤ z) ((s -ℤ d *ℤ w) *ℤ b) →
        Within (d *ℤ pos (2 ^ 16) *ℤ (a +ℤ g +ℤ pos 1)) (y *ℤ pos (2 ^ 16) -ℤ (p *ℤ i +ℤ (q *ℤ l +ℤ s *ℤ b)) +ℤ d *ℤ pos (2 ^ 16) *ℤ t -ℤ d *ℤ pos (2 ^ 16) *ℤ (f +ℤ t))
    step d y c a p u i j k q v l n o s w b e z t f g h h₁ h₂ h₃ h₄ h₅ h₆ = (
      le_by (d ∷ a ∷ g ∷ y ∷ p ∷ i ∷ q ∷ l ∷ s ∷ b ∷ t ∷ f ∷ c ∷ j ∷ k ∷ u ∷ n ∷ o ∷ v ∷ e ∷ z ∷ w ∷ []) (λ d a g y p i q l s b t f c j k u n o v e z w. (
        ng (d ⊗ nat (2 ^ 16) ⊗ (a ⊕ g ⊕ nat 1)),
        y ⊗ nat (2 ^ 16) ⊖ (p ⊗ i ⊕ (q ⊗ l ⊕ s ⊗ b)) ⊕ d ⊗ nat (2 ^ 16) ⊗ t ⊖ d ⊗ nat (2 ^ 16) ⊗ (f ⊕ t),
        (y ⊖ d ⊗ c ⊖ ng (d ⊗ a)) ⊗ nat (2 ^ 16) ⊕ (d ⊗ j ⊗ k ⊖ (p ⊖ d ⊗ u) ⊗ i ⊕ (d ⊗ n ⊗ o ⊖ (q ⊖ d ⊗ v) ⊗ l ⊕ (d ⊗ e ⊗ z ⊖ (s ⊖ d ⊗ w) ⊗ b))) ⊕ (d ⊗
            (c ⊗ nat (2 ^ 16) ⊖ (u ⊗ i ⊕ (v ⊗ l ⊕ w ⊗ b)) ⊖ nat (2 ^ 16) ⊗ f) ⊕ (d ⊗ (nat (2 ^ 16) ⊗ g ⊖ (j ⊗ k ⊕ (n ⊗ o ⊕ e ⊗ z))) ⊕ d ⊗ nat (2 ^ 16))),
      ))
          refl (both_nn (both_nn (prod_nn (less_nn h₃.0) (pos_nn (2 ^ 16))) (both_nn (less_nn h₄.1) (both_nn (less_nn h₅.1) (less_nn h₆.1))))
          (both_nn (prod_nn h (less_nn h₁.0)) (both_nn (prod_nn h (less_nn h₂)) (prod_nn h (pos_nn (2 ^ 16)))))),
      le_by (y ∷ p ∷ i ∷ q ∷ l ∷ s ∷ b ∷ d ∷ t ∷ f ∷ a ∷ g ∷ c ∷ u ∷ j ∷ k ∷ v ∷ n ∷ o ∷ w ∷ e ∷ z ∷ []) (λ y p i q l s b d t f a g c u j k v n o w e z. (
        y ⊗ nat (2 ^ 16) ⊖ (p ⊗ i ⊕ (q ⊗ l ⊕ s ⊗ b)) ⊕ d ⊗ nat (2 ^ 16) ⊗ t ⊖ d ⊗ nat (2 ^ 16) ⊗ (f ⊕ t),
        d ⊗ nat (2 ^ 16) ⊗ (a ⊕ g ⊕ nat 1),
        (d ⊗ a
            ⊖ (y ⊖ d ⊗ c)) ⊗ nat (2 ^ 16) ⊕ ((p ⊖ d ⊗ u) ⊗ i ⊖ ng (d ⊗ j ⊗ k) ⊕ ((q ⊖ d ⊗ v) ⊗ l ⊖ ng (d ⊗ n ⊗ o) ⊕ ((s ⊖ d ⊗ w) ⊗ b ⊖ ng (d ⊗ e ⊗ z))))
            ⊕ (d ⊗ (nat (2 ^ 16) ⊗ (f ⊕ nat 1) ⊖ (c ⊗ nat (2 ^ 16) ⊖ (u ⊗ i ⊕ (v ⊗ l ⊕ w ⊗ b)))) ⊕ d ⊗ (nat (2 ^ 16) ⊗ g ⊖ (j ⊗ k ⊕ (n ⊗ o ⊕ e ⊗ z)))),
      )) refl
          (both_nn (both_nn (prod_nn (less_nn h₃.1) (pos_nn (2 ^ 16))) (both_nn (less_nn h₄.0) (both_nn (less_nn h₅.0) (less_nn h₆.0))))
          (both_nn (prod_nn h (less_nn h₁.1)) (prod_nn h (less_nn h₂)))),
    )

-- two residuals
two_rows : (d : ℤ) (z : List ℤ) (m : WholeBaseline) (r s : SignalRow) (t u : WholeData) → pos 0 ≤ℤ d → WholeInBoxes d r t → WholeInBoxes d s u →
    ((whole_residual d (pos (2 ^ 16)) z m r t -ℤ whole_residual d (pos (2 ^ 16)) z m s u)
    *ℤ (whole_residual d (pos (2 ^ 16)) z m r t -ℤ whole_residual d (pos (2 ^ 16)) z m s u))
    ≤ℤ (d *ℤ pos (2 ^ 16) *ℤ (d *ℤ pos (2 ^ 16)) *ℤ (gap z m r s *ℤ gap z m r s))
two_rows d z m r s t u h i j =
    le_trans_ℤ (square_within (d *ℤ pos (2 ^ 16) *ℤ gap z m r s) (whole_residual d (pos (2 ^ 16)) z m r t -ℤ whole_residual d (pos (2 ^ 16)) z m s u)
    (step (d *ℤ pos (2 ^ 16)) (whole_residual d (pos (2 ^ 16)) z m r t) (whole_residual d (pos (2 ^ 16)) z m s u) (centre z m r) (centre z m s)
    (rad m r) (rad m s) (size (centre z m r -ℤ centre z m s))
    (prod_nn h (pos_nn (2 ^ 16))) (size_within (centre z m r -ℤ centre z m s)) (in_reach d z m r t h i) (in_reach d z m s u h j)))
    (last (d *ℤ pos (2 ^ 16)) (gap z m r s))
  where
    last : (k g : ℤ) → (k *ℤ g *ℤ (k *ℤ g)) ≤ℤ (k *ℤ k *ℤ (g *ℤ g))
    last k g = le_by (k ∷ g ∷ []) (λ k g. (k ⊗ g ⊗ (k ⊗ g), k ⊗ k ⊗ (g ⊗ g), nat 0 ⊗ nat 0)) refl (square_nn (pos 0))

    step : (k x y c e a b g : ℤ) → pos 0 ≤ℤ k → Within g (c -ℤ e) → Within (k *ℤ a) (x -ℤ k *ℤ c) → Within (k *ℤ b) (y -ℤ k *ℤ e) → Within (k *ℤ (g +ℤ (a +ℤ b))) (x -ℤ y)
    step k x y c e a b g h h₁ h₂ h₃ = (
      le_by (k ∷ g ∷ a ∷ b ∷ x ∷ y ∷ c ∷ e ∷ [])
          (λ k g a b x y c e. (ng (k ⊗ (g ⊕ (a ⊕ b))), x ⊖ y, x ⊖ k ⊗ c ⊖ ng (k ⊗ a) ⊕ (k ⊗ b ⊖ (y ⊖ k ⊗ e)) ⊕ k ⊗ (c ⊖ e ⊖ ng g))) refl
          (both_nn (both_nn (less_nn h₂.0) (less_nn h₃.1)) (prod_nn h (less_nn h₁.0))),
      le_by (x ∷ y ∷ k ∷ g ∷ a ∷ b ∷ c ∷ e ∷ [])
          (λ x y k g a b c e. (x ⊖ y, k ⊗ (g ⊕ (a ⊕ b)), k ⊗ a ⊖ (x ⊖ k ⊗ c) ⊕ (y ⊖ k ⊗ e ⊖ ng (k ⊗ b)) ⊕ k ⊗ (g ⊖ (c ⊖ e)))) refl
          (both_nn (both_nn (less_nn h₂.1) (less_nn h₃.0)) (prod_nn h (less_nn h₁.1))),
    )

add_step : (k a b g h : ℤ) → a ≤ℤ (k *ℤ k *ℤ g) → b ≤ℤ (k *ℤ k *ℤ h) → (a +ℤ b) ≤ℤ (k *ℤ k *ℤ (g +ℤ h))
add_step k a b g h i j = le_by (a ∷ b ∷ k ∷ g ∷ h ∷ []) (λ a b k g h. (a ⊕ b, k ⊗ k ⊗ (g ⊕ h), k ⊗ k ⊗ g ⊖ a ⊕ (k ⊗ k ⊗ h ⊖ b))) refl (both_nn (less_nn i) (less_nn j))

none : (k : ℤ) → pos 0 ≤ℤ (k *ℤ k *ℤ pos 0)
none k = le_by (k ∷ []) (λ k. (nat 0, k ⊗ k ⊗ nat 0, nat 0 ⊗ nat 0)) refl (square_nn (pos 0))

apart_above : (d : ℤ) (z : List ℤ) (m : WholeBaseline) (r : SignalRow) (t : WholeData) (rs : List SignalRow) (ts : List WholeData) → pos 0 ≤ℤ d → WholeInBoxes d r t → WholeFits d rs ts →
    distances_from (whole_residual d (pos (2 ^ 16)) z m r t) (whole_residuals d (pos (2 ^ 16)) z m rs ts) ≤ℤ (d *ℤ pos (2 ^ 16) *ℤ (d *ℤ pos (2 ^ 16)) *ℤ gaps_from z m r rs)
apart_above d z m r t [] [] h i f = none (d *ℤ pos (2 ^ 16))
apart_above d z m r t [] (u ∷ ts) h i f = absurd f
apart_above d z m r t (s ∷ rs) [] h i f = absurd f
apart_above d z m r t (s ∷ rs) (u ∷ ts) h i f = add_step (d *ℤ pos (2 ^ 16)) _ _ _ _ (two_rows d z m r s t u h i f.0) (apart_above d z m r t rs ts h i f.1)

pairs_below : (d : ℤ) (z : List ℤ) (m : WholeBaseline) (rs : List SignalRow) (ts : List WholeData) → pos 0 ≤ℤ d → WholeFits d rs ts →
    pair_distances (whole_residuals d (pos (2 ^ 16)) z m rs ts) ≤ℤ (d *ℤ pos (2 ^ 16) *ℤ (d *ℤ pos (2 ^ 16)) *ℤ gaps z m rs)
pairs_below d z m [] [] h f = none (d *ℤ pos (2 ^ 16))
pairs_below d z m [] (t ∷ ts) h f = absurd f
pairs_below d z m (r ∷ rs) [] h f = absurd f
pairs_below d z m (r ∷ rs) (t ∷ ts) h f = add_step (d *ℤ pos (2 ^ 16)) _ _ _ _ (apart_above d z m r t rs ts h f.0 f.1) (pairs_below d z m rs ts h f.1)

pub pairs_above : (d : ℤ) (z : List ℤ) (m : WholeBaseline) (rs : List SignalRow) (ts : List WholeData) → pos 0 ≤ℤ d → WholeFits d rs ts →
    spread (whole_residuals d (pos (2 ^ 16)) z m rs ts) ≤ℤ (d *ℤ pos (2 ^ 16) *ℤ (d *ℤ pos (2 ^ 16)) *ℤ gaps z m rs)
pairs_above d z m rs ts h f = rw (spread_pairs (whole_residuals d (pos (2 ^ 16)) z m rs ts)) (pairs_below d z m rs ts h f)

pub share_nonneg : (g : SignalGroup) → pos 0 ≤ℤ g.weight → pos 0 ≤ℤ share g
share_nonneg g h = prod_nn (pos_nn (360360 / length g.rows)) h

-- for all data in the boxes, over d, at integers z and the baseline m in units of 2^-16
pub sums_below : (n d : ℤ) (z : List ℤ) (m : WholeBaseline) (gs : List SignalGroup) (ts : List (List WholeData)) → pos 0 ≤ℤ d → GroupsOf n gs → WholeFitsAll d gs ts →
    whole_sum_of_squares d (pos (2 ^ 16)) z m gs ts ≤ℤ (d *ℤ pos (2 ^ 16) *ℤ (d *ℤ pos (2 ^ 16)) *ℤ upper_sum z m gs)
sums_below n d z m [] [] h g f = none (d *ℤ pos (2 ^ 16))
sums_below n d z m [] (t ∷ ts) h g f = absurd f
sums_below n d z m (s ∷ gs) [] h g f = absurd f
sums_below n d z m (s ∷ gs) (t ∷ ts) h g f = add_step (d *ℤ pos (2 ^ 16)) _ _ _ _
    (step (d *ℤ pos (2 ^ 16)) (share s) (spread (whole_residuals d (pos (2 ^ 16)) z m s.rows t)) (gaps z m s.rows) (share_nonneg s g.2) (pairs_above d z m s.rows t h f.0))
    (sums_below n d z m gs ts h g.4 f.1)
  where
    step : (k f s g : ℤ) → pos 0 ≤ℤ f → s ≤ℤ (k *ℤ k *ℤ g) → (f *ℤ s) ≤ℤ (k *ℤ k *ℤ (f *ℤ g))
    step k f s g h i = le_by (f ∷ s ∷ k ∷ g ∷ []) (λ f s k g. (f ⊗ s, k ⊗ k ⊗ (f ⊗ g), f ⊗ (k ⊗ k ⊗ g ⊖ s))) refl (prod_nn h (less_nn i))

-- the same in units of 2^h
pub upper : (n d : ℤ) (h : ℕ) (z : List ℤ) (m : WholeBaseline) (gs : List SignalGroup) (ts : List (List WholeData)) → pos 0 ≤ℤ d → GroupsOf n gs → WholeFitsAll d gs ts →
    whole_sum_of_squares d (pos (2 ^ 16)) z m gs ts ≤ℤ (d *ℤ pos (2 ^ 16) *ℤ (d *ℤ pos (2 ^ 16)) *ℤ (pos (2 ^ h) *ℤ top h z m gs))
upper n d h z m gs ts i g f = step (d *ℤ pos (2 ^ 16)) (whole_sum_of_squares d (pos (2 ^ 16)) z m gs ts) (upper_sum z m gs) (pos (2 ^ h) *ℤ top h z m gs)
    (sums_below n d z m gs ts i g f) (ceil_close (upper_sum z m gs) (2 ^ h) (pow_pos h))
  where
    step : (k a u t : ℤ) → a ≤ℤ (k *ℤ k *ℤ u) → u ≤ℤ t → a ≤ℤ (k *ℤ k *ℤ t)
    step k a u t h i = le_by (a ∷ k ∷ t ∷ u ∷ []) (λ a k t u. (a, k ⊗ k ⊗ t, k ⊗ k ⊗ u ⊖ a ⊕ k ⊗ k ⊗ (t ⊖ u))) refl (both_nn (less_nn h) (prod_nn (square_nn k) (less_nn i)))
