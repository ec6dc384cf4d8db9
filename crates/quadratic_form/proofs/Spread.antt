-- The spread of a list.
use Rattle.std.proofs.Common.{◌≡◌, List, [], ◌∷◌, ℤ, pos, ◌+ℤ◌, ◌-ℤ◌, ◌*ℤ◌, ◌≤ℤ◌, arith, sym, ap, ap₂, ◌∙◌, refl, subst}
use Rattle.std.proofs.Math.IntN.{+ℤ_idl}
use Rattle.whole_math.proofs.Ring.{◌⊕◌, ◌⊖◌, ◌⊗◌}
use Rattle.whole_math.proofs.Order.{lins, square_nn}
use Rattle.whole_math.proofs.Inequalities.{le_by, both_nn, same_by, nat}
use Rattle.whole_math.specs.Vectors.{len, sum, squared_norm, dot, scaled, added}
use Rattle.quadratic_form.specs.Spread.{spread, cross_spread, distances_from, pair_distances}
use Rattle.whole_math.proofs.Vectors.{len_added, len_scaled, squared_norm_shift, sum_shift}

pub apart_open : (x : ℤ) (s : List ℤ) → distances_from x s ≡ len s *ℤ (x *ℤ x) -ℤ pos 2 *ℤ (x *ℤ sum s) +ℤ squared_norm s
apart_open x [] = same_by (x ∷ []) (λ x. (nat 0, nat 0 ⊗ (x ⊗ x) ⊖ nat 2 ⊗ (x ⊗ nat 0) ⊕ nat 0)) refl
apart_open x (y ∷ s) = ap (λ z. ((x -ℤ y) *ℤ (x -ℤ y)) +ℤ z) (apart_open x s) ∙ step x y (len s) (sum s) (squared_norm s)
  where
    step : (x y n s q : ℤ) → (x -ℤ y) *ℤ (x -ℤ y) +ℤ (n *ℤ (x *ℤ x) -ℤ pos 2 *ℤ (x *ℤ s) +ℤ q) ≡ (pos 1 +ℤ n) *ℤ (x *ℤ x) -ℤ pos 2 *ℤ (x *ℤ (y +ℤ s)) +ℤ (y *ℤ y +ℤ q)
    step x y n s q = same_by (x ∷ y ∷ n ∷ s ∷ q ∷ []) (λ x y n s q. ((x ⊖ y) ⊗ (x ⊖ y) ⊕ (n ⊗ (x ⊗ x) ⊖ nat 2 ⊗ (x ⊗ s) ⊕ q), (nat 1 ⊕ n) ⊗ (x ⊗ x) ⊖ nat 2 ⊗ (x ⊗ (y ⊕ s)) ⊕ (y ⊗ y ⊕ q))) refl

pub spread_pairs : (s : List ℤ) → spread s ≡ pair_distances s
spread_pairs [] = refl
spread_pairs (x ∷ s) = step x (len s) (sum s) (squared_norm s) ∙ ap₂ (λ a b. a +ℤ b) (sym (apart_open x s)) (spread_pairs s)
  where
    step : (x n s q : ℤ) → (pos 1 +ℤ n) *ℤ (x *ℤ x +ℤ q) -ℤ (x +ℤ s) *ℤ (x +ℤ s) ≡ n *ℤ (x *ℤ x) -ℤ pos 2 *ℤ (x *ℤ s) +ℤ q +ℤ (n *ℤ q -ℤ s *ℤ s)
    step x n s q = same_by (n ∷ x ∷ q ∷ s ∷ []) (λ n x q s. ((nat 1 ⊕ n) ⊗ (x ⊗ x ⊕ q) ⊖ (x ⊕ s) ⊗ (x ⊕ s), n ⊗ (x ⊗ x) ⊖ nat 2 ⊗ (x ⊗ s) ⊕ q ⊕ (n ⊗ q ⊖ s ⊗ s))) refl

apart_nonneg : (x : ℤ) (s : List ℤ) → pos 0 ≤ℤ distances_from x s
apart_nonneg x [] = omega (arith, lins)
apart_nonneg x (y ∷ s) = both_nn (square_nn (x -ℤ y)) (apart_nonneg x s)

pairs_nonneg : (s : List ℤ) → pos 0 ≤ℤ pair_distances s
pairs_nonneg [] = omega (arith, lins)
pairs_nonneg (x ∷ s) = both_nn (apart_nonneg x s) (pairs_nonneg s)

pub spread_nonneg : (s : List ℤ) → pos 0 ≤ℤ spread s
spread_nonneg s = subst (λ (z : ℤ). pos 0 ≤ℤ z) (sym (spread_pairs s)) (pairs_nonneg s)

pub spread_below : (s : List ℤ) → spread s ≤ℤ (len s *ℤ squared_norm s)
spread_below s = step (len s *ℤ squared_norm s) (sum s) (square_nn (sum s))
  where
    step : (a b : ℤ) → pos 0 ≤ℤ (b *ℤ b) → (a -ℤ (b *ℤ b)) ≤ℤ a
    step a b h = omega (arith, lins)

pub spread_shift : (k : ℤ) (s t : List ℤ) → len s ≡ len t → spread (added s (scaled k t)) ≡ spread s +ℤ pos 2 *ℤ k *ℤ cross_spread s t +ℤ k *ℤ k *ℤ spread t
spread_shift k s t e = rw (len_added s (scaled k t) (e ∙ sym (len_scaled k t)), sum_shift k s t, squared_norm_shift k s t)
    (step k (len s) (sum s) (squared_norm s) (dot s t) (sum t) (squared_norm t) ∙ ap (λ z. spread s +ℤ pos 2 *ℤ k *ℤ cross_spread s t +ℤ k *ℤ k *ℤ (z *ℤ squared_norm t -ℤ sum t *ℤ sum t)) e)
  where
    step : (k n a q c b r : ℤ) → n *ℤ (q +ℤ pos 2 *ℤ k *ℤ c +ℤ k *ℤ k *ℤ r) -ℤ (a +ℤ k *ℤ b) *ℤ (a +ℤ k *ℤ b) ≡ n *ℤ q -ℤ a *ℤ a +ℤ pos 2 *ℤ k *ℤ (n *ℤ c -ℤ a *ℤ b) +ℤ k *ℤ k *ℤ (n *ℤ r -ℤ b *ℤ b)
    step k n a q c b r = same_by (n ∷ q ∷ k ∷ c ∷ r ∷ a ∷ b ∷ []) (λ n q k c r a b.
        (n ⊗ (q ⊕ nat 2 ⊗ k ⊗ c ⊕ k ⊗ k ⊗ r) ⊖ (a ⊕ k ⊗ b) ⊗ (a ⊕ k ⊗ b), n ⊗ q ⊖ a ⊗ a ⊕ nat 2 ⊗ k ⊗ (n ⊗ c ⊖ a ⊗ b) ⊕ k ⊗ k ⊗ (n ⊗ r ⊖ b ⊗ b))) refl

pub spread_scale : (k : ℤ) (s : List ℤ) → spread (scaled k s) ≡ k *ℤ k *ℤ spread s
spread_scale k s = rw (len_scaled k s, sum_scale k s, sumsq_scale k s) (step k (len s) (sum s) (squared_norm s))
  where
    step : (k n a q : ℤ) → n *ℤ (k *ℤ k *ℤ q) -ℤ k *ℤ a *ℤ (k *ℤ a) ≡ k *ℤ k *ℤ (n *ℤ q -ℤ a *ℤ a)
    step k n a q = same_by (n ∷ k ∷ q ∷ a ∷ []) (λ n k q a. (n ⊗ (k ⊗ k ⊗ q) ⊖ k ⊗ a ⊗ (k ⊗ a), k ⊗ k ⊗ (n ⊗ q ⊖ a ⊗ a))) refl

    sum_scale : (k : ℤ) (s : List ℤ) → sum (scaled k s) ≡ k *ℤ sum s
    sum_scale k s = sum_shift k [] s ∙ +ℤ_idl (k *ℤ sum s)

    clear : (k a : ℤ) → pos 0 +ℤ pos 2 *ℤ k *ℤ pos 0 +ℤ k *ℤ k *ℤ a ≡ k *ℤ k *ℤ a
    clear k a = same_by (k ∷ a ∷ []) (λ k a. (nat 0 ⊕ nat 2 ⊗ k ⊗ nat 0 ⊕ k ⊗ k ⊗ a, k ⊗ k ⊗ a)) refl

    sumsq_scale : (k : ℤ) (s : List ℤ) → squared_norm (scaled k s) ≡ k *ℤ k *ℤ squared_norm s
    sumsq_scale k s = squared_norm_shift k [] s ∙ clear k (squared_norm s)

-- what a change d of the entries takes away at most
pub perturb : (a d : List ℤ) → len a ≡ len d → (pos 63 *ℤ spread a -ℤ pos 4032 *ℤ spread d) ≤ℤ (pos 64 *ℤ spread (added a d))
perturb a d e = step (spread a) (spread d) (cross_spread a d) (spread (added a d)) (spread (added a (scaled (pos 64) d))) (one a d e)
    (spread_shift (pos 64) a d e) (spread_nonneg (added a (scaled (pos 64) d)))
  where
    scaled_one : (s : List ℤ) → scaled (pos 1) s ≡ s
    scaled_one [] = refl
    scaled_one (x ∷ s) = ap₂ (λ y t. y ∷ t) (same_by (x ∷ []) (λ x. (nat 1 ⊗ x, x)) refl) (scaled_one s)

    one : (a d : List ℤ) → len a ≡ len d → spread (added a d) ≡ spread a +ℤ pos 2 *ℤ pos 1 *ℤ cross_spread a d +ℤ pos 1 *ℤ pos 1 *ℤ spread d
    one a d e = subst (λ (z : List ℤ). spread (added a z) ≡ spread a +ℤ pos 2 *ℤ pos 1 *ℤ cross_spread a d +ℤ pos 1 *ℤ pos 1 *ℤ spread d) (scaled_one d) (spread_shift (pos 1) a d e)

    step : (s t c u w : ℤ) → u ≡ s +ℤ pos 2 *ℤ pos 1 *ℤ c +ℤ pos 1 *ℤ pos 1 *ℤ t → w ≡ s +ℤ pos 2 *ℤ pos 64 *ℤ c +ℤ pos 64 *ℤ pos 64 *ℤ t → pos 0 ≤ℤ w → (pos 63 *ℤ s -ℤ pos 4032 *ℤ t) ≤ℤ (pos 64 *ℤ u)
    step s t c u w e f h = rw e (le_by (s ∷ t ∷ c ∷ []) (λ s t c. (
      nat 63 ⊗ s ⊖ nat 4032 ⊗ t,
      nat 64 ⊗ (s ⊕ nat 2 ⊗ nat 1 ⊗ c ⊕ nat 1 ⊗ nat 1 ⊗ t),
      s ⊕ nat 2 ⊗ nat 64 ⊗ c ⊕ nat 64 ⊗ nat 64 ⊗ t,
    )) refl (subst (λ (z : ℤ). pos 0 ≤ℤ z) f h))
