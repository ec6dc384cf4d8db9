-- Sums of lists, and what two lists have in common.
use Rattle.std.proofs.Common.{◌≡◌, List, [], ◌∷◌, ℤ, pos, ◌+ℤ◌, ◌-ℤ◌, ◌*ℤ◌, sym, ap, ap₂, ◌∙◌, refl, subst}
use Rattle.std.proofs.Math.IntN.{+ℤ_idl, +ℤ_idr}
use Rattle.whole_math.specs.Vectors.{len, sum, dot, scaled, added}
use Rattle.whole_math.proofs.Ring.{◌⊕◌, ◌⊖◌, ◌⊗◌}
use Rattle.whole_math.proofs.IntLaws.{mul_comm_ℤ, mul_add_ℤ}
use Rattle.whole_math.proofs.Inequalities.{same_by, nat}
use Rattle.whole_math.proofs.Vectors.{len_added, dot_added, dot_swap}
use Rattle.quadratic_form.specs.Spread.{spread, cross_spread}
use Rattle.quadratic_form.proofs.Spread.{spread_shift}

sum_added : (s t : List ℤ) → sum (added s t) ≡ sum s +ℤ sum t
sum_added [] t = sym (+ℤ_idl (sum t))
sum_added (x ∷ s) [] = sym (+ℤ_idr (x +ℤ sum s))
sum_added (x ∷ s) (y ∷ t) = ap (λ z. (x +ℤ y) +ℤ z) (sum_added s t) ∙ step x y (sum s) (sum t)
  where
    step : (x y a b : ℤ) → x +ℤ y +ℤ (a +ℤ b) ≡ x +ℤ a +ℤ (y +ℤ b)
    step x y a b = same_by (x ∷ y ∷ a ∷ b ∷ []) (λ x y a b. (x ⊕ y ⊕ (a ⊕ b), x ⊕ a ⊕ (y ⊕ b))) refl

dot_right : (s w p : List ℤ) → dot s (added w p) ≡ dot s w +ℤ dot s p
dot_right s w p = dot_swap s (added w p) ∙ dot_added w p s ∙ ap₂ (λ a b. a +ℤ b) (dot_swap w s) (dot_swap p s)

pub cross_left : (a q w : List ℤ) → len a ≡ len q → cross_spread (added a q) w ≡ cross_spread a w +ℤ cross_spread q w
cross_left a q w e = rw (len_added a q e, sum_added a q, dot_added a q w)
    (step (len a) (dot a w) (dot q w) (sum a) (sum q) (sum w) ∙ ap (λ n. cross_spread a w +ℤ (n *ℤ dot q w -ℤ sum q *ℤ sum w)) e)
  where
    step : (n a q s t u : ℤ) → n *ℤ (a +ℤ q) -ℤ (s +ℤ t) *ℤ u ≡ n *ℤ a -ℤ s *ℤ u +ℤ (n *ℤ q -ℤ t *ℤ u)
    step n a q s t u = same_by (n ∷ a ∷ q ∷ s ∷ t ∷ u ∷ []) (λ n a q s t u. (n ⊗ (a ⊕ q) ⊖ (s ⊕ t) ⊗ u, n ⊗ a ⊖ s ⊗ u ⊕ (n ⊗ q ⊖ t ⊗ u))) refl

pub cross_right : (s w p : List ℤ) → cross_spread s (added w p) ≡ cross_spread s w +ℤ cross_spread s p
cross_right s w p = ap₂ (λ a b. len s *ℤ a -ℤ sum s *ℤ b) (dot_right s w p) (sum_added w p) ∙ step (len s) (dot s w) (dot s p) (sum s) (sum w) (sum p)
  where
    step : (n a q s t u : ℤ) → n *ℤ (a +ℤ q) -ℤ s *ℤ (t +ℤ u) ≡ n *ℤ a -ℤ s *ℤ t +ℤ (n *ℤ q -ℤ s *ℤ u)
    step n a q s t u = same_by (n ∷ a ∷ q ∷ s ∷ t ∷ u ∷ []) (λ n a q s t u. (n ⊗ (a ⊕ q) ⊖ s ⊗ (t ⊕ u), n ⊗ a ⊖ s ⊗ t ⊕ (n ⊗ q ⊖ s ⊗ u))) refl

pub cross_swap : (s t : List ℤ) → len s ≡ len t → cross_spread s t ≡ cross_spread t s
cross_swap s t e = ap₂ (λ n a. n *ℤ a -ℤ sum s *ℤ sum t) e (dot_swap s t) ∙ ap (λ k. len t *ℤ dot t s -ℤ k) (mul_comm_ℤ (sum s) (sum t))

scaled_one : (s : List ℤ) → scaled (pos 1) s ≡ s
scaled_one [] = refl
scaled_one (x ∷ s) = ap₂ (λ y t. y ∷ t) (same_by (x ∷ []) (λ x. (nat 1 ⊗ x, x)) refl) (scaled_one s)

pub spread_added : (s t : List ℤ) → len s ≡ len t → spread (added s t) ≡ spread s +ℤ pos 2 *ℤ pos 1 *ℤ cross_spread s t +ℤ pos 1 *ℤ pos 1 *ℤ spread t
spread_added s t e = subst (λ (z : List ℤ). spread (added s z) ≡ spread s +ℤ pos 2 *ℤ pos 1 *ℤ cross_spread s t +ℤ pos 1 *ℤ pos 1 *ℤ spread t) (scaled_one t) (spread_shift (pos 1) s t e)

pub scaled_added : (d : ℤ) (s t : List ℤ) → scaled d (added s t) ≡ added (scaled d s) (scaled d t)
scaled_added d [] t = refl
scaled_added d (x ∷ s) [] = refl
scaled_added d (x ∷ s) (y ∷ t) = ap₂ (λ z u. z ∷ u) (mul_add_ℤ d x y) (scaled_added d s t)
