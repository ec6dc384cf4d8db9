-- Over whole numbers: a baseline that is no worse than the move lies near it, at any data in the boxes.
use Rattle.std.proofs.Common.{◌≡◌, ℕ, suc, ◌^◌, ◌<◌, List, [], ◌∷◌, ◌++◌, length, ℤ, pos, ◌+ℤ◌, ◌-ℤ◌, ◌*ℤ◌, neg_ℤ, ◌≤ℤ◌, arith, sym, ap, ap₂, ◌∙◌, refl, subst, pow_pos}
use Rattle.whole_math.specs.Vectors.{len, dot, scaled}
use Rattle.whole_math.specs.Bounds.{Within}
use Rattle.whole_math.specs.Rounding.{floor_div, nearest_div}
use Rattle.whole_math.proofs.Ring.{◌⊕◌, ◌⊖◌, ◌⊗◌, ng}
use Rattle.whole_math.proofs.Order.{lins, square_nn}
use Rattle.whole_math.proofs.IntLaws.{mul_comm_ℤ}
use Rattle.whole_math.proofs.Vectors.{dot_at_scaled, len_is}
use Rattle.whole_math.proofs.Inequalities.{le_by, both_nn, prod_nn, less_nn, pos_nn, pos_one, one_nn, same_by, nat}
use Rattle.quadratic_form.specs.Forms.{Column, quad}
use Rattle.quadratic_form.specs.Places.{list_from, form_from}
use Rattle.quadratic_form.specs.MatrixEntries.{matrix_entry}
use Rattle.quadratic_form.specs.Rows.{WholeData, WholeBaseline, SignalGroup, WholeFitsAll, whole_sum_of_squares, matrix, Radii, radii, columns_at, GroupsOf}
use Rattle.quadratic_form.specs.UpperSum.{size}
use Rattle.quadratic_form.proofs.NormalForm.{sum_spreads, matrix_at_centres}
use Rattle.quadratic_form.proofs.MatrixEntries.{matrix_form, matrix_turned}
use Rattle.vector_bound.specs.Curvatures.{three_columns}
use Rattle.quadratic_form.proofs.NormalForm.{radii_at}
use Rattle.vector_bound.proofs.Changes.{less, groups_change}
use Rattle.vector_bound.proofs.Corners.{corner, slope_at, corner_change, corner_alone}
use Rattle.vector_bound.proofs.Curvatures.{AtLeastSquares, cancel_one}
use Rattle.vector_bound.proofs.Blocks.{block_below}
use Rattle.vector_bound.proofs.Nearness.{greatest, in_greatest, greatest_square, slopes_below, root_below, product_one, wider}

-- e times a baseline
abbrev pub times_base : ℤ → WholeBaseline → WholeBaseline
times_base e m = record { b1 = m.b1 *ℤ e; b2 = m.b2 *ℤ e; b3 = m.b3 *ℤ e }

-- ---- the columns and the radii over a greater denominator
tail_scaled : (k e : ℤ) (z : List ℤ) → scaled (k *ℤ e) z ++ ((k *ℤ e) ∷ []) ≡ scaled e (scaled k z ++ (k ∷ []))
tail_scaled k e [] = ap (λ x. x ∷ []) (mul_comm_ℤ k e)
tail_scaled k e (x ∷ z) = ap₂ (λ y s. y ∷ s) (same_by (k ∷ e ∷ x ∷ []) (λ k e x. (k ⊗ e ⊗ x, e ⊗ (k ⊗ x))) refl) (tail_scaled k e z)

columns_scaled : (k e : ℤ) (z : List ℤ) (m : WholeBaseline) → columns_at (k *ℤ e) z (times_base e m) ≡ scaled e (columns_at k z m)
columns_scaled k e z m = ap₂ (λ y s. y ∷ s) (mul_comm_ℤ m.b1 e) (ap₂ (λ y s. y ∷ s) (mul_comm_ℤ m.b2 e) (ap₂ (λ y s. y ∷ s) (mul_comm_ℤ m.b3 e) (tail_scaled k e z)))

radii_scaled : (k e : ℤ) (m : WholeBaseline) (r : Radii) → radii_at (k *ℤ e) (times_base e m) r ≡ e *ℤ e *ℤ radii_at k m r
radii_scaled k e m r = step r.r1 r.r2 r.r3 r.ry m.b1 m.b2 m.b3 k e
  where
    step : (p q r s x y z k e : ℤ) → p *ℤ (x *ℤ e *ℤ (x *ℤ e)) +ℤ (q *ℤ (y *ℤ e *ℤ (y *ℤ e)) +ℤ (r *ℤ (z *ℤ e *ℤ (z *ℤ e)) +ℤ s *ℤ (k *ℤ e *ℤ (k *ℤ e))))
        ≡ e *ℤ e *ℤ (p *ℤ (x *ℤ x) +ℤ (q *ℤ (y *ℤ y) +ℤ (r *ℤ (z *ℤ z) +ℤ s *ℤ (k *ℤ k))))
    step p q r s x y z k e = same_by (p ∷ q ∷ r ∷ s ∷ x ∷ y ∷ z ∷ k ∷ e ∷ []) (λ p q r s x y z k e. (
      p ⊗ (x ⊗ e ⊗ (x ⊗ e)) ⊕ (q ⊗ (y ⊗ e ⊗ (y ⊗ e)) ⊕ (r ⊗ (z ⊗ e ⊗ (z ⊗ e)) ⊕ s ⊗ (k ⊗ e ⊗ (k ⊗ e)))),
      e ⊗ e ⊗ (p ⊗ (x ⊗ x) ⊕ (q ⊗ (y ⊗ y) ⊕ (r ⊗ (z ⊗ z) ⊕ s ⊗ (k ⊗ k)))),
    )) refl

-- ---- the numbers of a bound
-- the slopes, the curvature and the slack of the sum of squares of these groups at z and the move m, over 2^h, where k is the share of the sum that is given away, and u bounds the sum
pub record IsWholeBound (k h : ℕ) (gs : List SignalGroup) (z : List ℤ) (m : WholeBaseline) (u x : ℤ) : Type 0 where
  pub l : ℤ
  pub s : ℤ
  pub w : ℤ
  pub mu : ℤ
  pub mu_one : pos 1 ≤ℤ mu
  pub s_from : pos 0 ≤ℤ s
  pub x_one : pos 1 ≤ℤ x
  pub sum_share : (pos (2 ^ 38) *ℤ u) ≤ℤ (pos k *ℤ w)
  pub slopes : (pos 128 *ℤ (size (slope_at (matrix_entry gs) (suc (length z)) m (scaled (pos (2 ^ 16)) z ++ (pos (2 ^ 16) ∷ [])) 0)
      +ℤ (size (slope_at (matrix_entry gs) (suc (length z)) m (scaled (pos (2 ^ 16)) z ++ (pos (2 ^ 16) ∷ [])) 1)
      +ℤ size (slope_at (matrix_entry gs) (suc (length z)) m (scaled (pos (2 ^ 16)) z ++ (pos (2 ^ 16) ∷ [])) 2)))) ≤ℤ (pos (2 ^ h) *ℤ l)
  pub slack : (pos 4096 *ℤ radii_at (pos (2 ^ 16)) m (radii gs) +ℤ w) ≤ℤ (pos (2 ^ h) *ℤ s)
  pub curved : (a b c : ℤ) → AtLeastSquares mu (three_columns
      (floor_div (pos 59 *ℤ matrix_entry gs 0 0 -ℤ (pos 16128 +ℤ pos 256 *ℤ pos k) *ℤ (radii gs).r1) (2 ^ h) -ℤ pos 3)
      (floor_div (pos 59 *ℤ matrix_entry gs 1 1 -ℤ (pos 16128 +ℤ pos 256 *ℤ pos k) *ℤ (radii gs).r2) (2 ^ h) -ℤ pos 3)
      (floor_div (pos 59 *ℤ matrix_entry gs 2 2 -ℤ (pos 16128 +ℤ pos 256 *ℤ pos k) *ℤ (radii gs).r3) (2 ^ h) -ℤ pos 3)
      (nearest_div (pos 59 *ℤ matrix_entry gs 0 1) (2 ^ h)) (nearest_div (pos 59 *ℤ matrix_entry gs 0 2) (2 ^ h)) (nearest_div (pos 59 *ℤ matrix_entry gs 1 2) (2 ^ h)) a b c) a b c
  pub reached : (l *ℤ x +ℤ s) ≤ℤ (mu *ℤ (x *ℤ x))

-- ---- the two ends
-- the square of the distance, from the change of the sum of squares
distance : (d e k c g r p fb fm u w : ℤ) → pos 1 ≤ℤ d → pos 1 ≤ℤ e → pos 1 ≤ℤ k → fb ≤ℤ fm → fm ≤ℤ (d *ℤ (pos (2 ^ 16) *ℤ e) *ℤ (d *ℤ (pos (2 ^ 16) *ℤ e)) *ℤ u) → (pos (2 ^ 38) *ℤ u) ≤ℤ (k *ℤ w) →
    (d *ℤ d *ℤ (pos 64 *ℤ (k *ℤ (c +ℤ pos 2 *ℤ (e *ℤ g))) -ℤ pos 5 *ℤ (k *ℤ c) -ℤ pos 4096 *ℤ (k *ℤ (e *ℤ e *ℤ p)) -ℤ (pos 16128 *ℤ k +ℤ pos 256 *ℤ (k *ℤ k)) *ℤ r) -ℤ pos 64 *ℤ fm)
    ≤ℤ (pos 64 *ℤ (k *ℤ (fb -ℤ fm))) →
    (pos 59 *ℤ c -ℤ (pos 16128 +ℤ pos 256 *ℤ k) *ℤ r) ≤ℤ (pos 128 *ℤ (e *ℤ neg_ℤ g) +ℤ e *ℤ e *ℤ (pos 4096 *ℤ p +ℤ w))
distance d e k c g r p fb fm u w h₁ h₂ h₃ h₄ h₅ h₆ h₇ = cancel_one (d *ℤ d *ℤ k) _ _ (product_one (d *ℤ d) k (product_one d d h₁ h₁) h₃)
    (le_by (d ∷ e ∷ k ∷ c ∷ g ∷ r ∷ p ∷ fb ∷ fm ∷ u ∷ w ∷ []) (λ d e k c g r p fb fm u w. (
      d ⊗ d ⊗ k ⊗ (nat 59 ⊗ c ⊖ (nat 16128 ⊕ nat 256 ⊗ k) ⊗ r),
      d ⊗ d ⊗ k ⊗ (nat 128 ⊗ (e ⊗ ng g) ⊕ e ⊗ e ⊗ (nat 4096 ⊗ p ⊕ w)),
      nat 64 ⊗ (k ⊗ (fb ⊖ fm))
          ⊖ (d ⊗ d ⊗ (nat 64 ⊗ (k ⊗ (c ⊕ nat 2 ⊗ (e ⊗ g))) ⊖ nat 5 ⊗ (k ⊗ c) ⊖ nat 4096 ⊗ (k ⊗ (e ⊗ e ⊗ p)) ⊖ (nat 16128 ⊗ k ⊕ nat 256 ⊗ (k ⊗ k)) ⊗ r) ⊖ nat 64 ⊗ fm)
          ⊕ (nat 64 ⊗ (k ⊗ (fm ⊖ fb)) ⊕ (nat 64 ⊗ (d ⊗ (nat (2 ^ 16) ⊗ e) ⊗ (d ⊗ (nat (2 ^ 16) ⊗ e)) ⊗ u ⊖ fm) ⊕ d ⊗ d ⊗ (e ⊗ e) ⊗ (k ⊗ w ⊖ nat (2 ^ 38) ⊗ u))),
    )) refl (both_nn (less_nn h₇) (both_nn (prod_nn (pos_nn 64) (prod_nn (one_nn h₃) (less_nn h₄)))
    (both_nn (prod_nn (pos_nn 64) (less_nn h₅)) (prod_nn (prod_nn (square_nn d) (square_nn e)) (less_nn h₆))))))

-- from there to the greatest size
greatest_distance : (n e q t g a l s p r w mu : ℤ) → pos 1 ≤ℤ n → pos 1 ≤ℤ e → pos 0 ≤ℤ t → (mu *ℤ (t *ℤ t)) ≤ℤ q → (n *ℤ q) ≤ℤ r → r ≤ℤ (pos 128 *ℤ (e *ℤ neg_ℤ g) +ℤ e *ℤ e *ℤ (pos 4096 *ℤ p +ℤ w)) →
    neg_ℤ g ≤ℤ (a *ℤ t) → (pos 128 *ℤ a) ≤ℤ (n *ℤ l) → (pos 4096 *ℤ p +ℤ w) ≤ℤ (n *ℤ s) → (mu *ℤ (t *ℤ t)) ≤ℤ (e *ℤ (l *ℤ t) +ℤ e *ℤ e *ℤ s)
greatest_distance n e q t g a l s p r w mu h₁ h₂ h₃ h₄ h₅ h₆ h₇ h₈ h₉ = cancel_one n _ _ h₁
    (le_by (n ∷ e ∷ q ∷ t ∷ g ∷ a ∷ l ∷ s ∷ p ∷ r ∷ w ∷ mu ∷ []) (λ n e q t g a l s p r w mu. (
      n ⊗ (mu ⊗ (t ⊗ t)),
      n ⊗ (e ⊗ (l ⊗ t) ⊕ e ⊗ e ⊗ s),
      n ⊗ (q ⊖ mu ⊗ (t ⊗ t)) ⊕ (r ⊖ n ⊗ q) ⊕ (nat 128 ⊗ (e ⊗ ng g) ⊕ e ⊗ e ⊗ (nat 4096 ⊗ p ⊕ w) ⊖ r) ⊕ (nat 128 ⊗ e ⊗ (a ⊗ t ⊖ ng g) ⊕ e ⊗ t ⊗ (n ⊗ l ⊖ nat 128 ⊗ a) ⊕ e ⊗ e ⊗ (n ⊗ s ⊖ (nat 4096 ⊗ p ⊕ w))),
    )) refl (both_nn (both_nn (both_nn (prod_nn (one_nn h₁) (less_nn h₄)) (less_nn h₅)) (less_nn h₆))
    (both_nn (both_nn (prod_nn (prod_nn (pos_nn 128) (one_nn h₂)) (less_nn h₇)) (prod_nn (prod_nn (one_nn h₂) h₃) (less_nn h₈))) (prod_nn (square_nn e) (less_nn h₉)))))

-- ---- the law
pub near_whole : (k h d e : ℕ) (gs : List SignalGroup) (z : List ℤ) (m b : WholeBaseline) (u x : ℤ) (ts : List (List WholeData)) → 0 < k → 0 < d → 0 < e →
    IsWholeBound k h gs z m u x → GroupsOf (len z) gs → WholeFitsAll (pos d) gs ts →
    whole_sum_of_squares (pos d) (pos (2 ^ 16) *ℤ pos e) z (times_base (pos e) m) gs ts ≤ℤ (pos d *ℤ (pos (2 ^ 16) *ℤ pos e) *ℤ (pos d *ℤ (pos (2 ^ 16) *ℤ pos e)) *ℤ u) →
    whole_sum_of_squares (pos d) (pos (2 ^ 16) *ℤ pos e) z b gs ts ≤ℤ whole_sum_of_squares (pos d) (pos (2 ^ 16) *ℤ pos e) z (times_base (pos e) m) gs ts →
    Within (pos e *ℤ x) (b.b1 -ℤ m.b1 *ℤ pos e) × (Within (pos e *ℤ x) (b.b2 -ℤ m.b2 *ℤ pos e) × Within (pos e *ℤ x) (b.b3 -ℤ m.b3 *ℤ pos e))
near_whole k h d e gs z m b u x ts k_from d_from e_from bound groups fits upper better = (
  wider s (pos e *ℤ x) t.b1 s_small inside.0,
  (wider s (pos e *ℤ x) t.b2 s_small inside.1.0, wider s (pos e *ℤ x) t.b3 s_small inside.1.1),
)
  where
    c : ℕ → ℕ → ℤ
    c = matrix_entry gs

    n : ℕ
    n = suc (length z)

    big : ℤ
    big = pos (2 ^ 16) *ℤ pos e

    base : WholeBaseline
    base = times_base (pos e) m

    t : WholeBaseline
    t = less b base

    v : List ℤ
    v = scaled (pos (2 ^ 16)) z ++ (pos (2 ^ 16) ∷ [])

    g : ℤ
    g = t.b1 *ℤ slope_at c n m v 0 +ℤ (t.b2 *ℤ slope_at c n m v 1 +ℤ t.b3 *ℤ slope_at c n m v 2)

    form_is : form_from c 0 (suc (suc (suc n))) ≡ matrix (length z) gs
    form_is = matrix_form (length z) gs (subst (λ (l : ℤ). GroupsOf l gs) (len_is z) groups)

    spreads_are : (a : List ℤ) → sum_spreads a gs ≡ quad (form_from c 0 (suc (suc (suc n)))) a
    spreads_are a = sym (matrix_at_centres (length z) a gs) ∙ ap (λ (f : List Column). quad f a) (sym form_is)

    slope_scaled : (j : ℕ) → slope_at c n base (scaled big z ++ (big ∷ [])) j ≡ pos e *ℤ slope_at c n m v j
    slope_scaled j = ap (λ (y : List ℤ). dot (list_from (c j) 0 (suc (suc (suc n)))) y) (columns_scaled (pos (2 ^ 16)) (pos e) z m)
        ∙ dot_at_scaled (pos e) (list_from (c j) 0 (suc (suc (suc n)))) (columns_at (pos (2 ^ 16)) z m)

    differ : sum_spreads (columns_at big z b) gs -ℤ sum_spreads (columns_at big z base) gs ≡ corner c t +ℤ pos 2 *ℤ (pos e *ℤ g)
    differ = ap₂ (λ p q. p -ℤ q) (spreads_are (columns_at big z b)) (spreads_are (columns_at big z base))
        ∙ corner_change c n base b (scaled big z ++ (big ∷ [])) (matrix_turned gs 1 0) (matrix_turned gs 2 0) (matrix_turned gs 2 1)
        ∙ ap (λ p. corner c t +ℤ pos 2 *ℤ p) (ap₂ (λ p q. t.b1 *ℤ p +ℤ q) (slope_scaled 0) (ap₂ (λ p q. t.b2 *ℤ p +ℤ t.b3 *ℤ q) (slope_scaled 1) (slope_scaled 2))
        ∙ pulled (pos e) t.b1 t.b2 t.b3 (slope_at c n m v 0) (slope_at c n m v 1) (slope_at c n m v 2))
      where
        pulled : (e x y z f g h : ℤ) → x *ℤ (e *ℤ f) +ℤ (y *ℤ (e *ℤ g) +ℤ z *ℤ (e *ℤ h)) ≡ e *ℤ (x *ℤ f +ℤ (y *ℤ g +ℤ z *ℤ h))
        pulled e x y z f g h = same_by (e ∷ x ∷ y ∷ z ∷ f ∷ g ∷ h ∷ []) (λ e x y z f g h. (x ⊗ (e ⊗ f) ⊕ (y ⊗ (e ⊗ g) ⊕ z ⊗ (e ⊗ h)), e ⊗ (x ⊗ f ⊕ (y ⊗ g ⊕ z ⊗ h)))) refl

    alone : sum_spreads (columns_at (pos 0) z t) gs ≡ corner c t
    alone = spreads_are (columns_at (pos 0) z t) ∙ corner_alone c n t z

    d_one : pos 1 ≤ℤ pos d
    d_one = pos_one d d_from

    e_one : pos 1 ≤ℤ pos e
    e_one = pos_one e e_from

    near : (pos 59 *ℤ corner c t -ℤ (pos 16128 +ℤ pos 256 *ℤ pos k) *ℤ radii_at (pos 0) t (radii gs))
        ≤ℤ (pos 128 *ℤ (pos e *ℤ neg_ℤ g) +ℤ pos e *ℤ pos e *ℤ (pos 4096 *ℤ radii_at (pos (2 ^ 16)) m (radii gs) +ℤ bound.w))
    near = distance (pos d) (pos e) (pos k) (corner c t) g (radii_at (pos 0) t (radii gs)) (radii_at (pos (2 ^ 16)) m (radii gs)) (whole_sum_of_squares (pos d) big z b gs ts)
        (whole_sum_of_squares (pos d) big z base gs ts) u bound.w d_one e_one (pos_one k k_from) better upper bound.sum_share
        (rw (← differ, ← radii_scaled (pos (2 ^ 16)) (pos e) m (radii gs))
        (subst (λ (p : ℤ). (pos d *ℤ pos d *ℤ (pos 64 *ℤ (pos k *ℤ (sum_spreads (columns_at big z b) gs -ℤ sum_spreads (columns_at big z base) gs)) -ℤ pos 5 *ℤ (pos k *ℤ p)
        -ℤ pos 4096 *ℤ (pos k *ℤ radii_at big base (radii gs)) -ℤ (pos 16128 *ℤ pos k +ℤ pos 256 *ℤ (pos k *ℤ pos k)) *ℤ radii_at (pos 0) t (radii gs))
        -ℤ pos 64 *ℤ whole_sum_of_squares (pos d) big z base gs ts)
        ≤ℤ (pos 64 *ℤ (pos k *ℤ (whole_sum_of_squares (pos d) big z b gs ts -ℤ whole_sum_of_squares (pos d) big z base gs ts)))) alone
        (groups_change k (pos d) big z base b gs ts groups fits)))

    s : ℤ
    s = greatest t.b1 t.b2 t.b3

    inside : Within s t.b1 × (Within s t.b2 × Within s t.b3)
    inside = in_greatest t.b1 t.b2 t.b3

    s_from : pos 0 ≤ℤ s
    s_from = from t.b1 s inside.0
      where
        from : (x s : ℤ) → Within s x → pos 0 ≤ℤ s
        from x s h = twice x s h.0 h.1
          where
            twice : (x s : ℤ) → neg_ℤ s ≤ℤ x → x ≤ℤ s → pos 0 ≤ℤ s
            twice x s h k = omega (arith, lins)

    q : ℤ
    q = three_columns (floor_div (pos 59 *ℤ c 0 0 -ℤ (pos 16128 +ℤ pos 256 *ℤ pos k) *ℤ (radii gs).r1) (2 ^ h) -ℤ pos 3)
        (floor_div (pos 59 *ℤ c 1 1 -ℤ (pos 16128 +ℤ pos 256 *ℤ pos k) *ℤ (radii gs).r2) (2 ^ h) -ℤ pos 3)
        (floor_div (pos 59 *ℤ c 2 2 -ℤ (pos 16128 +ℤ pos 256 *ℤ pos k) *ℤ (radii gs).r3) (2 ^ h) -ℤ pos 3)
        (nearest_div (pos 59 *ℤ c 0 1) (2 ^ h)) (nearest_div (pos 59 *ℤ c 0 2) (2 ^ h)) (nearest_div (pos 59 *ℤ c 1 2) (2 ^ h)) t.b1 t.b2 t.b3

    square_small : (bound.mu *ℤ (s *ℤ s)) ≤ℤ (pos e *ℤ (bound.l *ℤ s) +ℤ pos e *ℤ pos e *ℤ bound.s)
    square_small = greatest_distance (pos (2 ^ h)) (pos e) q s g (size (slope_at c n m v 0) +ℤ (size (slope_at c n m v 1) +ℤ size (slope_at c n m v 2))) bound.l bound.s
        (radii_at (pos (2 ^ 16)) m (radii gs)) (pos 59 *ℤ corner c t -ℤ (pos 16128 +ℤ pos 256 *ℤ pos k) *ℤ radii_at (pos 0) t (radii gs)) bound.w bound.mu
        (pos_one (2 ^ h) (pow_pos h)) e_one s_from (greatest_square bound.mu q t.b1 t.b2 t.b3 (bound.curved t.b1 t.b2 t.b3))
        (block_below (2 ^ h) (pos 16128 +ℤ pos 256 *ℤ pos k) c (radii gs) t (pow_pos h)) near
        (slopes_below (slope_at c n m v 0) (slope_at c n m v 1) (slope_at c n m v 2) t.b1 t.b2 t.b3 s inside.0 inside.1.0 inside.1.1) bound.slopes bound.slack

    s_small : s ≤ℤ (pos e *ℤ x)
    s_small = root_below bound.mu bound.l bound.s x (pos e) s bound.mu_one bound.s_from bound.x_one e_one bound.reached square_small
