-- The normal form stays below the sum of squares, for all data in the boxes.
use Rattle.std.proofs.Common.{◌≡◌, ℕ, zero, suc, ◌*◌, ◌/◌, ◌<◌, ◌≤◌, List, [], ◌∷◌, ◌++◌, length, ℤ, pos, negsuc, ◌+ℤ◌, ◌-ℤ◌, ◌*ℤ◌, neg_ℤ, ◌≤ℤ◌, arith, sym, ap, ap₂, ◌∙◌, refl, subst}
use Rattle.whole_math.proofs.Ring.{ko, ◌⊕◌, ◌⊖◌, ◌⊗◌, ng}
use Rattle.whole_math.proofs.Order.{square_nn}
use Rattle.whole_math.proofs.Inequalities.{le_by, both_nn, prod_nn, less_nn, pos_nn, four_squares, same_by, nat}
use Rattle.quadratic_form.proofs.Spread.{perturb, spread_scale, spread_below}
use Rattle.quadratic_form.proofs.Forms.{quad_plus, quad_times, quad_outer}
use Rattle.quadratic_form.specs.Forms.{Column, quad, plus, times, outer}
use Rattle.whole_math.specs.Bounds.{Within}
use Rattle.quadratic_form.specs.Rows.{SignalRow, WholeData, WholeBaseline, SignalGroup, WholeInBoxes, WholeFits, WholeFitsAll, whole_residual, whole_residuals, share, whole_sum_of_squares, coefficients, sum_coefficients, sum_outer, group_matrix, matrix, Radii, no_radii, add_radii, row_radii, radii, diagonal, columns, bounding_form, columns_at, RowsOf, GroupsOf}
use Rattle.whole_math.proofs.Vectors.{len_nonneg, len_tail, len_apart, len_scaled, dot_added, dot_zeros, len_is}
use Rattle.whole_math.specs.Vectors.{len, sum, squared_norm, dot, scaled, added, zeros}
use Rattle.quadratic_form.specs.Spread.{spread}

-- ---- the columns: the integers and the constant
pub dot_tail : (e y : ℤ) (q z : List ℤ) → len q ≡ len z → dot (q ++ (y ∷ [])) (scaled e z ++ (e ∷ [])) ≡ e *ℤ dot q z +ℤ y *ℤ e
dot_tail e y [] [] f = same_by (y ∷ e ∷ []) (λ y e. (y ⊗ e ⊕ nat 0, e ⊗ nat 0 ⊕ y ⊗ e)) refl
dot_tail e y [] (x ∷ z) f = absurd (len_apart (len z) (len_nonneg z) f)
dot_tail e y (k ∷ q) [] f = absurd (len_apart (len q) (len_nonneg q) (sym f))
dot_tail e y (k ∷ q) (x ∷ z) f = ap (λ t. (k *ℤ (e *ℤ x)) +ℤ t) (dot_tail e y q z (len_tail (len q) (len z) f)) ∙ step e k x y (dot q z)
  where
    step : (e k x y r : ℤ) → k *ℤ (e *ℤ x) +ℤ (e *ℤ r +ℤ y *ℤ e) ≡ e *ℤ (k *ℤ x +ℤ r) +ℤ y *ℤ e
    step e k x y r = same_by (k ∷ e ∷ x ∷ r ∷ y ∷ []) (λ k e x r y. (k ⊗ (e ⊗ x) ⊕ (e ⊗ r ⊕ y ⊗ e), e ⊗ (k ⊗ x ⊕ r) ⊕ y ⊗ e)) refl

-- what the data add to the residual of the centres
abbrev pub error : ℤ → ℤ → WholeBaseline → SignalRow → WholeData → ℤ
error d e b r t = (t.y -ℤ d *ℤ r.y) *ℤ e -ℤ ((t.u1 -ℤ d *ℤ r.u1) *ℤ b.b1 +ℤ ((t.u2 -ℤ d *ℤ r.u2) *ℤ b.b2 +ℤ (t.u3 -ℤ d *ℤ r.u3) *ℤ b.b3))

pub split : (d e : ℤ) (z : List ℤ) (b : WholeBaseline) (r : SignalRow) (t : WholeData) → len r.cycles ≡ len z →
    whole_residual d e z b r t ≡ d *ℤ dot (coefficients r) (columns_at e z b) +ℤ error d e b r t
split d e z b r t f = step d e t.y r.y t.u1 r.u1 b.b1 t.u2 r.u2 b.b2 t.u3 r.u3 b.b3 (dot r.cycles z)
    ∙ ap (λ k. d *ℤ (neg_ℤ r.u1 *ℤ b.b1 +ℤ (neg_ℤ r.u2 *ℤ b.b2 +ℤ (neg_ℤ r.u3 *ℤ b.b3 +ℤ k))) +ℤ error d e b r t) (sym (dot_tail e r.y r.cycles z f))
  where
    step : (d e y c p u i q v j s w k m : ℤ)
        → y *ℤ e -ℤ (p *ℤ i +ℤ (q *ℤ j +ℤ s *ℤ k)) +ℤ d *ℤ e *ℤ m ≡ d *ℤ (neg_ℤ u *ℤ i +ℤ (neg_ℤ v *ℤ j +ℤ (neg_ℤ w *ℤ k +ℤ (e *ℤ m +ℤ c *ℤ e))))
        +ℤ ((y -ℤ d *ℤ c) *ℤ e -ℤ ((p -ℤ d *ℤ u) *ℤ i +ℤ ((q -ℤ d *ℤ v) *ℤ j +ℤ (s -ℤ d *ℤ w) *ℤ k)))
    step d e y c p u i q v j s w k m = same_by (y ∷ e ∷ p ∷ i ∷ q ∷ j ∷ s ∷ k ∷ d ∷ m ∷ u ∷ v ∷ w ∷ c ∷ [])
        (λ y e p i q j s k d m u v w c. (
          y ⊗ e ⊖ (p ⊗ i ⊕ (q ⊗ j ⊕ s ⊗ k)) ⊕ d ⊗ e ⊗ m,
          d ⊗ (ng u ⊗ i ⊕ (ng v ⊗ j ⊕ (ng w ⊗ k ⊕ (e ⊗ m ⊕ c ⊗ e)))) ⊕ ((y ⊖ d ⊗ c) ⊗ e ⊖ ((p ⊖ d ⊗ u) ⊗ i ⊕ ((q ⊖ d ⊗ v) ⊗ j ⊕ (s ⊖ d ⊗ w) ⊗ k))),
        )) refl

-- the squares of the radii at the columns
abbrev pub slack : ℤ → WholeBaseline → SignalRow → ℤ
slack e b r = r.ry *ℤ r.ry *ℤ (e *ℤ e) +ℤ (r.ru1 *ℤ r.ru1 *ℤ (b.b1 *ℤ b.b1) +ℤ (r.ru2 *ℤ r.ru2 *ℤ (b.b2 *ℤ b.b2) +ℤ r.ru3 *ℤ r.ru3 *ℤ (b.b3 *ℤ b.b3)))

pub square_within : (m t : ℤ) → Within m t → (t *ℤ t) ≤ℤ (m *ℤ m)
square_within m t h = le_by (t ∷ m ∷ []) (λ t m. (t ⊗ t, m ⊗ m, (t ⊖ ng m) ⊗ (m ⊖ t))) refl (prod_nn (less_nn h.0) (less_nn h.1))

pub reach : (d e : ℤ) (b : WholeBaseline) (r : SignalRow) (t : WholeData) → WholeInBoxes d r t → (error d e b r t *ℤ error d e b r t) ≤ℤ (pos 4 *ℤ (d *ℤ d *ℤ slack e b r))
reach d e b r t h = step d e (t.y -ℤ (d *ℤ r.y)) (t.u1 -ℤ (d *ℤ r.u1)) (t.u2 -ℤ (d *ℤ r.u2)) (t.u3 -ℤ (d *ℤ r.u3)) b.b1 b.b2 b.b3 r.ry r.ru1 r.ru2 r.ru3
    (square_within (d *ℤ r.ry) (t.y -ℤ (d *ℤ r.y)) h.y) (square_within (d *ℤ r.ru1) (t.u1 -ℤ (d *ℤ r.u1)) h.u1)
    (square_within (d *ℤ r.ru2) (t.u2 -ℤ (d *ℤ r.u2)) h.u2) (square_within (d *ℤ r.ru3) (t.u3 -ℤ (d *ℤ r.u3)) h.u3)
  where
    step : (d e y p q s i j k a f g l : ℤ) → (y *ℤ y) ≤ℤ (d *ℤ a *ℤ (d *ℤ a)) → (p *ℤ p) ≤ℤ (d *ℤ f *ℤ (d *ℤ f)) → (q *ℤ q) ≤ℤ (d *ℤ g *ℤ (d *ℤ g)) → (s *ℤ s) ≤ℤ (d *ℤ l *ℤ (d *ℤ l)) →
        ((y *ℤ e -ℤ (p *ℤ i +ℤ (q *ℤ j +ℤ s *ℤ k))) *ℤ (y *ℤ e -ℤ (p *ℤ i +ℤ (q *ℤ j +ℤ s *ℤ k))))
        ≤ℤ (pos 4 *ℤ (d *ℤ d *ℤ (a *ℤ a *ℤ (e *ℤ e) +ℤ (f *ℤ f *ℤ (i *ℤ i) +ℤ (g *ℤ g *ℤ (j *ℤ j) +ℤ l *ℤ l *ℤ (k *ℤ k))))))
    step d e y p q s i j k a f g l h₁ h₂ h₃ h₄ = le_by (y ∷ e ∷ p ∷ i ∷ q ∷ j ∷ s ∷ k ∷ d ∷ a ∷ f ∷ g ∷ l ∷ [])
        (λ y e p i q j s k d a f g l. (
          (y ⊗ e ⊖ (p ⊗ i ⊕ (q ⊗ j ⊕ s ⊗ k))) ⊗ (y ⊗ e ⊖ (p ⊗ i ⊕ (q ⊗ j ⊕ s ⊗ k))),
          nat 4 ⊗ (d ⊗ d ⊗ (a ⊗ a ⊗ (e ⊗ e) ⊕ (f ⊗ f ⊗ (i ⊗ i) ⊕ (g ⊗ g ⊗ (j ⊗ j) ⊕ l ⊗ l ⊗ (k ⊗ k))))),
          nat 4 ⊗ (y ⊗ e ⊗ (y ⊗ e) ⊕ ng (p ⊗ i) ⊗ ng (p ⊗ i) ⊕ ng (q ⊗ j) ⊗ ng (q ⊗ j) ⊕ ng (s ⊗ k) ⊗ ng (s ⊗ k))
              ⊖ (y ⊗ e ⊕ ng (p ⊗ i) ⊕ ng (q ⊗ j) ⊕ ng (s ⊗ k)) ⊗ (y ⊗ e ⊕ ng (p ⊗ i) ⊕ ng (q ⊗ j) ⊕ ng (s ⊗ k)) ⊕ nat 4 ⊗ ((d ⊗ a ⊗ (d ⊗ a) ⊖ y ⊗ y) ⊗ (e ⊗ e)
              ⊕ (d ⊗ f ⊗ (d ⊗ f) ⊖ p ⊗ p) ⊗ (i ⊗ i) ⊕ ((d ⊗ g ⊗ (d ⊗ g) ⊖ q ⊗ q) ⊗ (j ⊗ j) ⊕ (d ⊗ l ⊗ (d ⊗ l) ⊖ s ⊗ s) ⊗ (k ⊗ k))),
        )) refl
        (both_nn (less_nn (four_squares (y *ℤ e) (neg_ℤ (p *ℤ i)) (neg_ℤ (q *ℤ j)) (neg_ℤ (s *ℤ k))))
        (prod_nn (pos_nn 4) (both_nn (both_nn (prod_nn (less_nn h₁) (square_nn e)) (prod_nn (less_nn h₂) (square_nn i)))
        (both_nn (prod_nn (less_nn h₃) (square_nn j)) (prod_nn (less_nn h₄) (square_nn k))))))

-- ---- the rows of a group
abbrev pub values : List ℤ → List SignalRow → List ℤ
values x [] = []
values x (r ∷ rs) = dot (coefficients r) x ∷ values x rs

abbrev pub errors : ℤ → ℤ → WholeBaseline → List SignalRow → List WholeData → List ℤ
errors d e b [] ts = []
errors d e b (r ∷ rs) [] = []
errors d e b (r ∷ rs) (t ∷ ts) = error d e b r t ∷ errors d e b rs ts

abbrev pub slacks : ℤ → WholeBaseline → List SignalRow → ℤ
slacks e b [] = pos 0
slacks e b (r ∷ rs) = slack e b r +ℤ slacks e b rs

pub split_all : (d e : ℤ) (z : List ℤ) (b : WholeBaseline) (rs : List SignalRow) (ts : List WholeData) → WholeFits d rs ts → RowsOf (len z) rs →
    whole_residuals d e z b rs ts ≡ added (scaled d (values (columns_at e z b) rs)) (errors d e b rs ts)
split_all d e z b [] [] h k = refl
split_all d e z b [] (t ∷ ts) h k = absurd h
split_all d e z b (r ∷ rs) [] h k = absurd h
split_all d e z b (r ∷ rs) (t ∷ ts) h k = ap₂ (λ x s. x ∷ s) (split d e z b r t k.0) (split_all d e z b rs ts h.1 k.1)

pub errors_len : (d e : ℤ) (b : WholeBaseline) (x : List ℤ) (rs : List SignalRow) (ts : List WholeData) → WholeFits d rs ts → len (scaled d (values x rs)) ≡ len (errors d e b rs ts)
errors_len d e b x [] [] h = refl
errors_len d e b x [] (t ∷ ts) h = absurd h
errors_len d e b x (r ∷ rs) [] h = absurd h
errors_len d e b x (r ∷ rs) (t ∷ ts) h = ap (λ n. pos 1 +ℤ n) (errors_len d e b x rs ts h.1)

pub values_len : (x : List ℤ) (rs : List SignalRow) → len (values x rs) ≡ len rs
values_len x [] = refl
values_len x (r ∷ rs) = ap (λ n. pos 1 +ℤ n) (values_len x rs)

pub errors_sumsq : (d e : ℤ) (b : WholeBaseline) (rs : List SignalRow) (ts : List WholeData) → WholeFits d rs ts → squared_norm (errors d e b rs ts) ≤ℤ (pos 4 *ℤ (d *ℤ d *ℤ slacks e b rs))
errors_sumsq d e b [] [] h = le_by (d ∷ []) (λ d. (nat 0, nat 4 ⊗ (d ⊗ d ⊗ nat 0), nat 0 ⊗ nat 0)) refl (square_nn (pos 0))
errors_sumsq d e b [] (t ∷ ts) h = absurd h
errors_sumsq d e b (r ∷ rs) [] h = absurd h
errors_sumsq d e b (r ∷ rs) (t ∷ ts) h = step d (error d e b r t *ℤ error d e b r t) (slack e b r) (squared_norm (errors d e b rs ts)) (slacks e b rs)
    (reach d e b r t h.0) (errors_sumsq d e b rs ts h.1)
  where
    step : (d i s j t : ℤ) → i ≤ℤ (pos 4 *ℤ (d *ℤ d *ℤ s)) → j ≤ℤ (pos 4 *ℤ (d *ℤ d *ℤ t)) → (i +ℤ j) ≤ℤ (pos 4 *ℤ (d *ℤ d *ℤ (s +ℤ t)))
    step d i s j t h k = le_by (i ∷ j ∷ d ∷ s ∷ t ∷ []) (λ i j d s t. (i ⊕ j, nat 4 ⊗ (d ⊗ d ⊗ (s ⊕ t)), nat 4 ⊗ (d ⊗ d ⊗ s) ⊖ i ⊕ (nat 4 ⊗ (d ⊗ d ⊗ t) ⊖ j))) refl (both_nn (less_nn h) (less_nn k))

-- ---- the matrix at x
quad_zeros : (n : ℕ) (x : List ℤ) → quad (diagonal (zeros n)) x ≡ pos 0
quad_zeros zero x = refl
quad_zeros (suc n) [] = refl
quad_zeros (suc n) (x ∷ v) = ap₂ (λ s t. pos 0 *ℤ (x *ℤ x) +ℤ pos 2 *ℤ (x *ℤ s) +ℤ t) (dot_zeros (length (zeros n)) v) (quad_zeros n v)
    ∙ (same_by (x ∷ []) (λ x. (nat 0 ⊗ (x ⊗ x) ⊕ nat 2 ⊗ (x ⊗ nat 0) ⊕ nat 0, nat 0)) refl)

sum_values : (i : ℕ) (x : List ℤ) (rs : List SignalRow) → dot (sum_coefficients i rs) x ≡ sum (values x rs)
sum_values i x [] = dot_zeros (columns i) x
sum_values i x (r ∷ rs) = dot_added (coefficients r) (sum_coefficients i rs) x ∙ ap (λ t. dot (coefficients r) x +ℤ t) (sum_values i x rs)

sumsq_values : (i : ℕ) (x : List ℤ) (rs : List SignalRow) → quad (sum_outer i rs) x ≡ squared_norm (values x rs)
sumsq_values i x [] = quad_zeros (columns i) x
sumsq_values i x (r ∷ rs) = quad_plus (outer (coefficients r)) (sum_outer i rs) x ∙ ap₂ (λ s t. s +ℤ t) (quad_outer (coefficients r) x) (sumsq_values i x rs)

-- at one group's matrix
group_at : (i : ℕ) (x : List ℤ) (g : SignalGroup) → quad (group_matrix i g) x ≡ share g *ℤ spread (values x g.rows)
group_at i x g = quad_times (share g) (plus (times n a) (times (negsuc 0) (outer c))) x ∙ ap (λ z. share g *ℤ z)
    (quad_plus (times n a) (times (negsuc 0) (outer c)) x
    ∙ ap₂ (λ s t. s +ℤ t) (quad_times n a x ∙ ap₂ (λ s t. s *ℤ t) (sym (values_len x g.rows)) (sumsq_values i x g.rows))
    (quad_times (negsuc 0) (outer c) x ∙ ap (λ z. negsuc 0 *ℤ z) (quad_outer c x ∙ ap (λ z. z *ℤ z) (sum_values i x g.rows)))
    ∙ step (len (values x g.rows) *ℤ squared_norm (values x g.rows)) (sum (values x g.rows)))
  where
    n : ℤ
    n = len g.rows

    a : List Column
    a = sum_outer i g.rows

    c : List ℤ
    c = sum_coefficients i g.rows

    step : (p s : ℤ) → p +ℤ negsuc 0 *ℤ (s *ℤ s) ≡ p -ℤ s *ℤ s
    step p s = same_by (p ∷ s ∷ []) (λ p s. (p ⊕ ko (negsuc 0) ⊗ (s ⊗ s), p ⊖ s ⊗ s)) refl

abbrev pub sum_spreads : List ℤ → List SignalGroup → ℤ
sum_spreads x [] = pos 0
sum_spreads x (g ∷ gs) = share g *ℤ spread (values x g.rows) +ℤ sum_spreads x gs

-- the matrix at the columns is the sum of squares at the centres
pub matrix_at_centres : (i : ℕ) (x : List ℤ) (gs : List SignalGroup) → quad (matrix i gs) x ≡ sum_spreads x gs
matrix_at_centres i x [] = quad_zeros (columns i) x
matrix_at_centres i x (g ∷ gs) = quad_plus (group_matrix i g) (matrix i gs) x ∙ ap₂ (λ s t. s +ℤ t) (group_at i x g) (matrix_at_centres i x gs)

-- ---- 360360 / n
whole : (n : ℕ) → 0 < n → n ≤ 15 → (360360 / n) * n ≡ 360360
whole zero h k = absurd (omega arith)
whole (suc zero) h k = refl
whole (suc (suc zero)) h k = refl
whole (suc (suc (suc zero))) h k = refl
whole (suc (suc (suc (suc zero)))) h k = refl
whole (suc (suc (suc (suc (suc zero))))) h k = refl
whole (suc (suc (suc (suc (suc (suc zero)))))) h k = refl
whole (suc (suc (suc (suc (suc (suc (suc zero))))))) h k = refl
whole (suc (suc (suc (suc (suc (suc (suc (suc zero)))))))) h k = refl
whole (suc (suc (suc (suc (suc (suc (suc (suc (suc zero))))))))) h k = refl
whole (suc (suc (suc (suc (suc (suc (suc (suc (suc (suc zero)))))))))) h k = refl
whole (suc (suc (suc (suc (suc (suc (suc (suc (suc (suc (suc zero))))))))))) h k = refl
whole (suc (suc (suc (suc (suc (suc (suc (suc (suc (suc (suc (suc zero)))))))))))) h k = refl
whole (suc (suc (suc (suc (suc (suc (suc (suc (suc (suc (suc (suc (suc zero))))))))))))) h k = refl
whole (suc (suc (suc (suc (suc (suc (suc (suc (suc (suc (suc (suc (suc (suc zero)))))))))))))) h k = refl
whole (suc (suc (suc (suc (suc (suc (suc (suc (suc (suc (suc (suc (suc (suc (suc zero))))))))))))))) h k = refl
whole (suc (suc (suc (suc (suc (suc (suc (suc (suc (suc (suc (suc (suc (suc (suc (suc n)))))))))))))))) h k = absurd (omega arith)

pub share_is : (g : SignalGroup) → 0 < length g.rows → length g.rows ≤ 15 → share g *ℤ len g.rows ≡ pos 360360 *ℤ g.weight
share_is g h k = rw (len_is g.rows) (step (pos (360360 / length g.rows)) (pos (length g.rows)) g.weight ∙ ap (λ z. pos z *ℤ g.weight) (whole (length g.rows) h k))
  where
    step : (f n w : ℤ) → f *ℤ w *ℤ n ≡ f *ℤ n *ℤ w
    step f n w = same_by (f ∷ w ∷ n ∷ []) (λ f w n. (f ⊗ w ⊗ n, f ⊗ n ⊗ w)) refl

-- ---- one group
group_below : (d e : ℤ) (z : List ℤ) (b : WholeBaseline) (g : SignalGroup) (ts : List WholeData) →
    0 < length g.rows → length g.rows ≤ 15 → pos 0 ≤ℤ g.weight → RowsOf (len z) g.rows → WholeFits d g.rows ts →
    (d *ℤ d *ℤ (pos 63 *ℤ (share g *ℤ spread (values (columns_at e z b) g.rows)) -ℤ pos 16128 *ℤ (pos 360360 *ℤ g.weight *ℤ slacks e b g.rows)))
    ≤ℤ (pos 64 *ℤ (share g *ℤ spread (whole_residuals d e z b g.rows ts)))
group_below d e z b g ts h k w o f = rw (split_all d e z b g.rows ts f o)
    (step d (share g) g.weight (spread (added (scaled d v) q)) (spread (scaled d v)) (spread v) (spread q) (len q) (squared_norm q) (slacks e b g.rows)
    (prod_nn (pos_nn (360360 / length g.rows)) w) (len_nonneg q)
    (ap (λ n. share g *ℤ n) (sym (errors_len d e b x g.rows ts f) ∙ len_scaled d v ∙ values_len x g.rows) ∙ share_is g h k)
    (perturb (scaled d v) q (errors_len d e b x g.rows ts f)) (spread_scale d v) (spread_below q) (errors_sumsq d e b g.rows ts f))
  where
    x : List ℤ
    x = columns_at e z b

    v : List ℤ
    v = values x g.rows

    q : List ℤ
    q = errors d e b g.rows ts

    step : (d f w u s v t n q l : ℤ) → pos 0 ≤ℤ f → pos 0 ≤ℤ n → f *ℤ n ≡ pos 360360 *ℤ w → (pos 63 *ℤ s -ℤ pos 4032 *ℤ t) ≤ℤ (pos 64 *ℤ u) →
        s ≡ d *ℤ d *ℤ v → t ≤ℤ (n *ℤ q) → q ≤ℤ (pos 4 *ℤ (d *ℤ d *ℤ l)) →
        (d *ℤ d *ℤ (pos 63 *ℤ (f *ℤ v) -ℤ pos 16128 *ℤ (pos 360360 *ℤ w *ℤ l))) ≤ℤ (pos 64 *ℤ (f *ℤ u))
    step d f w u s v t n q l h₀ h₁ e₁ h₂ e₂ h₃ h₄ = rw (← e₁)
        (le_by (d ∷ f ∷ v ∷ n ∷ l ∷ u ∷ t ∷ q ∷ []) (λ d f v n l u t q. (
          d ⊗ d ⊗ (nat 63 ⊗ (f ⊗ v) ⊖ nat 16128 ⊗ (f ⊗ n ⊗ l)),
          nat 64 ⊗ (f ⊗ u),
          f ⊗ (nat 64 ⊗ u ⊖ (nat 63 ⊗ (d ⊗ d ⊗ v) ⊖ nat 4032 ⊗ t)) ⊕ nat 4032 ⊗ f ⊗ (n ⊗ q ⊖ t) ⊕ nat 4032 ⊗ f ⊗ n ⊗ (nat 4 ⊗ (d ⊗ d ⊗ l) ⊖ q),
        )) refl
        (both_nn (both_nn (prod_nn h₀ (less_nn (subst (λ (z : ℤ). (pos 63 *ℤ z -ℤ pos 4032 *ℤ t) ≤ℤ (pos 64 *ℤ u)) e₂ h₂)))
        (prod_nn (prod_nn (pos_nn 4032) h₀) (less_nn h₃))) (prod_nn (prod_nn (prod_nn (pos_nn 4032) h₀) h₁) (less_nn h₄))))

-- ---- all groups
abbrev pub radii_at : ℤ → WholeBaseline → Radii → ℤ
radii_at e b r = r.r1 *ℤ (b.b1 *ℤ b.b1) +ℤ (r.r2 *ℤ (b.b2 *ℤ b.b2) +ℤ (r.r3 *ℤ (b.b3 *ℤ b.b3) +ℤ r.ry *ℤ (e *ℤ e)))

pub add_radii_at : (e : ℤ) (b : WholeBaseline) (p q : Radii) → radii_at e b (add_radii p q) ≡ radii_at e b p +ℤ radii_at e b q
add_radii_at e b p q = step p.r1 p.r2 p.r3 p.ry q.r1 q.r2 q.r3 q.ry (b.b1 *ℤ b.b1) (b.b2 *ℤ b.b2) (b.b3 *ℤ b.b3) (e *ℤ e)
  where
    step : (p q r s i j k l a f g h : ℤ) → (p +ℤ i) *ℤ a +ℤ ((q +ℤ j) *ℤ f +ℤ ((r +ℤ k) *ℤ g +ℤ (s +ℤ l) *ℤ h)) ≡ p *ℤ a +ℤ (q *ℤ f +ℤ (r *ℤ g +ℤ s *ℤ h)) +ℤ (i *ℤ a +ℤ (j *ℤ f +ℤ (k *ℤ g +ℤ l *ℤ h)))
    step p q r s i j k l a f g h = same_by (p ∷ i ∷ a ∷ q ∷ j ∷ f ∷ r ∷ k ∷ g ∷ s ∷ l ∷ h ∷ []) (λ p i a q j f r k g s l h.
        ((p ⊕ i) ⊗ a ⊕ ((q ⊕ j) ⊗ f ⊕ ((r ⊕ k) ⊗ g ⊕ (s ⊕ l) ⊗ h)), p ⊗ a ⊕ (q ⊗ f ⊕ (r ⊗ g ⊕ s ⊗ h)) ⊕ (i ⊗ a ⊕ (j ⊗ f ⊕ (k ⊗ g ⊕ l ⊗ h))))) refl

pub none_at : (e : ℤ) (b : WholeBaseline) → radii_at e b no_radii ≡ pos 0
none_at e b = step (b.b1 *ℤ b.b1) (b.b2 *ℤ b.b2) (b.b3 *ℤ b.b3) (e *ℤ e)
  where
    step : (a f g h : ℤ) → pos 0 *ℤ a +ℤ (pos 0 *ℤ f +ℤ (pos 0 *ℤ g +ℤ pos 0 *ℤ h)) ≡ pos 0
    step a f g h = same_by (a ∷ f ∷ g ∷ h ∷ []) (λ a f g h. (nat 0 ⊗ a ⊕ (nat 0 ⊗ f ⊕ (nat 0 ⊗ g ⊕ nat 0 ⊗ h)), nat 0)) refl

pub row_radii_at : (e : ℤ) (b : WholeBaseline) (w : ℤ) (rs : List SignalRow) → radii_at e b (row_radii w rs) ≡ pos 360360 *ℤ w *ℤ slacks e b rs
row_radii_at e b w [] = none_at e b ∙ (same_by (w ∷ []) (λ w. (nat 0, nat 360360 ⊗ w ⊗ nat 0)) refl)
row_radii_at e b w (r ∷ rs) = add_radii_at e b (record {
  r1 = pos 360360 *ℤ w *ℤ (r.ru1 *ℤ r.ru1);
  r2 = pos 360360 *ℤ w *ℤ (r.ru2 *ℤ r.ru2);
  r3 = pos 360360 *ℤ w *ℤ (r.ru3 *ℤ r.ru3);
  ry = pos 360360 *ℤ w *ℤ (r.ry *ℤ r.ry);
}) (row_radii w rs)
    ∙ ap₂ (λ s t. s +ℤ t) (step w (r.ru1 *ℤ r.ru1) (r.ru2 *ℤ r.ru2) (r.ru3 *ℤ r.ru3) (r.ry *ℤ r.ry) (b.b1 *ℤ b.b1) (b.b2 *ℤ b.b2) (b.b3 *ℤ b.b3) (e *ℤ e)) (row_radii_at e b w rs)
    ∙ last w (slack e b r) (slacks e b rs)
  where
    step : (w p q r s a f g h : ℤ) → pos 360360 *ℤ w *ℤ p *ℤ a +ℤ (pos 360360 *ℤ w *ℤ q *ℤ f +ℤ (pos 360360 *ℤ w *ℤ r *ℤ g +ℤ pos 360360 *ℤ w *ℤ s *ℤ h))
        ≡ pos 360360 *ℤ w *ℤ (s *ℤ h +ℤ (p *ℤ a +ℤ (q *ℤ f +ℤ r *ℤ g)))
    step w p q r s a f g h = same_by (w ∷ p ∷ a ∷ q ∷ f ∷ r ∷ g ∷ s ∷ h ∷ []) (λ w p a q f r g s h. (
      nat 360360 ⊗ w ⊗ p ⊗ a
          ⊕ (nat 360360 ⊗ w ⊗ q ⊗ f ⊕ (nat 360360 ⊗ w ⊗ r ⊗ g ⊕ nat 360360 ⊗ w ⊗ s ⊗ h)),
      nat 360360 ⊗ w ⊗ (s ⊗ h ⊕ (p ⊗ a ⊕ (q ⊗ f ⊕ r ⊗ g))),
    )) refl

    last : (w s t : ℤ) → pos 360360 *ℤ w *ℤ s +ℤ pos 360360 *ℤ w *ℤ t ≡ pos 360360 *ℤ w *ℤ (s +ℤ t)
    last w s t = same_by (w ∷ s ∷ t ∷ []) (λ w s t. (nat 360360 ⊗ w ⊗ s ⊕ nat 360360 ⊗ w ⊗ t, nat 360360 ⊗ w ⊗ (s ⊕ t))) refl

-- the own entry of the constant alone
tail_at : (e k : ℤ) (z : List ℤ) → quad (diagonal (zeros (length z) ++ (k ∷ []))) (scaled e z ++ (e ∷ [])) ≡ k *ℤ (e *ℤ e)
tail_at e k [] = same_by (k ∷ e ∷ []) (λ k e. (k ⊗ (e ⊗ e) ⊕ nat 2 ⊗ (e ⊗ nat 0) ⊕ nat 0, k ⊗ (e ⊗ e))) refl
tail_at e k (x ∷ z) = ap₂ (λ s t. pos 0 *ℤ (e *ℤ x *ℤ (e *ℤ x)) +ℤ pos 2 *ℤ (e *ℤ x *ℤ s) +ℤ t) (dot_zeros (length (zeros (length z) ++ (k ∷ []))) (scaled e z ++ (e ∷ []))) (tail_at e k z)
    ∙ (same_by (e ∷ x ∷ k ∷ []) (λ e x k. (nat 0 ⊗ (e ⊗ x ⊗ (e ⊗ x)) ⊕ nat 2 ⊗ (e ⊗ x ⊗ nat 0) ⊕ k ⊗ (e ⊗ e), k ⊗ (e ⊗ e))) refl)

bounding_form_at : (e : ℤ) (z : List ℤ) (b : WholeBaseline) (c : List Column) (r : Radii) →
    quad (bounding_form (length z) c r) (columns_at e z b) ≡ pos 63 *ℤ quad c (columns_at e z b) -ℤ pos 16128 *ℤ radii_at e b r
bounding_form_at e z b c r = quad_plus (times (pos 63) c) (diagonal w1) (columns_at e z b)
    ∙ ap₂ (λ s t. s +ℤ t) (quad_times (pos 63) c (columns_at e z b))
    (ap₂ (λ s t. negsuc 16127 *ℤ r.r1 *ℤ (b.b1 *ℤ b.b1) +ℤ pos 2 *ℤ (b.b1 *ℤ s) +ℤ t) (dot_zeros (length w2) (b.b2 ∷ (b.b3 ∷ v)))
    (ap₂ (λ s t. negsuc 16127 *ℤ r.r2 *ℤ (b.b2 *ℤ b.b2) +ℤ pos 2 *ℤ (b.b2 *ℤ s) +ℤ t) (dot_zeros (length w3) (b.b3 ∷ v))
    (ap₂ (λ s t. negsuc 16127 *ℤ r.r3 *ℤ (b.b3 *ℤ b.b3) +ℤ pos 2 *ℤ (b.b3 *ℤ s) +ℤ t) (dot_zeros (length w4) v) (tail_at e (negsuc 16127 *ℤ r.ry) z))))
    ∙ step (pos 63 *ℤ quad c (columns_at e z b)) r.r1 r.r2 r.r3 r.ry b.b1 b.b2 b.b3 e
  where
    step : (q p r s t i j k e : ℤ) → q +ℤ (negsuc 16127 *ℤ p *ℤ (i *ℤ i) +ℤ pos 2 *ℤ (i *ℤ pos 0) +ℤ (negsuc 16127 *ℤ r *ℤ (j *ℤ j)
        +ℤ pos 2 *ℤ (j *ℤ pos 0) +ℤ (negsuc 16127 *ℤ s *ℤ (k *ℤ k) +ℤ pos 2 *ℤ (k *ℤ pos 0) +ℤ negsuc 16127 *ℤ t *ℤ (e *ℤ e))))
        ≡ q -ℤ pos 16128 *ℤ (p *ℤ (i *ℤ i) +ℤ (r *ℤ (j *ℤ j) +ℤ (s *ℤ (k *ℤ k) +ℤ t *ℤ (e *ℤ e))))
    step q p r s t i j k e = same_by (q ∷ p ∷ i ∷ r ∷ j ∷ s ∷ k ∷ t ∷ e ∷ [])
        (λ q p i r j s k t e. (
          q ⊕ (ko (negsuc 16127) ⊗ p ⊗ (i ⊗ i) ⊕ nat 2 ⊗ (i ⊗ nat 0) ⊕ (ko (negsuc 16127) ⊗ r ⊗ (j ⊗ j) ⊕ nat 2 ⊗ (j ⊗ nat 0)
              ⊕ (ko (negsuc 16127) ⊗ s ⊗ (k ⊗ k) ⊕ nat 2 ⊗ (k ⊗ nat 0) ⊕ ko (negsuc 16127) ⊗ t ⊗ (e ⊗ e)))),
          q ⊖ nat 16128 ⊗ (p ⊗ (i ⊗ i) ⊕ (r ⊗ (j ⊗ j) ⊕ (s ⊗ (k ⊗ k) ⊕ t ⊗ (e ⊗ e)))),
        )) refl

    v : List ℤ
    v = scaled e z ++ (e ∷ [])

    w4 : List ℤ
    w4 = zeros (length z) ++ ((negsuc 16127 *ℤ r.ry) ∷ [])

    w3 : List ℤ
    w3 = (negsuc 16127 *ℤ r.r3) ∷ w4

    w2 : List ℤ
    w2 = (negsuc 16127 *ℤ r.r2) ∷ w3

    w1 : List ℤ
    w1 = (negsuc 16127 *ℤ r.r1) ∷ w2

groups_below : (d e : ℤ) (z : List ℤ) (b : WholeBaseline) (gs : List SignalGroup) (ts : List (List WholeData)) → GroupsOf (len z) gs → WholeFitsAll d gs ts →
    (d *ℤ d *ℤ (pos 63 *ℤ sum_spreads (columns_at e z b) gs -ℤ pos 16128 *ℤ radii_at e b (radii gs))) ≤ℤ (pos 64 *ℤ whole_sum_of_squares d e z b gs ts)
groups_below d e z b [] [] h f = rw (none_at e b) (le_by (d ∷ []) (λ d. (d ⊗ d ⊗ (nat 63 ⊗ nat 0 ⊖ nat 16128 ⊗ nat 0), nat 64 ⊗ nat 0, nat 0 ⊗ nat 0)) refl (square_nn (pos 0)))
groups_below d e z b [] (t ∷ ts) h f = absurd f
groups_below d e z b (g ∷ gs) [] h f = absurd f
groups_below d e z b (g ∷ gs) (t ∷ ts) h f = rw (add_radii_at e b (row_radii g.weight g.rows) (radii gs), row_radii_at e b g.weight g.rows)
    (step d (share g *ℤ spread (values (columns_at e z b) g.rows)) (pos 360360 *ℤ g.weight *ℤ slacks e b g.rows) (share g *ℤ spread (whole_residuals d e z b g.rows t))
    (sum_spreads (columns_at e z b) gs) (radii_at e b (radii gs)) (whole_sum_of_squares d e z b gs ts)
    (group_below d e z b g t h.0 h.1 h.2 h.3 f.0) (groups_below d e z b gs ts h.4 f.1))
  where
    step : (d p q r s t u : ℤ) → (d *ℤ d *ℤ (pos 63 *ℤ p -ℤ pos 16128 *ℤ q)) ≤ℤ (pos 64 *ℤ r) → (d *ℤ d *ℤ (pos 63 *ℤ s -ℤ pos 16128 *ℤ t)) ≤ℤ (pos 64 *ℤ u)
        → (d *ℤ d *ℤ (pos 63 *ℤ (p +ℤ s) -ℤ pos 16128 *ℤ (q +ℤ t))) ≤ℤ (pos 64 *ℤ (r +ℤ u))
    step d p q r s t u h k = le_by (d ∷ p ∷ s ∷ q ∷ t ∷ r ∷ u ∷ []) (λ d p s q t r u. (
      d ⊗ d ⊗ (nat 63 ⊗ (p ⊕ s) ⊖ nat 16128 ⊗ (q ⊕ t)),
      nat 64 ⊗ (r ⊕ u),
      nat 64 ⊗ r ⊖ d ⊗ d ⊗ (nat 63 ⊗ p ⊖ nat 16128 ⊗ q) ⊕ (nat 64 ⊗ u ⊖ d ⊗ d ⊗ (nat 63 ⊗ s ⊖ nat 16128 ⊗ t)),
    )) refl (both_nn (less_nn h) (less_nn k))

-- for all data in the boxes, over d, all baselines over e and all integers z
pub bounding_form_below : (d e : ℤ) (z : List ℤ) (b : WholeBaseline) (gs : List SignalGroup) (ts : List (List WholeData)) → GroupsOf (len z) gs → WholeFitsAll d gs ts →
    (d *ℤ d *ℤ quad (bounding_form (length z) (matrix (length z) gs) (radii gs)) (columns_at e z b)) ≤ℤ (pos 64 *ℤ whole_sum_of_squares d e z b gs ts)
bounding_form_below d e z b gs ts h f = rw (bounding_form_at e z b (matrix (length z) gs) (radii gs), matrix_at_centres (length z) (columns_at e z b) gs) (groups_below d e z b gs ts h f)
