-- How the sum of squares changes from one baseline to another: for all data in the boxes nearly as at their centres.
use Rattle.std.proofs.Common.{◌≡◌, ℕ, ◌<◌, ◌≤◌, List, [], ◌∷◌, length, ℤ, pos, ◌+ℤ◌, ◌-ℤ◌, ◌*ℤ◌, neg_ℤ, ◌≤ℤ◌, sym, ap, ap₂, ◌∙◌, refl, subst}
use Rattle.whole_math.specs.Vectors.{len, squared_norm, dot, scaled, added}
use Rattle.whole_math.proofs.Ring.{◌⊕◌, ◌⊖◌, ◌⊗◌, ng}
use Rattle.whole_math.proofs.Order.{square_nn}
use Rattle.whole_math.proofs.Inequalities.{le_by, both_nn, prod_nn, less_nn, pos_nn, same_by, nat}
use Rattle.whole_math.proofs.Vectors.{len_nonneg, len_scaled, len_added}
use Rattle.quadratic_form.specs.Spread.{spread, cross_spread}
use Rattle.quadratic_form.specs.Rows.{SignalRow, WholeData, WholeBaseline, SignalGroup, WholeFits, WholeFitsAll, whole_residual, whole_residuals, share, whole_sum_of_squares, coefficients, radii, row_radii, columns_at, RowsOf, GroupsOf}
use Rattle.quadratic_form.proofs.Spread.{perturb, spread_shift, spread_scale, spread_below, spread_nonneg}
use Rattle.quadratic_form.proofs.NormalForm.{values, sum_spreads, share_is}
use Rattle.quadratic_form.proofs.UpperSum.{share_nonneg}
use Rattle.vector_bound.proofs.Lists.{cross_left, cross_right, cross_swap, spread_added, scaled_added}
use Rattle.quadratic_form.proofs.NormalForm.{dot_tail, errors, slacks, split_all, errors_len, values_len, errors_sumsq, radii_at, add_radii_at, none_at, row_radii_at}

-- ---- lists: a and w at the centres, q and p what the data add
pub spread_change : (k : ℕ) (a q w p : List ℤ) → len a ≡ len q → len a ≡ len w → len w ≡ len p →
    (pos 64 *ℤ (pos k *ℤ (spread (added a w) -ℤ spread a)) -ℤ pos 5 *ℤ (pos k *ℤ spread w) -ℤ pos 1024 *ℤ (pos k *ℤ spread q) -ℤ pos 64 *ℤ spread (added a q)
    -ℤ (pos 4032 *ℤ pos k +ℤ pos 64 *ℤ (pos k *ℤ pos k)) *ℤ spread p)
    ≤ℤ (pos 64 *ℤ (pos k *ℤ (spread (added (added a q) (added w p)) -ℤ spread (added a q))))
spread_change k a q w p e f g = step (pos k) (spread a) (spread w) (spread q) (spread s) (spread t) (spread p) (cross_spread a w) (cross_spread w q) (cross_spread s p) (cross_spread s t)
    (spread (added a w)) (spread (added s t)) (pos_nn k)
    (spread_added a w f) (spread_added s t s_t) cross
    (perturb w p g)
    (subst (λ (z : ℤ). pos 0 ≤ℤ z) (spread_shift (pos 16) w q w_q) (spread_nonneg (added w (scaled (pos 16) q))))
    (subst (λ (z : ℤ). pos 0 ≤ℤ z) (spread_shift (pos k) s p s_p) (spread_nonneg (added s (scaled (pos k) p))))
  where
    s : List ℤ
    s = added a q

    t : List ℤ
    t = added w p

    s_p : len s ≡ len p
    s_p = len_added a q e ∙ f ∙ g

    s_t : len s ≡ len t
    s_t = len_added a q e ∙ f ∙ sym (len_added w p g)

    w_q : len w ≡ len q
    w_q = sym f ∙ e

    cross : cross_spread s t ≡ (cross_spread a w +ℤ cross_spread w q) +ℤ cross_spread s p
    cross = cross_right s w p ∙ ap (λ z. z +ℤ cross_spread s p) (cross_left a q w e ∙ ap (λ z. cross_spread a w +ℤ z) (cross_swap q w (sym w_q)))

    step : (k a v q s t p x y r m b f : ℤ) → pos 0 ≤ℤ k →
        b ≡ a +ℤ pos 2 *ℤ pos 1 *ℤ x +ℤ pos 1 *ℤ pos 1 *ℤ v → f ≡ s +ℤ pos 2 *ℤ pos 1 *ℤ m +ℤ pos 1 *ℤ pos 1 *ℤ t → m ≡ (x +ℤ y) +ℤ r →
        (pos 63 *ℤ v -ℤ pos 4032 *ℤ p) ≤ℤ (pos 64 *ℤ t) → pos 0 ≤ℤ (v +ℤ pos 2 *ℤ pos 16 *ℤ y +ℤ pos 16 *ℤ pos 16 *ℤ q) → pos 0 ≤ℤ (s +ℤ pos 2 *ℤ k *ℤ r +ℤ k *ℤ k *ℤ p) →
        (pos 64 *ℤ (k *ℤ (b -ℤ a)) -ℤ pos 5 *ℤ (k *ℤ v) -ℤ pos 1024 *ℤ (k *ℤ q) -ℤ pos 64 *ℤ s -ℤ (pos 4032 *ℤ k +ℤ pos 64 *ℤ (k *ℤ k)) *ℤ p) ≤ℤ (pos 64 *ℤ (k *ℤ (f -ℤ s)))
    step k a v q s t p x y r m b f h e₁ e₂ e₃ h₁ h₂ h₃ = rw (e₁, e₂, e₃) (le_by (k ∷ a ∷ v ∷ q ∷ s ∷ t ∷ p ∷ x ∷ y ∷ r ∷ []) (λ k a v q s t p x y r. (
      nat 64 ⊗ (k ⊗ (a ⊕ nat 2 ⊗ nat 1 ⊗ x ⊕ nat 1 ⊗ nat 1 ⊗ v ⊖ a)) ⊖ nat 5 ⊗ (k ⊗ v) ⊖ nat 1024 ⊗ (k ⊗ q) ⊖ nat 64 ⊗ s ⊖ (nat 4032 ⊗ k ⊕ nat 64 ⊗ (k ⊗ k)) ⊗ p,
      nat 64 ⊗ (k ⊗ (s ⊕ nat 2 ⊗ nat 1 ⊗ ((x ⊕ y) ⊕ r) ⊕ nat 1 ⊗ nat 1 ⊗ t ⊖ s)),
      k ⊗ (nat 64 ⊗ t ⊖ (nat 63 ⊗ v ⊖ nat 4032 ⊗ p)) ⊕ (nat 4 ⊗ k ⊗ (v ⊕ nat 2 ⊗ nat 16 ⊗ y ⊕ nat 16 ⊗ nat 16 ⊗ q) ⊕ nat 64 ⊗ (s ⊕ nat 2 ⊗ k ⊗ r ⊕ k ⊗ k ⊗ p)),
    )) refl (both_nn (prod_nn h (less_nn h₁)) (both_nn (prod_nn (prod_nn (pos_nn 4) h) h₂) (prod_nn (pos_nn 64) h₃))))

-- ---- one row
abbrev pub less : WholeBaseline → WholeBaseline → WholeBaseline
less b m = record { b1 = b.b1 -ℤ m.b1; b2 = b.b2 -ℤ m.b2; b3 = b.b3 -ℤ m.b3 }

residual_change : (d e : ℤ) (z : List ℤ) (m b : WholeBaseline) (r : SignalRow) (t : WholeData) →
    whole_residual d e z b r t ≡ whole_residual d e z m r t +ℤ whole_residual d (pos 0) z (less b m) r t
residual_change d e z m b r t = step d e t.y t.u1 t.u2 t.u3 m.b1 m.b2 m.b3 b.b1 b.b2 b.b3 (dot r.cycles z)
  where
    step : (d e y p q s i j k f g h c : ℤ) → y *ℤ e -ℤ (p *ℤ f +ℤ (q *ℤ g +ℤ s *ℤ h)) +ℤ d *ℤ e *ℤ c
        ≡ y *ℤ e -ℤ (p *ℤ i +ℤ (q *ℤ j +ℤ s *ℤ k)) +ℤ d *ℤ e *ℤ c
        +ℤ (y *ℤ pos 0 -ℤ (p *ℤ (f -ℤ i) +ℤ (q *ℤ (g -ℤ j) +ℤ s *ℤ (h -ℤ k))) +ℤ d *ℤ pos 0 *ℤ c)
    step d e y p q s i j k f g h c = same_by (d ∷ e ∷ y ∷ p ∷ q ∷ s ∷ i ∷ j ∷ k ∷ f ∷ g ∷ h ∷ c ∷ []) (λ d e y p q s i j k f g h c. (
      y ⊗ e ⊖ (p ⊗ f ⊕ (q ⊗ g ⊕ s ⊗ h)) ⊕ d ⊗ e ⊗ c,
      y ⊗ e ⊖ (p ⊗ i ⊕ (q ⊗ j ⊕ s ⊗ k)) ⊕ d ⊗ e ⊗ c ⊕ (y ⊗ nat 0 ⊖ (p ⊗ (f ⊖ i) ⊕ (q ⊗ (g ⊖ j) ⊕ s ⊗ (h ⊖ k))) ⊕ d ⊗ nat 0 ⊗ c),
    )) refl

value_open : (e : ℤ) (z : List ℤ) (b : WholeBaseline) (r : SignalRow) → len r.cycles ≡ len z →
    dot (coefficients r) (columns_at e z b) ≡ neg_ℤ r.u1 *ℤ b.b1 +ℤ (neg_ℤ r.u2 *ℤ b.b2 +ℤ (neg_ℤ r.u3 *ℤ b.b3 +ℤ (e *ℤ dot r.cycles z +ℤ r.y *ℤ e)))
value_open e z b r f = ap (λ k. neg_ℤ r.u1 *ℤ b.b1 +ℤ (neg_ℤ r.u2 *ℤ b.b2 +ℤ (neg_ℤ r.u3 *ℤ b.b3 +ℤ k))) (dot_tail e r.y r.cycles z f)

value_change : (e : ℤ) (z : List ℤ) (m b : WholeBaseline) (r : SignalRow) → len r.cycles ≡ len z →
    dot (coefficients r) (columns_at e z b) ≡ dot (coefficients r) (columns_at e z m) +ℤ dot (coefficients r) (columns_at (pos 0) z (less b m))
value_change e z m b r f = value_open e z b r f ∙ step e r.y r.u1 r.u2 r.u3 m.b1 m.b2 m.b3 b.b1 b.b2 b.b3 (dot r.cycles z)
    ∙ sym (ap₂ (λ s t. s +ℤ t) (value_open e z m r f) (value_open (pos 0) z (less b m) r f))
  where
    step : (e y p q s i j k f g h c : ℤ) → neg_ℤ p *ℤ f +ℤ (neg_ℤ q *ℤ g +ℤ (neg_ℤ s *ℤ h +ℤ (e *ℤ c +ℤ y *ℤ e)))
        ≡ neg_ℤ p *ℤ i +ℤ (neg_ℤ q *ℤ j +ℤ (neg_ℤ s *ℤ k +ℤ (e *ℤ c +ℤ y *ℤ e)))
        +ℤ (neg_ℤ p *ℤ (f -ℤ i) +ℤ (neg_ℤ q *ℤ (g -ℤ j) +ℤ (neg_ℤ s *ℤ (h -ℤ k) +ℤ (pos 0 *ℤ c +ℤ y *ℤ pos 0))))
    step e y p q s i j k f g h c = same_by (e ∷ y ∷ p ∷ q ∷ s ∷ i ∷ j ∷ k ∷ f ∷ g ∷ h ∷ c ∷ []) (λ e y p q s i j k f g h c. (
      ng p ⊗ f ⊕ (ng q ⊗ g ⊕ (ng s ⊗ h ⊕ (e ⊗ c ⊕ y ⊗ e))),
      ng p ⊗ i ⊕ (ng q ⊗ j ⊕ (ng s ⊗ k ⊕ (e ⊗ c ⊕ y ⊗ e))) ⊕ (ng p ⊗ (f ⊖ i) ⊕ (ng q ⊗ (g ⊖ j) ⊕ (ng s ⊗ (h ⊖ k) ⊕ (nat 0 ⊗ c ⊕ y ⊗ nat 0)))),
    )) refl

-- ---- the rows of a group
residuals_change : (d e : ℤ) (z : List ℤ) (m b : WholeBaseline) (rs : List SignalRow) (ts : List WholeData) →
    whole_residuals d e z b rs ts ≡ added (whole_residuals d e z m rs ts) (whole_residuals d (pos 0) z (less b m) rs ts)
residuals_change d e z m b [] ts = refl
residuals_change d e z m b (r ∷ rs) [] = refl
residuals_change d e z m b (r ∷ rs) (t ∷ ts) = ap₂ (λ x s. x ∷ s) (residual_change d e z m b r t) (residuals_change d e z m b rs ts)

values_change : (e : ℤ) (z : List ℤ) (m b : WholeBaseline) (rs : List SignalRow) → RowsOf (len z) rs →
    values (columns_at e z b) rs ≡ added (values (columns_at e z m) rs) (values (columns_at (pos 0) z (less b m)) rs)
values_change e z m b [] o = refl
values_change e z m b (r ∷ rs) o = ap₂ (λ x s. x ∷ s) (value_change e z m b r o.0) (values_change e z m b rs o.1)

-- ---- one group
group_change : (k : ℕ) (d e : ℤ) (z : List ℤ) (m b : WholeBaseline) (g : SignalGroup) (ts : List WholeData) →
    0 < length g.rows → length g.rows ≤ 15 → pos 0 ≤ℤ g.weight → RowsOf (len z) g.rows → WholeFits d g.rows ts →
    (d *ℤ d *ℤ (pos 64 *ℤ (pos k *ℤ (share g *ℤ spread (values (columns_at e z b) g.rows) -ℤ share g *ℤ spread (values (columns_at e z m) g.rows)))
    -ℤ pos 5 *ℤ (pos k *ℤ (share g *ℤ spread (values (columns_at (pos 0) z (less b m)) g.rows)))
    -ℤ pos 4096 *ℤ (pos k *ℤ (pos 360360 *ℤ g.weight *ℤ slacks e m g.rows))
    -ℤ (pos 16128 *ℤ pos k +ℤ pos 256 *ℤ (pos k *ℤ pos k)) *ℤ (pos 360360 *ℤ g.weight *ℤ slacks (pos 0) (less b m) g.rows))
    -ℤ pos 64 *ℤ (share g *ℤ spread (whole_residuals d e z m g.rows ts)))
    ≤ℤ (pos 64 *ℤ (pos k *ℤ (share g *ℤ spread (whole_residuals d e z b g.rows ts) -ℤ share g *ℤ spread (whole_residuals d e z m g.rows ts))))
group_change k d e z m b g ts h₁ h₂ h₃ o f = step (pos k) d (share g) g.weight (spread (whole_residuals d e z b g.rows ts)) (spread (whole_residuals d e z m g.rows ts))
    (spread (values (columns_at e z b) g.rows)) (spread v) (spread u) (spread q) (spread p) (len g.rows) (squared_norm q) (squared_norm p) (slacks e m g.rows) (slacks (pos 0) t g.rows)
    (pos_nn k) (share_nonneg g h₃) (len_nonneg g.rows) (share_is g h₁ h₂) main
    (subst (λ (n : ℤ). spread q ≤ℤ (n *ℤ squared_norm q)) q_len (spread_below q)) (errors_sumsq d e m g.rows ts f)
    (subst (λ (n : ℤ). spread p ≤ℤ (n *ℤ squared_norm p)) p_len (spread_below p)) (errors_sumsq d (pos 0) t g.rows ts f)
  where
    t : WholeBaseline
    t = less b m

    v : List ℤ
    v = values (columns_at e z m) g.rows

    u : List ℤ
    u = values (columns_at (pos 0) z t) g.rows

    q : List ℤ
    q = errors d e m g.rows ts

    p : List ℤ
    p = errors d (pos 0) t g.rows ts

    q_len : len q ≡ len g.rows
    q_len = sym (errors_len d e m (columns_at e z m) g.rows ts f) ∙ len_scaled d v ∙ values_len (columns_at e z m) g.rows

    p_len : len p ≡ len g.rows
    p_len = sym (errors_len d (pos 0) t (columns_at (pos 0) z t) g.rows ts f) ∙ len_scaled d u ∙ values_len (columns_at (pos 0) z t) g.rows

    v_u : len (scaled d v) ≡ len (scaled d u)
    v_u = len_scaled d v ∙ values_len (columns_at e z m) g.rows ∙ sym (len_scaled d u ∙ values_len (columns_at (pos 0) z t) g.rows)

    at_move : whole_residuals d e z m g.rows ts ≡ added (scaled d v) q
    at_move = split_all d e z m g.rows ts f o

    at_baseline : whole_residuals d e z b g.rows ts ≡ added (added (scaled d v) q) (added (scaled d u) p)
    at_baseline = residuals_change d e z m b g.rows ts ∙ ap₂ (λ (x y : List ℤ). added x y) at_move (split_all d (pos 0) z t g.rows ts f o)

    both : spread (added (scaled d v) (scaled d u)) ≡ d *ℤ d *ℤ spread (values (columns_at e z b) g.rows)
    both = ap (λ (x : List ℤ). spread x) (sym (scaled_added d v u) ∙ ap (λ (x : List ℤ). scaled d x) (sym (values_change e z m b g.rows o))) ∙ spread_scale d (values (columns_at e z b) g.rows)

    main : (pos 64 *ℤ (pos k *ℤ (d *ℤ d *ℤ spread (values (columns_at e z b) g.rows) -ℤ d *ℤ d *ℤ spread v)) -ℤ pos 5 *ℤ (pos k *ℤ (d *ℤ d *ℤ spread u)) -ℤ pos 1024 *ℤ (pos k *ℤ spread q)
        -ℤ pos 64 *ℤ spread (whole_residuals d e z m g.rows ts) -ℤ (pos 4032 *ℤ pos k +ℤ pos 64 *ℤ (pos k *ℤ pos k)) *ℤ spread p)
        ≤ℤ (pos 64 *ℤ (pos k *ℤ (spread (whole_residuals d e z b g.rows ts) -ℤ spread (whole_residuals d e z m g.rows ts))))
    main = rw (at_move, at_baseline, ← both, ← spread_scale d v, ← spread_scale d u)
        (spread_change k (scaled d v) q (scaled d u) p (errors_len d e m (columns_at e z m) g.rows ts f) v_u (errors_len d (pos 0) t (columns_at (pos 0) z t) g.rows ts f))

    step : (k d f w sb sm vb vm vt q p n x y l r : ℤ) → pos 0 ≤ℤ k → pos 0 ≤ℤ f → pos 0 ≤ℤ n → f *ℤ n ≡ pos 360360 *ℤ w →
        (pos 64 *ℤ (k *ℤ (d *ℤ d *ℤ vb -ℤ d *ℤ d *ℤ vm)) -ℤ pos 5 *ℤ (k *ℤ (d *ℤ d *ℤ vt)) -ℤ pos 1024 *ℤ (k *ℤ q) -ℤ pos 64 *ℤ sm -ℤ (pos 4032 *ℤ k +ℤ pos 64 *ℤ (k *ℤ k)) *ℤ p)
        ≤ℤ (pos 64 *ℤ (k *ℤ (sb -ℤ sm))) →
        q ≤ℤ (n *ℤ x) → x ≤ℤ (pos 4 *ℤ (d *ℤ d *ℤ l)) → p ≤ℤ (n *ℤ y) → y ≤ℤ (pos 4 *ℤ (d *ℤ d *ℤ r)) →
        (d *ℤ d *ℤ (pos 64 *ℤ (k *ℤ (f *ℤ vb -ℤ f *ℤ vm)) -ℤ pos 5 *ℤ (k *ℤ (f *ℤ vt)) -ℤ pos 4096 *ℤ (k *ℤ (pos 360360 *ℤ w *ℤ l))
        -ℤ (pos 16128 *ℤ k +ℤ pos 256 *ℤ (k *ℤ k)) *ℤ (pos 360360 *ℤ w *ℤ r)) -ℤ pos 64 *ℤ (f *ℤ sm)) ≤ℤ (pos 64 *ℤ (k *ℤ (f *ℤ sb -ℤ f *ℤ sm)))
    step k d f w sb sm vb vm vt q p n x y l r i₁ i₂ i₃ e i₄ i₅ i₆ i₇ i₈ = rw (← e)
        (le_by (k ∷ d ∷ f ∷ sb ∷ sm ∷ vb ∷ vm ∷ vt ∷ q ∷ p ∷ n ∷ x ∷ y ∷ l ∷ r ∷ []) (λ k d f sb sm vb vm vt q p n x y l r. (
          d ⊗ d ⊗ (nat 64 ⊗ (k ⊗ (f ⊗ vb ⊖ f ⊗ vm)) ⊖ nat 5 ⊗ (k ⊗ (f ⊗ vt)) ⊖ nat 4096 ⊗ (k ⊗ (f ⊗ n ⊗ l)) ⊖ (nat 16128 ⊗ k ⊕ nat 256 ⊗ (k ⊗ k)) ⊗ (f ⊗ n ⊗ r)) ⊖ nat 64 ⊗ (f ⊗ sm),
          nat 64 ⊗ (k ⊗ (f ⊗ sb ⊖ f ⊗ sm)),
          f ⊗ (nat 64 ⊗ (k ⊗ (sb ⊖ sm))
              ⊖ (nat 64 ⊗ (k ⊗ (d ⊗ d ⊗ vb ⊖ d ⊗ d ⊗ vm)) ⊖ nat 5 ⊗ (k ⊗ (d ⊗ d ⊗ vt)) ⊖ nat 1024 ⊗ (k ⊗ q) ⊖ nat 64 ⊗ sm ⊖ (nat 4032 ⊗ k ⊕ nat 64 ⊗ (k ⊗ k)) ⊗ p))
              ⊕ (nat 1024 ⊗ k ⊗ f ⊗ (n ⊗ x ⊖ q) ⊕ nat 1024 ⊗ k ⊗ f ⊗ n ⊗ (nat 4 ⊗ (d ⊗ d ⊗ l) ⊖ x))
              ⊕ ((nat 4032 ⊗ k ⊕ nat 64 ⊗ (k ⊗ k)) ⊗ f ⊗ (n ⊗ y ⊖ p) ⊕ (nat 4032 ⊗ k ⊕ nat 64 ⊗ (k ⊗ k)) ⊗ f ⊗ n ⊗ (nat 4 ⊗ (d ⊗ d ⊗ r) ⊖ y)),
        )) refl
        (both_nn (both_nn (prod_nn i₂ (less_nn i₄)) (both_nn (prod_nn (prod_nn (prod_nn (pos_nn 1024) i₁) i₂) (less_nn i₅)) (prod_nn (prod_nn (prod_nn (prod_nn (pos_nn 1024) i₁) i₂) i₃) (less_nn i₆))))
        (both_nn (prod_nn (prod_nn twice i₂) (less_nn i₇)) (prod_nn (prod_nn (prod_nn twice i₂) i₃) (less_nn i₈)))))
      where
        twice : pos 0 ≤ℤ (pos 4032 *ℤ k +ℤ pos 64 *ℤ (k *ℤ k))
        twice = both_nn (prod_nn (pos_nn 4032) i₁) (prod_nn (pos_nn 64) (prod_nn i₁ i₁))

-- ---- all groups
pub groups_change : (k : ℕ) (d e : ℤ) (z : List ℤ) (m b : WholeBaseline) (gs : List SignalGroup) (ts : List (List WholeData)) → GroupsOf (len z) gs → WholeFitsAll d gs ts →
    (d *ℤ d *ℤ (pos 64 *ℤ (pos k *ℤ (sum_spreads (columns_at e z b) gs -ℤ sum_spreads (columns_at e z m) gs))
    -ℤ pos 5 *ℤ (pos k *ℤ sum_spreads (columns_at (pos 0) z (less b m)) gs)
    -ℤ pos 4096 *ℤ (pos k *ℤ radii_at e m (radii gs))
    -ℤ (pos 16128 *ℤ pos k +ℤ pos 256 *ℤ (pos k *ℤ pos k)) *ℤ radii_at (pos 0) (less b m) (radii gs))
    -ℤ pos 64 *ℤ whole_sum_of_squares d e z m gs ts)
    ≤ℤ (pos 64 *ℤ (pos k *ℤ (whole_sum_of_squares d e z b gs ts -ℤ whole_sum_of_squares d e z m gs ts)))
groups_change k d e z m b [] [] h f = rw (none_at e m, none_at (pos 0) (less b m)) (le_by (pos k ∷ d ∷ []) (λ k d. (
  d ⊗ d ⊗ (nat 64 ⊗ (k ⊗ (nat 0 ⊖ nat 0)) ⊖ nat 5 ⊗ (k ⊗ nat 0) ⊖ nat 4096 ⊗ (k ⊗ nat 0) ⊖ (nat 16128 ⊗ k ⊕ nat 256 ⊗ (k ⊗ k)) ⊗ nat 0) ⊖ nat 64 ⊗ nat 0,
  nat 64 ⊗ (k ⊗ (nat 0 ⊖ nat 0)),
  nat 0 ⊗ nat 0,
)) refl (square_nn (pos 0)))
groups_change k d e z m b [] (t ∷ ts) h f = absurd f
groups_change k d e z m b (g ∷ gs) [] h f = absurd f
groups_change k d e z m b (g ∷ gs) (t ∷ ts) h f =
    rw (add_radii_at e m (row_radii g.weight g.rows) (radii gs), row_radii_at e m g.weight g.rows, add_radii_at (pos 0) (less b m) (row_radii g.weight g.rows) (radii gs), row_radii_at (pos 0) (less b m) g.weight g.rows)
    (step (pos k) d (share g *ℤ spread (values (columns_at e z b) g.rows)) (share g *ℤ spread (values (columns_at e z m) g.rows)) (share g *ℤ spread (values (columns_at (pos 0) z (less b m)) g.rows))
    (pos 360360 *ℤ g.weight *ℤ slacks e m g.rows) (pos 360360 *ℤ g.weight *ℤ slacks (pos 0) (less b m) g.rows)
    (share g *ℤ spread (whole_residuals d e z b g.rows t)) (share g *ℤ spread (whole_residuals d e z m g.rows t))
    (sum_spreads (columns_at e z b) gs) (sum_spreads (columns_at e z m) gs) (sum_spreads (columns_at (pos 0) z (less b m)) gs) (radii_at e m (radii gs)) (radii_at (pos 0) (less b m) (radii gs))
    (whole_sum_of_squares d e z b gs ts) (whole_sum_of_squares d e z m gs ts)
    (group_change k d e z m b g t h.0 h.1 h.2 h.3 f.0) (groups_change k d e z m b gs ts h.4 f.1))
  where
    step : (k d a c v l r s t a' c' v' l' r' s' t' : ℤ) →
        (d *ℤ d *ℤ (pos 64 *ℤ (k *ℤ (a -ℤ c)) -ℤ pos 5 *ℤ (k *ℤ v) -ℤ pos 4096 *ℤ (k *ℤ l) -ℤ (pos 16128 *ℤ k +ℤ pos 256 *ℤ (k *ℤ k)) *ℤ r) -ℤ pos 64 *ℤ t) ≤ℤ (pos 64 *ℤ (k *ℤ (s -ℤ t))) →
        (d *ℤ d *ℤ (pos 64 *ℤ (k *ℤ (a' -ℤ c')) -ℤ pos 5 *ℤ (k *ℤ v') -ℤ pos 4096 *ℤ (k *ℤ l') -ℤ (pos 16128 *ℤ k +ℤ pos 256 *ℤ (k *ℤ k)) *ℤ r') -ℤ pos 64 *ℤ t') ≤ℤ (pos 64 *ℤ (k *ℤ (s' -ℤ t'))) →
        (d *ℤ d *ℤ (pos 64 *ℤ (k *ℤ (a +ℤ a' -ℤ (c +ℤ c'))) -ℤ pos 5 *ℤ (k *ℤ (v +ℤ v')) -ℤ pos 4096 *ℤ (k *ℤ (l +ℤ l')) -ℤ (pos 16128 *ℤ k +ℤ pos 256 *ℤ (k *ℤ k)) *ℤ (r +ℤ r'))
        -ℤ pos 64 *ℤ (t +ℤ t')) ≤ℤ (pos 64 *ℤ (k *ℤ (s +ℤ s' -ℤ (t +ℤ t'))))
    step k d a c v l r s t a' c' v' l' r' s' t' i j = le_by (k ∷ d ∷ a ∷ c ∷ v ∷ l ∷ r ∷ s ∷ t ∷ a' ∷ c' ∷ v' ∷ l' ∷ r' ∷ s' ∷ t' ∷ []) (λ k d a c v l r s t a' c' v' l' r' s' t'. (
      d ⊗ d ⊗ (nat 64 ⊗ (k ⊗ (a ⊕ a' ⊖ (c ⊕ c'))) ⊖ nat 5 ⊗ (k ⊗ (v ⊕ v')) ⊖ nat 4096 ⊗ (k ⊗ (l ⊕ l')) ⊖ (nat 16128 ⊗ k ⊕ nat 256 ⊗ (k ⊗ k)) ⊗ (r ⊕ r')) ⊖ nat 64 ⊗ (t ⊕ t'),
      nat 64 ⊗ (k ⊗ (s ⊕ s' ⊖ (t ⊕ t'))),
      nat 64 ⊗ (k ⊗ (s ⊖ t)) ⊖ (d ⊗ d ⊗ (nat 64 ⊗ (k ⊗ (a ⊖ c)) ⊖ nat 5 ⊗ (k ⊗ v) ⊖ nat 4096 ⊗ (k ⊗ l) ⊖ (nat 16128 ⊗ k ⊕ nat 256 ⊗ (k ⊗ k)) ⊗ r) ⊖ nat 64 ⊗ t)
          ⊕ (nat 64 ⊗ (k ⊗ (s' ⊖ t')) ⊖ (d ⊗ d ⊗ (nat 64 ⊗ (k ⊗ (a' ⊖ c')) ⊖ nat 5 ⊗ (k ⊗ v') ⊖ nat 4096 ⊗ (k ⊗ l') ⊖ (nat 16128 ⊗ k ⊕ nat 256 ⊗ (k ⊗ k)) ⊗ r') ⊖ nat 64 ⊗ t')),
    )) refl (both_nn (less_nn i) (less_nn j))
