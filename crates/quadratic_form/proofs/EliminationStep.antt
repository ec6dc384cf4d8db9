-- What the first rounding and one step of the elimination give up.
use Rattle.std.proofs.Common.{◌≡◌, ℕ, ◌^◌, ◌-◌, ◌<◌, List, [], ◌∷◌, ℤ, pos, negsuc, ◌+ℤ◌, ◌-ℤ◌, ◌*ℤ◌, neg_ℤ, ◌≤ℤ◌, ◌<ℤ◌, arith, sym, ap, ap₂, ◌∙◌, refl, subst}
use Rattle.std.proofs.lemmas.Int.{ints}
use Rattle.whole_math.proofs.Ring.{ko, ◌⊕◌, ◌⊖◌, ◌⊗◌, ng}
use Rattle.whole_math.proofs.Order.{lins, square_nn}
use Rattle.whole_math.proofs.Rounding.{ceil_least, nearest_close, ceil_close, floor_close}
use Rattle.whole_math.specs.Rounding.{floor_div, ceil_div, nearest_div}
use Rattle.whole_math.proofs.Inequalities.{le_by, both_nn, prod_nn, less_nn, pos_nn, weak, halve, square_share, cancel_square, le_eq, same_by, nat}
use Rattle.quadratic_form.proofs.Spread.{spread_nonneg}
use Rattle.quadratic_form.proofs.Forms.{Close, Above, dominant, quad_plus, quad_times, quad_outer}
use Rattle.quadratic_form.specs.Forms.{Column, Shaped, quad, plus, times, outer}
use Rattle.quadratic_form.specs.Elimination.{nearest_each, rounded, factors, kept, others_after, next}
use Rattle.whole_math.proofs.Vectors.{len_nonneg, len_tail, len_apart, squared_norm_nonneg}
use Rattle.whole_math.specs.Vectors.{len, sum, squared_norm, dot, scaled, added}

-- ---- the first rounding
nearest_each_close : (m : ℕ) (r : List ℤ) → 0 < m → Close (pos m) r (scaled (pos m) (nearest_each m r))
nearest_each_close m [] h = tt
nearest_each_close m (y ∷ r) h = (b.0, weak b.1, nearest_each_close m r h)
  where
    b : (neg_ℤ (pos m) ≤ℤ (pos 2 *ℤ (y -ℤ pos m *ℤ nearest_div y m))) × ((pos 2 *ℤ (y -ℤ pos m *ℤ nearest_div y m)) <ℤ pos m)
    b = nearest_close y m h

rounded_above : (m : ℕ) (n : ℤ) (b : List Column) → 0 < m → Above (pos m) (pos 2 *ℤ (pos m *ℤ n)) b (times (pos m) (rounded m n b))
rounded_above m n [] h = tt
rounded_above m n (c ∷ b) h = (own (pos m) c.own (floor_div c.own m) n (floor_close c.own m h), nearest_each_close m c.others h, rounded_above m n b h)
  where
    own : (m o f n : ℤ) → (m *ℤ f) ≤ℤ o → (pos 2 *ℤ (m *ℤ n)) ≤ℤ (pos 2 *ℤ (o -ℤ m *ℤ (f -ℤ n)))
    own m o f n h = le_by (m ∷ n ∷ o ∷ f ∷ []) (λ m n o f. (nat 2 ⊗ (m ⊗ n), nat 2 ⊗ (o ⊖ m ⊗ (f ⊖ n)), nat 2 ⊗ (o ⊖ m ⊗ f))) refl (prod_nn (pos_nn 2) (less_nn h))

pub rounded_below : (m : ℕ) (n : ℤ) (b : List Column) (x : List ℤ) → 0 < m → len b ≡ len x → len x ≤ℤ n →
    (pos m *ℤ quad (rounded m n b) x) ≤ℤ quad b x
rounded_below m n b x h e k = rw (← quad_times (pos m) (rounded m n b) x)
    (step (pos m) n (len x) (squared_norm x) (quad b x) (quad (times (pos m) (rounded m n b)) x) (pos_nn m) (len_nonneg x) k (squared_norm_nonneg x)
    (dominant (pos m) (pos 2 *ℤ (pos m *ℤ n)) b (times (pos m) (rounded m n b)) x (pos_nn m) (rounded_above m n b h) e))
  where
    step : (m n l t i j : ℤ) → pos 0 ≤ℤ m → pos 0 ≤ℤ l → l ≤ℤ n → pos 0 ≤ℤ t → ((pos 2 *ℤ (m *ℤ n) +ℤ m -ℤ m *ℤ l) *ℤ t) ≤ℤ (pos 2 *ℤ (i -ℤ j)) → j ≤ℤ i
    step m n l t i j h₀ h₁ h₂ h₃ h₄ = halve (le_by (j ∷ i ∷ m ∷ n ∷ l ∷ t ∷ [])
        (λ j i m n l t. (nat 2 ⊗ j, nat 2 ⊗ i, nat 2 ⊗ (i ⊖ j) ⊖ (nat 2 ⊗ (m ⊗ n) ⊕ m ⊖ m ⊗ l) ⊗ t ⊕ m ⊗ (nat 2 ⊗ (n ⊖ l) ⊕ l ⊕ nat 1) ⊗ t)) refl
        (both_nn (less_nn h₄) (prod_nn (prod_nn h₀ (both_nn (both_nn (prod_nn (pos_nn 2) (less_nn h₂)) h₁) (pos_nn 1))) h₃)))

-- ---- the factors
-- K yᵢ - a Lᵢ, times vᵢ
abbrev misses : ℕ → List ℤ → List ℤ → List ℤ
misses a [] v = []
misses a (y ∷ r) [] = []
misses a (y ∷ r) (x ∷ v) = ((y *ℤ pos (2 ^ 30) -ℤ pos a *ℤ nearest_div (y *ℤ pos (2 ^ 30)) a) *ℤ x) ∷ misses a r v

misses_sum : (a : ℕ) (r v : List ℤ) → sum (misses a r v) ≡ pos (2 ^ 30) *ℤ dot r v -ℤ pos a *ℤ dot (factors a r) v
misses_sum a [] v = same_by (pos a ∷ []) (λ a. (nat 0, nat (2 ^ 30) ⊗ nat 0 ⊖ a ⊗ nat 0)) refl
misses_sum a (y ∷ r) [] = same_by (pos a ∷ []) (λ a. (nat 0, nat (2 ^ 30) ⊗ nat 0 ⊖ a ⊗ nat 0)) refl
misses_sum a (y ∷ r) (x ∷ v) = ap (λ s. (y *ℤ pos (2 ^ 30) -ℤ pos a *ℤ nearest_div (y *ℤ pos (2 ^ 30)) a) *ℤ x +ℤ s) (misses_sum a r v)
    ∙ step (pos a) y (nearest_div (y *ℤ pos (2 ^ 30)) a) x (dot r v) (dot (factors a r) v)
  where
    step : (a y q x r l : ℤ) → (y *ℤ pos (2 ^ 30) -ℤ a *ℤ q) *ℤ x +ℤ (pos (2 ^ 30) *ℤ r -ℤ a *ℤ l) ≡ pos (2 ^ 30) *ℤ (y *ℤ x +ℤ r) -ℤ a *ℤ (q *ℤ x +ℤ l)
    step a y q x r l = same_by (y ∷ a ∷ q ∷ x ∷ r ∷ l ∷ []) (λ y a q x r l. ((y ⊗ nat (2 ^ 30) ⊖ a ⊗ q) ⊗ x ⊕ (nat (2 ^ 30) ⊗ r ⊖ a ⊗ l), nat (2 ^ 30) ⊗ (y ⊗ x ⊕ r) ⊖ a ⊗ (q ⊗ x ⊕ l))) refl

misses_len : (a : ℕ) (r v : List ℤ) → len (misses a r v) ≤ℤ len v
misses_len a [] v = len_nonneg v
misses_len a (y ∷ r) [] = len_nonneg {A = ℤ} []
misses_len a (y ∷ r) (x ∷ v) = step (len (misses a r v)) (len v) (misses_len a r v)
  where
    step : (l n : ℤ) → l ≤ℤ n → (pos 1 +ℤ l) ≤ℤ (pos 1 +ℤ n)
    step l n h = omega (arith, lins)

misses_sumsq : (a : ℕ) (r v : List ℤ) → 0 < a → (pos 4 *ℤ squared_norm (misses a r v)) ≤ℤ (pos a *ℤ pos a *ℤ squared_norm v)
misses_sumsq a [] v h = step (pos a) (squared_norm v) (squared_norm_nonneg v)
  where
    step : (a s : ℤ) → pos 0 ≤ℤ s → (pos 4 *ℤ pos 0) ≤ℤ (a *ℤ a *ℤ s)
    step a s h = le_by (a ∷ s ∷ []) (λ a s. (nat 4 ⊗ nat 0, a ⊗ a ⊗ s, a ⊗ a ⊗ s)) refl (prod_nn (square_nn a) h)
misses_sumsq a (y ∷ r) [] h = le_by (pos a ∷ []) (λ a. (nat 4 ⊗ nat 0, a ⊗ a ⊗ nat 0, nat 0 ⊗ nat 0)) refl (square_nn (pos 0))
misses_sumsq a (y ∷ r) (x ∷ v) h = step (pos a) (y *ℤ pos (2 ^ 30) -ℤ pos a *ℤ nearest_div (y *ℤ pos (2 ^ 30)) a) x (squared_norm (misses a r v)) (squared_norm v) b.0 (weak b.1) (misses_sumsq a r v h)
  where
    b : (neg_ℤ (pos a) ≤ℤ (pos 2 *ℤ (y *ℤ pos (2 ^ 30) -ℤ pos a *ℤ nearest_div (y *ℤ pos (2 ^ 30)) a))) × ((pos 2 *ℤ (y *ℤ pos (2 ^ 30) -ℤ pos a *ℤ nearest_div (y *ℤ pos (2 ^ 30)) a)) <ℤ pos a)
    b = nearest_close (y *ℤ pos (2 ^ 30)) a h

    step : (a e x q s : ℤ) → neg_ℤ a ≤ℤ (pos 2 *ℤ e) → (pos 2 *ℤ e) ≤ℤ a → (pos 4 *ℤ q) ≤ℤ (a *ℤ a *ℤ s) → (pos 4 *ℤ (e *ℤ x *ℤ (e *ℤ x) +ℤ q)) ≤ℤ (a *ℤ a *ℤ (x *ℤ x +ℤ s))
    step a e x q s i j ih = le_by (e ∷ x ∷ q ∷ a ∷ s ∷ [])
        (λ e x q a s. (nat 4 ⊗ (e ⊗ x ⊗ (e ⊗ x) ⊕ q), a ⊗ a ⊗ (x ⊗ x ⊕ s), (nat 2 ⊗ e ⊖ ng a) ⊗ (a ⊖ nat 2 ⊗ e) ⊗ (x ⊗ x) ⊕ (a ⊗ a ⊗ s ⊖ nat 4 ⊗ q))) refl
        (both_nn (prod_nn (prod_nn (less_nn i) (less_nn j)) (square_nn x)) (less_nn ih))

-- twice the error of the factors at v is at most √n a |v|
pub factors_close : (a : ℕ) (r v : List ℤ) → 0 < a →
    (pos 4 *ℤ ((pos a *ℤ dot (factors a r) v -ℤ pos (2 ^ 30) *ℤ dot r v) *ℤ (pos a *ℤ dot (factors a r) v -ℤ pos (2 ^ 30) *ℤ dot r v))) ≤ℤ (len v *ℤ (pos a *ℤ pos a *ℤ squared_norm v))
factors_close a r v h = step (pos a) (dot (factors a r) v) (dot r v) (len (misses a r v)) (len v) (squared_norm (misses a r v)) (sum (misses a r v)) (squared_norm v)
    (misses_sum a r v) (len_nonneg (misses a r v)) (misses_len a r v) (squared_norm_nonneg v) (misses_sumsq a r v h) (spread_nonneg (misses a r v))
  where
    step : (a l r i n q t s : ℤ) → t ≡ pos (2 ^ 30) *ℤ r -ℤ a *ℤ l → pos 0 ≤ℤ i → i ≤ℤ n → pos 0 ≤ℤ s → (pos 4 *ℤ q) ≤ℤ (a *ℤ a *ℤ s) → pos 0 ≤ℤ (i *ℤ q -ℤ t *ℤ t) →
        (pos 4 *ℤ ((a *ℤ l -ℤ pos (2 ^ 30) *ℤ r) *ℤ (a *ℤ l -ℤ pos (2 ^ 30) *ℤ r))) ≤ℤ (n *ℤ (a *ℤ a *ℤ s))
    step a l r i n q t s e h₀ h₁ h₂ h₃ h₄ = le_by (a ∷ l ∷ r ∷ n ∷ s ∷ i ∷ q ∷ [])
        (λ a l r n s i q. (
          nat 4 ⊗ ((a ⊗ l ⊖ nat (2 ^ 30) ⊗ r) ⊗ (a ⊗ l ⊖ nat (2 ^ 30) ⊗ r)),
          n ⊗ (a ⊗ a ⊗ s),
          (n ⊖ i) ⊗ (a ⊗ a ⊗ s) ⊕ i ⊗ (a ⊗ a ⊗ s ⊖ nat 4 ⊗ q) ⊕ nat 4 ⊗ (i ⊗ q ⊖ (nat (2 ^ 30) ⊗ r ⊖ a ⊗ l) ⊗ (nat (2 ^ 30) ⊗ r ⊖ a ⊗ l)),
        )) refl
        (both_nn (both_nn (prod_nn (less_nn h₁) (prod_nn (square_nn a) h₂)) (prod_nn h₀ (less_nn h₃)))
        (prod_nn (pos_nn 4) (subst (λ (z : ℤ). pos 0 ≤ℤ (i *ℤ q -ℤ z *ℤ z)) e h₄)))

-- ---- the form that is left
others_close : (a : ℕ) (p : ℤ) (r t : List ℤ) → 0 < a → len t ≡ len r →
    Close (pos a) (added (scaled (pos a) t) (scaled (negsuc 0) (scaled p r))) (scaled (pos a) (others_after a p r t))
others_close a p [] [] h e = tt
others_close a p [] (z ∷ t) h e = absurd (len_apart (len t) (len_nonneg t) (sym e))
others_close a p (y ∷ r) [] h e = absurd (len_apart (len r) (len_nonneg r) e)
others_close a p (y ∷ r) (z ∷ t) h e =
    (lower_sum (pos a) (p *ℤ y) (nearest_div (p *ℤ y) a) z b.1, high (pos a) (p *ℤ y) (nearest_div (p *ℤ y) a) z b.0, others_close a p r t h (len_tail (len t) (len r) e))
  where
    b : (neg_ℤ (pos a) ≤ℤ (pos 2 *ℤ (p *ℤ y -ℤ pos a *ℤ nearest_div (p *ℤ y) a))) × ((pos 2 *ℤ (p *ℤ y -ℤ pos a *ℤ nearest_div (p *ℤ y) a)) <ℤ pos a)
    b = nearest_close (p *ℤ y) a h

    lower_sum : (a w q z : ℤ) → (pos 2 *ℤ (w -ℤ a *ℤ q)) <ℤ a → neg_ℤ a ≤ℤ (pos 2 *ℤ (a *ℤ z +ℤ negsuc 0 *ℤ w -ℤ a *ℤ (z -ℤ q)))
    lower_sum a w q z h = le_by (a ∷ z ∷ w ∷ q ∷ []) (λ a z w q. (ng a, nat 2 ⊗ (a ⊗ z ⊕ ko (negsuc 0) ⊗ w ⊖ a ⊗ (z ⊖ q)), a ⊖ nat 2 ⊗ (w ⊖ a ⊗ q))) refl (less_nn (weak h))

    high : (a w q z : ℤ) → neg_ℤ a ≤ℤ (pos 2 *ℤ (w -ℤ a *ℤ q)) → (pos 2 *ℤ (a *ℤ z +ℤ negsuc 0 *ℤ w -ℤ a *ℤ (z -ℤ q))) ≤ℤ a
    high a w q z h = le_by (a ∷ z ∷ w ∷ q ∷ []) (λ a z w q. (nat 2 ⊗ (a ⊗ z ⊕ ko (negsuc 0) ⊗ w ⊖ a ⊗ (z ⊖ q)), a, nat 2 ⊗ (w ⊖ a ⊗ q) ⊖ ng a)) refl (less_nn h)

next_above : (a : ℕ) (n : ℤ) (r : List ℤ) (m : List Column) → 0 < a → len r ≡ len m → Shaped m →
    Above (pos a) (pos 2 *ℤ (pos a *ℤ n +ℤ pos a *ℤ ceil_div (n *ℤ pos a) (2 ^ 42))) (plus (times (pos a) m) (times (negsuc 0) (outer r))) (times (pos a) (next a n r m))
next_above a n [] [] h e k = tt
next_above a n [] (c ∷ m) h e k = absurd (len_apart (len m) (len_nonneg m) e)
next_above a n (p ∷ r) [] h e k = absurd (len_apart (len r) (len_nonneg r) (sym e))
next_above a n (p ∷ r) (c ∷ m) h e k = (
  own (pos a) n (ceil_div (n *ℤ pos a) (2 ^ 42)) c.own (p *ℤ p) (ceil_div (p *ℤ p) a) (ceil_close (p *ℤ p) a h),
  others_close a p r c.others h (k.0 ∙ sym (len_tail (len r) (len m) e)),
  next_above a n r m h (len_tail (len r) (len m) e) k.1,
)
  where
    own : (a n g o w q : ℤ) → w ≤ℤ (a *ℤ q) → (pos 2 *ℤ (a *ℤ n +ℤ a *ℤ g)) ≤ℤ (pos 2 *ℤ (a *ℤ o +ℤ negsuc 0 *ℤ w -ℤ a *ℤ (o -ℤ q -ℤ n -ℤ g)))
    own a n g o w q h = le_by (a ∷ n ∷ g ∷ o ∷ w ∷ q ∷ []) (λ a n g o w q.
        (nat 2 ⊗ (a ⊗ n ⊕ a ⊗ g), nat 2 ⊗ (a ⊗ o ⊕ ko (negsuc 0) ⊗ w ⊖ a ⊗ (o ⊖ q ⊖ n ⊖ g)), nat 2 ⊗ (a ⊗ q ⊖ w))) refl (prod_nn (pos_nn 2) (less_nn h))

-- a quad(M) - (r·v)² ≥ a quad(M') + a G |v|²
pub next_below : (a : ℕ) (n : ℤ) (r : List ℤ) (m : List Column) (v : List ℤ) → 0 < a → len r ≡ len m → Shaped m → len m ≡ len v → len v ≤ℤ n →
    (dot r v *ℤ dot r v +ℤ pos a *ℤ quad (next a n r m) v +ℤ pos a *ℤ ceil_div (n *ℤ pos a) (2 ^ 42) *ℤ squared_norm v) ≤ℤ (pos a *ℤ quad m v)
next_below a n r m v h e k f i = step (pos a) n (ceil_div (n *ℤ pos a) (2 ^ 42)) (len v) (squared_norm v) (quad m v) (dot r v) (quad (next a n r m) v)
    (quad (plus (times (pos a) m) (times (negsuc 0) (outer r))) v) (quad (times (pos a) (next a n r m)) v)
    left (quad_times (pos a) (next a n r m) v) (pos_nn a) (len_nonneg v) i (squared_norm_nonneg v)
    (dominant (pos a) (pos 2 *ℤ (pos a *ℤ n +ℤ pos a *ℤ ceil_div (n *ℤ pos a) (2 ^ 42))) (plus (times (pos a) m) (times (negsuc 0) (outer r))) (times (pos a) (next a n r m)) v
    (pos_nn a) (next_above a n r m h e k) (len_plus m r e ∙ f))
  where
    left : quad (plus (times (pos a) m) (times (negsuc 0) (outer r))) v ≡ pos a *ℤ quad m v +ℤ negsuc 0 *ℤ (dot r v *ℤ dot r v)
    left = quad_plus (times (pos a) m) (times (negsuc 0) (outer r)) v ∙ ap₂ (λ x y. x +ℤ y) (quad_times (pos a) m v) (quad_times (negsuc 0) (outer r) v ∙ ap (λ z. negsuc 0 *ℤ z) (quad_outer r v))

    len_plus : (m : List Column) (r : List ℤ) → len r ≡ len m → len (plus (times (pos a) m) (times (negsuc 0) (outer r))) ≡ len m
    len_plus [] [] e = refl
    len_plus [] (y ∷ r) e = absurd (len_apart (len r) (len_nonneg r) (sym e))
    len_plus (c ∷ m) [] e = absurd (len_apart (len m) (len_nonneg m) e)
    len_plus (c ∷ m) (y ∷ r) e = ap (λ z. pos 1 +ℤ z) (len_plus m r (len_tail (len r) (len m) e))

    step : (a n g l s q r w i j : ℤ) → i ≡ a *ℤ q +ℤ negsuc 0 *ℤ (r *ℤ r) → j ≡ a *ℤ w → pos 0 ≤ℤ a → pos 0 ≤ℤ l → l ≤ℤ n → pos 0 ≤ℤ s →
        ((pos 2 *ℤ (a *ℤ n +ℤ a *ℤ g) +ℤ a -ℤ a *ℤ l) *ℤ s) ≤ℤ (pos 2 *ℤ (i -ℤ j)) →
        (r *ℤ r +ℤ a *ℤ w +ℤ a *ℤ g *ℤ s) ≤ℤ (a *ℤ q)
    step a n g l s q r w i j d f h₀ h₁ h₂ h₃ h₄ = halve (le_by (r ∷ a ∷ w ∷ g ∷ s ∷ q ∷ n ∷ l ∷ []) (λ r a w g s q n l. (
      nat 2 ⊗ (r ⊗ r ⊕ a ⊗ w ⊕ a ⊗ g ⊗ s),
      nat 2 ⊗ (a ⊗ q),
      nat 2 ⊗ (a ⊗ q ⊕ ko (negsuc 0) ⊗ (r ⊗ r) ⊖ a ⊗ w) ⊖ (nat 2 ⊗ (a ⊗ n ⊕ a ⊗ g) ⊕ a ⊖ a ⊗ l) ⊗ s ⊕ a ⊗ (n ⊖ l ⊕ n ⊕ nat 1) ⊗ s,
    ))
        refl (both_nn (less_nn (subst (λ (z : ℤ). ((pos 2 *ℤ (a *ℤ n +ℤ a *ℤ g) +ℤ a -ℤ a *ℤ l) *ℤ s) ≤ℤ (pos 2 *ℤ (a *ℤ q +ℤ negsuc 0 *ℤ (r *ℤ r) -ℤ z))) f
        (subst (λ (z : ℤ). ((pos 2 *ℤ (a *ℤ n +ℤ a *ℤ g) +ℤ a -ℤ a *ℤ l) *ℤ s) ≤ℤ (pos 2 *ℤ (z -ℤ j))) d h₄)))
        (prod_nn (prod_nn h₀ (both_nn (both_nn (less_nn h₂) (up_nn h₁ h₂)) (pos_nn 1))) h₃)))
      where
        up_nn : {l n : ℤ} → pos 0 ≤ℤ l → l ≤ℤ n → pos 0 ≤ℤ n
        up_nn h k = omega (arith, lins)

-- one step loses only what the square that it takes covers
pub step_below : (a : ℕ) (r : List ℤ) (m : List Column) (x : ℤ) (v : List ℤ) → 0 < a → len r ≡ len m → Shaped m → len m ≡ len v →
    (kept a *ℤ ((pos (2 ^ 30) *ℤ x +ℤ dot (factors a r) v) *ℤ (pos (2 ^ 30) *ℤ x +ℤ dot (factors a r) v)) +ℤ pos (2 ^ 60) *ℤ quad (next a (len r) r m) v)
    ≤ℤ (pos (2 ^ 60) *ℤ (pos a *ℤ (x *ℤ x) +ℤ pos 2 *ℤ (x *ℤ dot r v) +ℤ quad m v))
step_below a r m x v h e k f =
    let others_loss : ℤ = ceil_div (len r *ℤ pos a) (2 ^ 42) in
    let own_loss : ℤ = ceil_div (pos a) (2 ^ 20) in
    let same_length : len v ≡ len r = sym f ∙ sym e in
    step a x (dot r v) (dot (factors a r) v) (quad m v) (quad (next a (len r) r m) v) others_loss (squared_norm v) (len r) own_loss h
    (squared_norm_nonneg v)
    (next_below a (len r) r m v h e k f (le_eq same_length))
    (subst (λ (z : ℤ). (pos 4 *ℤ ((pos a *ℤ dot (factors a r) v -ℤ pos (2 ^ 30) *ℤ dot r v) *ℤ (pos a *ℤ dot (factors a r) v -ℤ pos (2 ^ 30) *ℤ dot r v)))
    ≤ℤ (z *ℤ (pos a *ℤ pos a *ℤ squared_norm v))) same_length (factors_close a r v h))
    (ceil_close (len r *ℤ pos a) (2 ^ 42) (omega arith))
    (square_share a own_loss (pos (2 ^ 20)) (pos (2 ^ 30) *ℤ (pos a *ℤ x +ℤ dot r v)) (pos a *ℤ dot (factors a r) v -ℤ pos (2 ^ 30) *ℤ dot r v)
    (share_pos a h) (share_le a) (ceil_close (pos a) (2 ^ 20) (omega arith)))
  where
    share_pos : (a : ℕ) → 0 < a → pos 0 <ℤ ceil_div (pos a) (2 ^ 20)
    share_pos a h = go a (ceil_div (pos a) (2 ^ 20)) h (ceil_close (pos a) (2 ^ 20) (omega arith))
      where
        go : (a : ℕ) (c : ℤ) → 0 < a → pos a ≤ℤ (pos (2 ^ 20) *ℤ c) → pos 0 <ℤ c
        go a c h k = omega (arith, ints)

    share_le : (a : ℕ) → ceil_div (pos a) (2 ^ 20) ≤ℤ pos a
    share_le a = ceil_least (pos a) (pos a) (2 ^ 20) (omega arith) (le_by (pos a ∷ []) (λ a. (a, a ⊗ nat (2 ^ 20), a ⊗ (nat (2 ^ 20) ⊖ nat 1))) refl (prod_nn (pos_nn a) (pos_nn (2 ^ 20 - 1))))

    step : (a : ℕ) (x r l q w g s n c : ℤ) → 0 < a → pos 0 ≤ℤ s → (r *ℤ r +ℤ pos a *ℤ w +ℤ pos a *ℤ g *ℤ s) ≤ℤ (pos a *ℤ q) →
        (pos 4 *ℤ ((pos a *ℤ l -ℤ pos (2 ^ 30) *ℤ r) *ℤ (pos a *ℤ l -ℤ pos (2 ^ 30) *ℤ r))) ≤ℤ (n *ℤ (pos a *ℤ pos a *ℤ s)) → (n *ℤ pos a) ≤ℤ (pos (2 ^ 42) *ℤ g) →
        ((pos a -ℤ c) *ℤ ((pos (2 ^ 30) *ℤ (pos a *ℤ x +ℤ r) +ℤ (pos a *ℤ l -ℤ pos (2 ^ 30) *ℤ r)) *ℤ (pos (2 ^ 30) *ℤ (pos a *ℤ x +ℤ r)
        +ℤ (pos a *ℤ l -ℤ pos (2 ^ 30) *ℤ r)))) ≤ℤ (pos a *ℤ (pos (2 ^ 30) *ℤ (pos a *ℤ x +ℤ r) *ℤ (pos (2 ^ 30) *ℤ (pos a *ℤ x +ℤ r)))
        +ℤ pos (2 ^ 20) *ℤ pos a *ℤ ((pos a *ℤ l -ℤ pos (2 ^ 30) *ℤ r) *ℤ (pos a *ℤ l -ℤ pos (2 ^ 30) *ℤ r))) →
        ((pos a -ℤ c) *ℤ ((pos (2 ^ 30) *ℤ x +ℤ l) *ℤ (pos (2 ^ 30) *ℤ x +ℤ l)) +ℤ pos (2 ^ 60) *ℤ w) ≤ℤ (pos (2 ^ 60) *ℤ (pos a *ℤ (x *ℤ x) +ℤ pos 2 *ℤ (x *ℤ r) +ℤ q))
    step a x r l q w g s n c h₀ h₁ h₂ h₃ h₄ h₅ = cancel_square a (pos (2 ^ 60) *ℤ (pos a *ℤ (x *ℤ x) +ℤ pos 2 *ℤ (x *ℤ r) +ℤ q))
        ((pos a -ℤ c) *ℤ ((pos (2 ^ 30) *ℤ x +ℤ l) *ℤ (pos (2 ^ 30) *ℤ x +ℤ l)) +ℤ pos (2 ^ 60) *ℤ w) h₀
        (le_by (pos a ∷ c ∷ x ∷ l ∷ w ∷ r ∷ q ∷ g ∷ s ∷ n ∷ []) (λ a c x l w r q g s n. (
          a ⊗ a ⊗ ((a ⊖ c) ⊗ ((nat (2 ^ 30) ⊗ x ⊕ l) ⊗ (nat (2 ^ 30) ⊗ x ⊕ l))
              ⊕ nat (2 ^ 60) ⊗ w),
          a ⊗ a ⊗ (nat (2 ^ 60) ⊗ (a ⊗ (x ⊗ x) ⊕ nat 2 ⊗ (x ⊗ r) ⊕ q)),
          a ⊗ (nat (2 ^ 30) ⊗ (a ⊗ x ⊕ r) ⊗ (nat (2 ^ 30) ⊗ (a ⊗ x ⊕ r))) ⊕ nat (2 ^ 20) ⊗ a ⊗ ((a ⊗ l ⊖ nat (2 ^ 30) ⊗ r) ⊗ (a ⊗ l ⊖ nat (2 ^ 30) ⊗ r))
              ⊖ (a ⊖ c) ⊗ ((nat (2 ^ 30) ⊗ (a ⊗ x ⊕ r) ⊕ (a ⊗ l ⊖ nat (2 ^ 30) ⊗ r)) ⊗ (nat (2 ^ 30) ⊗ (a ⊗ x ⊕ r) ⊕ (a ⊗ l ⊖ nat (2 ^ 30) ⊗ r)))
              ⊕ nat (2 ^ 60) ⊗ a ⊗ (a ⊗ q ⊖ (r ⊗ r ⊕ a ⊗ w ⊕ a ⊗ g ⊗ s)) ⊕ (nat (2 ^ 18) ⊗ a ⊗ a ⊗ s ⊗ (nat (2 ^ 42) ⊗ g ⊖ n ⊗ a)
              ⊕ nat (2 ^ 18) ⊗ a ⊗ (n ⊗ (a ⊗ a ⊗ s) ⊖ nat 4 ⊗ ((a ⊗ l ⊖ nat (2 ^ 30) ⊗ r) ⊗ (a ⊗ l ⊖ nat (2 ^ 30) ⊗ r)))),
        )) refl
        (both_nn (both_nn (less_nn h₅) (prod_nn (prod_nn (pos_nn (2 ^ 60)) (pos_nn a)) (less_nn h₂)))
        (both_nn (prod_nn (prod_nn (prod_nn (prod_nn (pos_nn (2 ^ 18)) (pos_nn a)) (pos_nn a)) h₁) (less_nn h₄))
        (prod_nn (prod_nn (pos_nn (2 ^ 18)) (pos_nn a)) (less_nn h₃)))))

-- ---- what a step keeps
pub kept_nonneg : (a : ℕ) → pos 0 ≤ℤ kept a
kept_nonneg a = less_nn (ceil_least (pos a) (pos a) (2 ^ 20) (omega arith)
    (le_by (pos a ∷ []) (λ a. (a, a ⊗ nat (2 ^ 20), a ⊗ (nat (2 ^ 20) ⊖ nat 1))) refl (prod_nn (pos_nn a) (pos_nn (2 ^ 20 - 1)))))

pub next_len : (a : ℕ) (n : ℤ) (r : List ℤ) (m : List Column) → len r ≡ len m → len (next a n r m) ≡ len m
next_len a n [] [] e = refl
next_len a n [] (c ∷ m) e = absurd (len_apart (len m) (len_nonneg m) e)
next_len a n (p ∷ r) [] e = refl
next_len a n (p ∷ r) (c ∷ m) e = ap (λ z. pos 1 +ℤ z) (next_len a n r m (len_tail (len r) (len m) e))

others_len : (a : ℕ) (p : ℤ) (r t : List ℤ) → len t ≡ len r → len (others_after a p r t) ≡ len t
others_len a p [] [] e = refl
others_len a p [] (z ∷ t) e = absurd (len_apart (len t) (len_nonneg t) (sym e))
others_len a p (y ∷ r) [] e = refl
others_len a p (y ∷ r) (z ∷ t) e = ap (λ z. pos 1 +ℤ z) (others_len a p r t (len_tail (len t) (len r) e))

pub next_shaped : (a : ℕ) (n : ℤ) (r : List ℤ) (m : List Column) → len r ≡ len m → Shaped m → Shaped (next a n r m)
next_shaped a n [] m e s = tt
next_shaped a n (p ∷ r) [] e s = tt
next_shaped a n (p ∷ r) (c ∷ m) e s =
    let same_length : len r ≡ len m = len_tail (len r) (len m) e in
    (others_len a p r c.others (s.0 ∙ sym same_length) ∙ s.0 ∙ sym (next_len a n r m same_length), next_shaped a n r m same_length s.1)

nearest_each_len : (m : ℕ) (r : List ℤ) → len (nearest_each m r) ≡ len r
nearest_each_len m [] = refl
nearest_each_len m (y ∷ r) = ap (λ z. pos 1 +ℤ z) (nearest_each_len m r)

pub rounded_sized : (m : ℕ) (n : ℤ) (b : List Column) → Shaped b → (len (rounded m n b) ≡ len b) × Shaped (rounded m n b)
rounded_sized m n [] s = (refl, tt)
rounded_sized m n (c ∷ b) s = (ap (λ z. pos 1 +ℤ z) (rounded_sized m n b s.1).0, (nearest_each_len m c.others ∙ s.0 ∙ sym (rounded_sized m n b s.1).0, (rounded_sized m n b s.1).1))
