-- The steps of the sums over rows, over plain numbers.
use Rattle.std.proofs.Common.{◌≡◌, ℕ, ◌+◌, ◌*◌, ◌^◌, ◌≤◌, [], ◌∷◌, ℤ, pos, ◌+ℤ◌, ◌-ℤ◌, ◌*ℤ◌, unsigned_abs, arith, sym, ap, ◌∙◌, refl, subst, le_trans}
use Rattle.std.proofs.lemmas.Int.{ints}
use Rattle.whole_math.proofs.Ring.{◌⊕◌, ◌⊖◌, ◌⊗◌}
use Rattle.whole_math.proofs.Order.{abs_mul_le}
use Rattle.whole_math.proofs.Inequalities.{same_by, nat}
use Rattle.whole_math.proofs.Words.{size_add}

pub times_nothing : (w x : ℤ) → x ≡ pos 0 → w *ℤ x ≡ pos 0
times_nothing w x e = ap (λ z. w *ℤ z) e ∙ same_by (w ∷ []) (λ w. (w ⊗ nat 0, nat 0)) refl

pub product_nothing : (w x y : ℤ) → x ≡ pos 0 → (w *ℤ x) *ℤ y ≡ pos 0
product_nothing w x y e = ap (λ z. (w *ℤ z) *ℤ y) e ∙ same_by (w ∷ y ∷ []) (λ w y. ((w ⊗ nat 0) ⊗ y, nat 0)) refl

pub next_product : (t t' t0 k c d r a : ℤ) → t +ℤ (k *ℤ ((c *ℤ d) +ℤ r)) ≡ t0 +ℤ (k *ℤ a) → t' ≡ t +ℤ ((k *ℤ c) *ℤ d) → t' +ℤ (k *ℤ r) ≡ t0 +ℤ (k *ℤ a)
next_product t t' t0 k c d r a h e = ap (λ z. z +ℤ (k *ℤ r)) e ∙ same_by (t ∷ k ∷ c ∷ d ∷ r ∷ []) (λ t k c d r. ((t ⊕ (k ⊗ c) ⊗ d) ⊕ k ⊗ r, t ⊕ k ⊗ (c ⊗ d ⊕ r))) refl ∙ h

pub next_sum : (s s' c r a : ℤ) → s +ℤ (c +ℤ r) ≡ a → s' ≡ s +ℤ c → s' +ℤ r ≡ a
next_sum s s' c r a h e = ap (λ z. z +ℤ r) e ∙ same_by (s ∷ c ∷ r ∷ []) (λ s c r. ((s ⊕ c) ⊕ r, s ⊕ (c ⊕ r))) refl ∙ h

pub product_size : (t t' w u v : ℤ) → t' ≡ t +ℤ ((w *ℤ u) *ℤ v) → unsigned_abs w ≤ 2 ^ 32 → unsigned_abs u ≤ 2 ^ 34 → unsigned_abs v ≤ 2 ^ 34 → unsigned_abs t' ≤ unsigned_abs t + 2 ^ 100
product_size t t' w u v e hw hu hv =
    let first_product_small : unsigned_abs (w *ℤ u) ≤ 2 ^ 66 = abs_mul_le w u (2 ^ 32) (2 ^ 34) hw hu in
    let product_small : unsigned_abs ((w *ℤ u) *ℤ v) ≤ 2 ^ 100 = abs_mul_le (w *ℤ u) v (2 ^ 66) (2 ^ 34) first_product_small hv in
    subst (λ (z : ℤ). unsigned_abs z ≤ unsigned_abs t + 2 ^ 100) (sym e) (omega (arith, size_add t ((w *ℤ u) *ℤ v)))

pub sum_size : (s s' v : ℤ) → s' ≡ s +ℤ v → unsigned_abs v ≤ 2 ^ 34 → unsigned_abs s' ≤ unsigned_abs s + 2 ^ 34
sum_size s s' v e h = subst (λ (z : ℤ). unsigned_abs z ≤ unsigned_abs s + 2 ^ 34) (sym e) (omega (arith, size_add s v))

-- the products less the product of the sums
pub group_is : (t1 t2 t0 k f n p s t w : ℤ) → t1 ≡ t0 +ℤ (k *ℤ p) → t2 ≡ t1 +ℤ ((w *ℤ s) *ℤ t) → f *ℤ n ≡ k → pos 0 ≡ w +ℤ f → t2 ≡ t0 +ℤ (f *ℤ ((n *ℤ p) -ℤ (s *ℤ t)))
group_is t1 t2 t0 k f n p s t w e1 e2 ef ew = e2 ∙ ap (λ z. z +ℤ ((w *ℤ s) *ℤ t)) (e1 ∙ ap (λ z. t0 +ℤ (z *ℤ p)) (sym ef))
    ∙ same_by (t0 ∷ f ∷ n ∷ p ∷ s ∷ t ∷ w ∷ []) (λ t0 f n p s t w. ((t0 ⊕ (f ⊗ n) ⊗ p) ⊕ (w ⊗ s) ⊗ t, (t0 ⊕ f ⊗ ((n ⊗ p) ⊖ (s ⊗ t))) ⊕ (w ⊕ f) ⊗ (s ⊗ t))) refl
    ∙ ap (λ z. (t0 +ℤ (f *ℤ ((n *ℤ p) -ℤ (s *ℤ t)))) +ℤ (z *ℤ (s *ℤ t))) (sym ew)
    ∙ same_by (t0 ∷ f ∷ n ∷ p ∷ s ∷ t ∷ []) (λ t0 f n p s t. ((t0 ⊕ f ⊗ ((n ⊗ p) ⊖ (s ⊗ t))) ⊕ nat 0 ⊗ (s ⊗ t), t0 ⊕ f ⊗ ((n ⊗ p) ⊖ (s ⊗ t)))) refl

product_of : (a n : ℕ) → a * n ≤ 2 ^ 32 → n ≤ 15 → (a * (n * 2 ^ 34)) * (n * 2 ^ 34) ≤ 15 * 2 ^ 100
product_of a n h g = grind arith

pub group_size : (t1 t2 t0 w s t : ℤ) (n : ℕ) → n ≤ 15 → t2 ≡ t1 +ℤ ((w *ℤ s) *ℤ t) → unsigned_abs t1 ≤ unsigned_abs t0 + (n * 2 ^ 100) → unsigned_abs w * n ≤ 2 ^ 32 → unsigned_abs s
    ≤ n * 2 ^ 34 → unsigned_abs t ≤ n * 2 ^ 34 →
    unsigned_abs t2 ≤ unsigned_abs t0 + 2 ^ 105
group_size t1 t2 t0 w s t n g e h1 hw hs ht =
    let weighted_small : unsigned_abs (w *ℤ s) ≤ unsigned_abs w * (n * 2 ^ 34) = abs_mul_le w s (unsigned_abs w) (n * 2 ^ 34) (omega arith) hs in
    let product_at_most : unsigned_abs ((w *ℤ s) *ℤ t) ≤ (unsigned_abs w * (n * 2 ^ 34)) * (n * 2 ^ 34) = abs_mul_le (w *ℤ s) t (unsigned_abs w * (n * 2 ^ 34)) (n * 2 ^ 34) weighted_small ht in
    let bound_small : (unsigned_abs w * (n * 2 ^ 34)) * (n * 2 ^ 34) ≤ 15 * 2 ^ 100 = product_of (unsigned_abs w) n hw g in
    let sum_at_most : unsigned_abs (t1 +ℤ ((w *ℤ s) *ℤ t)) ≤ unsigned_abs t1 + unsigned_abs ((w *ℤ s) *ℤ t) = size_add t1 ((w *ℤ s) *ℤ t) in
    let product_small : unsigned_abs ((w *ℤ s) *ℤ t) ≤ 15 * 2 ^ 100 = le_trans product_at_most bound_small in
    subst (λ (z : ℤ). unsigned_abs z ≤ unsigned_abs t0 + 2 ^ 105) (sym e) (last (unsigned_abs (t1 +ℤ ((w *ℤ s) *ℤ t))) (unsigned_abs t1) (unsigned_abs ((w *ℤ s) *ℤ t))
    (unsigned_abs t0) n sum_at_most product_small h1 g)
  where
    last : (a b c d n : ℕ) → a ≤ b + c → c ≤ 15 * 2 ^ 100 → b ≤ d + (n * 2 ^ 100) → n ≤ 15 → a ≤ d + 2 ^ 105
    last a b c d n h i j k = omega arith

pub turned_size : (q w r : ℕ) (x f : ℤ) → f ≡ pos q *ℤ pos w → pos 0 ≡ x +ℤ f → q * r ≤ 360360 → w ≤ 10000 → unsigned_abs x * r ≤ 2 ^ 32
turned_size q w r x f e h g k =
    let opposite_same_size : unsigned_abs x ≡ unsigned_abs f = opposite x f h in
    let size_is : unsigned_abs f ≡ q * w = ap (λ z. unsigned_abs z) e in
    subst (λ (m : ℕ). m * r ≤ 2 ^ 32) (sym (opposite_same_size ∙ size_is)) (product q w r g k)
  where
    opposite : (x f : ℤ) → pos 0 ≡ x +ℤ f → unsigned_abs x ≡ unsigned_abs f
    opposite x f h = omega (arith, ints)

    product : (q w r : ℕ) → q * r ≤ 360360 → w ≤ 10000 → (q * w) * r ≤ 2 ^ 32
    product q w r g k = grind arith

-- ---- a spread of n rows at a share that is turned
pub spread_fits : (x n : ℕ) → n ≤ 15 → x ≤ (n * n) * 2 ^ 69 → x ≤ 2 ^ 77
spread_fits x n h g = grind arith

shares_of : (a n : ℕ) → a * n ≤ 2 ^ 32 → n ≤ 15 → ((n * n) * 2 ^ 69) * a ≤ 2 ^ 105
shares_of a n h g = grind arith

-- x with a spread's product more
pub spread_size : (t x y w : ℤ) (n : ℕ) → n ≤ 15 → t ≡ x +ℤ (y *ℤ w) → unsigned_abs y ≤ (n * n) * 2 ^ 69 → unsigned_abs w * n ≤ 2 ^ 32 → unsigned_abs t ≤ unsigned_abs x + 2 ^ 105
spread_size t x y w n few e spread share =
    let product : unsigned_abs (y *ℤ w) ≤ ((n * n) * 2 ^ 69) * unsigned_abs w = abs_mul_le y w ((n * n) * 2 ^ 69) (unsigned_abs w) spread (omega arith) in
    let small : ((n * n) * 2 ^ 69) * unsigned_abs w ≤ 2 ^ 105 = shares_of (unsigned_abs w) n share few in
    subst (λ (z : ℤ). unsigned_abs z ≤ unsigned_abs x + 2 ^ 105) (sym e)
    (last (unsigned_abs (x +ℤ (y *ℤ w))) (unsigned_abs x) (unsigned_abs (y *ℤ w)) (((n * n) * 2 ^ 69) * unsigned_abs w) (size_add x (y *ℤ w)) product small)
  where
    last : (a b c d : ℕ) → a ≤ b + c → c ≤ d → d ≤ 2 ^ 105 → a ≤ b + 2 ^ 105
    last a b c d h g k = omega arith

pub turned_product : (x y w f : ℤ) → pos 0 ≡ w +ℤ f → x +ℤ (y *ℤ w) ≡ x -ℤ (f *ℤ y)
turned_product x y w f e = same_by (x ∷ y ∷ w ∷ f ∷ []) (λ x y w f. (x ⊕ y ⊗ w, (x ⊖ f ⊗ y) ⊕ (w ⊕ f) ⊗ y)) refl ∙ ap (λ z. (x -ℤ (f *ℤ y)) +ℤ (z *ℤ y)) (sym e)
    ∙ same_by (x ∷ y ∷ f ∷ []) (λ x y f. ((x ⊖ f ⊗ y) ⊕ nat 0 ⊗ y, x ⊖ f ⊗ y)) refl

pub twice_turned : (x y w f z : ℤ) → pos 0 ≡ w +ℤ f → pos 0 ≡ y +ℤ z → x +ℤ (y *ℤ w) ≡ x +ℤ (f *ℤ z)
twice_turned x y w f z e g = turned_product x y w f e
    ∙ same_by (x ∷ y ∷ f ∷ z ∷ []) (λ x y f z. (x ⊖ f ⊗ y, (x ⊕ f ⊗ z) ⊖ f ⊗ (y ⊕ z))) refl ∙ ap (λ v. (x +ℤ (f *ℤ z)) -ℤ (f *ℤ v)) (sym g)
    ∙ same_by (x ∷ f ∷ z ∷ []) (λ x f z. ((x ⊕ f ⊗ z) ⊖ f ⊗ nat 0, x ⊕ f ⊗ z)) refl
