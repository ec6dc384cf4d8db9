-- Lower sums grow as entries are put before, and bound the form's value.
use Rattle.std.proofs.Common.{◌≡◌, ◌⊎◌, inl, inr, ℕ, zero, suc, ◌-◌, ◌<◌, ◌≤◌, ◌^◌, List, [], ◌∷◌, ◌++◌, length, drop, get_or, ℤ, pos, ◌+ℤ◌, ◌*ℤ◌, neg_ℤ, ◌<ℤ◌, ◌≤ℤ◌, arith, refl, ap}
use Rattle.std.proofs.Common.{◌∙◌, subst, unsigned_abs}
use Rattle.whole_math.proofs.Absolute.{neg_square}
use Rattle.whole_math.proofs.Order.{lins, polys, mul_nn, square_nn, mul_le_left, mul_le_right}
use Rattle.whole_math.proofs.Inequalities.{one_nn}
use Rattle.quadratic_form.specs.Elimination.{Factor}
use Rattle.quadratic_form.specs.Rows.{value}
use Rattle.quadratic_form.specs.LowerSums.{lower_sum}
use Rattle.int_search.specs.Suffixes.{SearchForm, IsSearchable, no_factor, factor_before, low, weight, offset, rest}
use Rattle.int_search.specs.Levels.{IsFree, IsLevel}
use Rattle.int_search.specs.declared.stack.Level.{Level}

drop_none : (n : ℕ) (fs : List Factor) → length fs ≤ n → drop n fs ≡ []
drop_none zero [] h = refl
drop_none zero (a ∷ fs) h = absurd (omega arith)
drop_none (suc n) [] h = refl
drop_none (suc n) (a ∷ fs) h = drop_none n fs (omega arith)

drop_at : (n : ℕ) (fs : List Factor) → n < length fs → drop n fs ≡ get_or fs n no_factor ∷ drop (suc n) fs
drop_at zero [] h = absurd (omega arith)
drop_at zero (a ∷ fs) h = refl
drop_at (suc n) [] h = absurd (omega arith)
drop_at (suc n) (a ∷ fs) h = drop_at n fs (omega arith)

pub low-nil : (f : SearchForm) → length f.factors ≡ f.size → low f [] ≡ pos (2 ^ 60) *ℤ f.g
unfolding low
low-nil f h = ap (λ fs. lower_sum f.g fs []) (drop_none (f.size - 0) f.factors (omega arith))

pub low-cons : (f : SearchForm) (x : ℤ) (s : List ℤ) → length f.factors ≡ f.size → length s < f.size → low f (x ∷ s) ≡ low f s +ℤ (weight f s *ℤ (offset f x s *ℤ offset f x s))
unfolding low weight offset rest
low-cons f x s h k = ap (λ fs. lower_sum f.g fs (x ∷ s)) split
  where
    place : f.size - suc (length s) ≡ f.size - 1 - length s
    place = omega arith

    next : suc (f.size - 1 - length s) ≡ f.size - length s
    next = omega arith

    split : drop (f.size - suc (length s)) f.factors ≡ factor_before f s ∷ drop (f.size - length s) f.factors
    split = ap (λ n. drop n f.factors) place ∙ drop_at (f.size - 1 - length s) f.factors (omega arith) ∙ ap (λ n. factor_before f s ∷ drop n f.factors) next

pub offset-is : (f : SearchForm) (x : ℤ) (s : List ℤ) → offset f x s ≡ (pos (2 ^ 30) *ℤ x) +ℤ rest f s
unfolding offset
offset-is f x s = refl

pub weight_from : (f : SearchForm) (s : List ℤ) → IsSearchable f → length s < f.size → pos 1 ≤ℤ weight f s
unfolding weight
weight_from f s h k = let weights_long = h.each in h.weights_from (f.size - 1 - length s) no_factor (omega arith)

pub weight_to : (f : SearchForm) (s : List ℤ) → IsSearchable f → length s < f.size → weight f s ≤ℤ pos (2 ^ 52)
unfolding weight
weight_to f s h k = let weights_long = h.each in h.weights_to (f.size - 1 - length s) no_factor (omega arith)

le_more : (a b d : ℤ) → a ≤ℤ b → pos 0 ≤ℤ d → a ≤ℤ (b +ℤ d)
le_more a b d h k = omega (arith, lins)

pub low_grows : (f : SearchForm) → IsSearchable f → (t s : List ℤ) → length (t ++ s) ≤ f.size → low f s ≤ℤ low f (t ++ s)
low_grows f h [] s k = omega (arith, lins)
low_grows f h (x ∷ t) s k =
    rw (low-cons f x (t ++ s) h.each (omega arith))
    (le_more (low f s) (low f (t ++ s)) (weight f (t ++ s) *ℤ (offset f x (t ++ s) *ℤ offset f x (t ++ s)))
    (low_grows f h t s (omega arith))
    (mul_nn (weight f (t ++ s)) (offset f x (t ++ s) *ℤ offset f x (t ++ s)) (one_nn (weight_from f (t ++ s) h (omega arith))) (square_nn (offset f x (t ++ s)))))

-- no lower sum is below that of the empty suffix
pub low_from : (f : SearchForm) (s : List ℤ) → IsSearchable f → length s ≤ f.size → (pos (2 ^ 60) *ℤ f.g) ≤ℤ low f s
low_from f s h k = subst (λ (m : ℤ). m ≤ℤ low f s) (low-nil f h.each) (subst (λ (v : List ℤ). low f [] ≤ℤ low f v) (nil s) (low_grows f h s [] (let no_entries = ap length (nil s) in omega arith)))
  where
    nil : (v : List ℤ) → v ++ [] ≡ v
    nil [] = refl
    nil (x ∷ v) = ap (λ u. x ∷ u) (nil v)

-- ---- the nearer end of a level
-- the square grows with the distance from 0, on either side
pub square_up : (a b : ℤ) → pos 0 ≤ℤ a → a ≤ℤ b → (a *ℤ a) ≤ℤ (b *ℤ b)
square_up a b h k =
    let squares_at_most : (a *ℤ a) ≤ℤ (a *ℤ b) = mul_le_left a a b h k in
    let right_at_most : (a *ℤ b) ≤ℤ (b *ℤ b) = mul_le_right b a b (omega (arith, lins)) k in
    omega (arith, lins)

pub square_from : (c x : ℤ) → ((pos 0 ≤ℤ c) × (c ≤ℤ x)) ⊎ (((pos 0 ≤ℤ c) × (c ≤ℤ neg_ℤ x)) ⊎ (((c ≤ℤ pos 0) × (neg_ℤ c ≤ℤ x)) ⊎ ((c ≤ℤ pos 0) × (x ≤ℤ c)))) → (c *ℤ c) ≤ℤ (x *ℤ x)
square_from c x (inl h) = square_up c x h.0 h.1
square_from c x (inr (inl h)) = let squares_at_most : (c *ℤ c) ≤ℤ (neg_ℤ x *ℤ neg_ℤ x) = square_up c (neg_ℤ x) h.0 h.1 in omega (arith, lins, neg_square x)
square_from c x (inr (inr (inl h))) = let squares_at_most : (neg_ℤ c *ℤ neg_ℤ c) ≤ℤ (x *ℤ x) = square_up (neg_ℤ c) x (omega (arith, lins)) h.1 in omega (arith, lins, neg_square c)
square_from c x (inr (inr (inr h))) = let squares_at_most : (neg_ℤ c *ℤ neg_ℤ c) ≤ℤ (neg_ℤ x *ℤ neg_ℤ x) = square_up (neg_ℤ c) (neg_ℤ x) (omega (arith, lins)) (omega (arith, lins)) in
    omega (arith, lins, neg_square c, neg_square x)

pub offset_mono : (f : SearchForm) (x y : ℤ) (s : List ℤ) → x ≤ℤ y → offset f x s ≤ℤ offset f y s
offset_mono f x y s h = rw (offset-is f x s, offset-is f y s) (step x y (rest f s) h)
  where
    step : (x y e : ℤ) → x ≤ℤ y → ((pos (2 ^ 30) *ℤ x) +ℤ e) ≤ℤ ((pos (2 ^ 30) *ℤ y) +ℤ e)
    step x y e h = omega (arith, polys)

-- c is the offset of the nearer of the two entries at the ends
pub record IsNearest (a : Level) (c : ℤ) : Type 0 where
  pub nearest : ((c ≡ a.up_offset) × (a.up_offset ≤ℤ neg_ℤ a.down_offset)) ⊎ ((c ≡ a.down_offset) × (neg_ℤ a.down_offset <ℤ a.up_offset))

-- where the nearer end is past a limit, so is each entry that is not taken
pub far_all : (f : SearchForm) (a : Level) (s : List ℤ) (c limit : ℤ) → IsSearchable f → IsLevel f a s → IsNearest a c →
    limit <ℤ (low f s +ℤ (weight f s *ℤ (c *ℤ c))) → (y : ℤ) → IsFree a y → limit <ℤ low f (y ∷ s)
far_all f a s c limit h k n l y free =
    let weight_positive : pos 0 ≤ℤ weight f s = one_nn (weight_from f s h k.shorter) in
    let square_far : (c *ℤ c) ≤ℤ (offset f y s *ℤ offset f y s) = square_from c (offset f y s) (sides n.nearest free) in
    let product_far : (weight f s *ℤ (c *ℤ c)) ≤ℤ (weight f s *ℤ (offset f y s *ℤ offset f y s)) = mul_le_left (weight f s) (c *ℤ c) (offset f y s *ℤ offset f y s) weight_positive square_far in
    rw (low-cons f y s h.each k.shorter) (omega (arith, lins))
  where
    sides : ((c ≡ a.up_offset) × (a.up_offset ≤ℤ neg_ℤ a.down_offset)) ⊎ ((c ≡ a.down_offset) × (neg_ℤ a.down_offset <ℤ a.up_offset)) → IsFree a y →
        ((pos 0 ≤ℤ c) × (c ≤ℤ offset f y s)) ⊎ (((pos 0 ≤ℤ c) × (c ≤ℤ neg_ℤ (offset f y s))) ⊎ (((c ≤ℤ pos 0) × (neg_ℤ c ≤ℤ offset f y s)) ⊎ ((c ≤ℤ pos 0) × (offset f y s ≤ℤ c))))
    sides (inl m) (inr u) = let offset_at_most : offset f a.up s ≤ℤ offset f y s = offset_mono f a.up y s u in let up_offset_is = k.up_offset_is in let above_zero = k.above in inl (omega (arith, lins), omega (arith, lins))
    sides (inl m) (inl d) = let offset_at_most : offset f y s ≤ℤ offset f a.down s = offset_mono f y a.down s d in let down_offset_is = k.down_offset_is in let above_zero = k.above in
        inr (inl (omega (arith, lins), omega (arith, lins)))
    sides (inr m) (inr u) = let offset_at_most : offset f a.up s ≤ℤ offset f y s = offset_mono f a.up y s u in let up_offset_is = k.up_offset_is in let under_zero = k.under in
        inr (inr (inl (omega (arith, lins), omega (arith, lins))))
    sides (inr m) (inl d) = let offset_at_most : offset f y s ≤ℤ offset f a.down s = offset_mono f y a.down s d in let down_offset_is = k.down_offset_is in let under_zero = k.under in
        inr (inr (inr (omega (arith, lins), omega (arith, lins))))

-- ---- the bound of the value
-- a full vector that ends with a suffix past the second is past it
pub past_second : (f : SearchForm) (p : ℤ) (q t : List ℤ) → IsSearchable f → length (t ++ q) ≡ f.size → (pos (2 ^ 60) *ℤ p) <ℤ low f q → p <ℤ value f.p (t ++ q)
past_second f p q t h k l = step p (low f q) (low f (t ++ q)) (value f.p (t ++ q)) l (low_grows f h t q (omega arith)) (h.below (t ++ q) k)
  where
    step : (p a b v : ℤ) → (pos (2 ^ 60) *ℤ p) <ℤ a → a ≤ℤ b → b ≤ℤ (pos (2 ^ 60) *ℤ v) → p <ℤ v
    step p a b v l g h = omega (arith, polys)

-- no value is below g
pub value_from : (f : SearchForm) (z : List ℤ) → IsSearchable f → length z ≡ f.size → neg_ℤ (pos (2 ^ 52)) ≤ℤ value f.p z
value_from f z h k = last f.g (low f z) (value f.p z) (low_from f z h (omega arith)) (h.below z k) h.g_in
  where
    last : (g l v : ℤ) → (pos (2 ^ 60) *ℤ g) ≤ℤ l → l ≤ℤ (pos (2 ^ 60) *ℤ v) → unsigned_abs g < 2 ^ 52 → neg_ℤ (pos (2 ^ 52)) ≤ℤ v
    last g l v a b s = omega (arith, polys)
