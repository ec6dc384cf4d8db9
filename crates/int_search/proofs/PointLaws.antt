-- The rounded point and its neighbour, and small arrays with zeros at the end.
use Rattle.std.proofs.Common.{◌≡◌, ◌⊎◌, inl, inr, ℕ, zero, suc, ◌+◌, ◌-◌, ◌<◌, ◌≤◌, ◌^◌, List, [], ◌∷◌, ◌++◌, length, get_or, set, ℤ, pos, negsuc, ◌+ℤ◌, ◌*ℤ◌, neg_ℤ, ◌<ℤ◌, ◌≤ℤ◌, arith}
use Rattle.std.proofs.Common.{unsigned_abs, refl, ap, ap₂, sym, ◌∙◌, subst, replicate, length-append, take, drop, not-le_of_lt}
use Rattle.std.proofs.lemmas.Int.{ints, clamps}
use Rattle.whole_math.specs.Rounding.{nearest_div}
use Rattle.whole_math.proofs.Order.{polys}
use Rattle.quadratic_form.specs.Rows.{value}
use Rattle.int_search.specs.Suffixes.{SearchForm, IsSearchable, rest, offset, low}
use Rattle.int_search.specs.PlainCount.{rounded, neighbour, first_moved, side, top, Counts, HasLarge}
use Rattle.int_search.proofs.SuffixLaws.{low_grows}
use Rattle.integer_form.specs.Kept.{IsZeroFrom}
use Rattle.int_search.specs.Vectors.{IsSmall, Holds, suffix}
use Rattle.int_search.proofs.SuffixArrays.{suffix-set, suffix-none, suffix-cons}

pub rounded-suc : (f : SearchForm) (n : ℕ) → rounded f (suc n) ≡ nearest_div (neg_ℤ (rest f (rounded f n))) (2 ^ 30) ∷ rounded f n
unfolding rounded
rounded-suc f n = refl

pub rounded-zero : (f : SearchForm) → rounded f 0 ≡ []
unfolding rounded
rounded-zero f = refl

pub rounded_length : (f : SearchForm) (n : ℕ) → length (rounded f n) ≡ n
rounded_length f zero = ap length (rounded-zero f)
rounded_length f (suc n) = ap length (rounded-suc f n) ∙ ap (λ k. suc k) (rounded_length f n)

pub rounded_split : (f : SearchForm) (k n : ℕ) → k ≤ n → (front : List ℤ) × (rounded f n ≡ front ++ rounded f k)
rounded_split f k zero h = let none_left : 0 ≡ k = omega arith in ([], ap (rounded f) none_left)
rounded_split f k (suc n) h = go (same_or_less k n h) (λ l. rounded_split f k n l)
  where
    same_or_less : (k n : ℕ) → k ≤ suc n → (suc n ≡ k) ⊎ (k ≤ n)
    same_or_less k n h = grind arith

    go : (suc n ≡ k) ⊎ (k ≤ n) → (k ≤ n → (front : List ℤ) × (rounded f n ≡ front ++ rounded f k)) → (front : List ℤ) × (rounded f (suc n) ≡ front ++ rounded f k)
    go (inl e) before = ([], ap (rounded f) e)
    go (inr l) before = let earlier_split = before l in (nearest_div (neg_ℤ (rest f (rounded f n))) (2 ^ 30) ∷ earlier_split.0, rounded-suc f n ∙ ap (λ s. nearest_div (neg_ℤ (rest f (rounded f n))) (2 ^ 30) ∷ s) earlier_split.1)

pub top_first : (f : SearchForm) → value f.p (rounded f f.size) ≤ℤ top f
unfolding top
top_first f = omega (arith, ints, clamps)

pub top_second : (f : SearchForm) → value f.p (neighbour f) ≤ℤ top f
unfolding top
top_second f = omega (arith, ints, clamps)

pub top_small : (f : SearchForm) (p q : ℤ) → p ≡ value f.p (rounded f f.size) → q ≡ value f.p (neighbour f) → p <ℤ pos (2 ^ 62) → q <ℤ pos (2 ^ 62) → top f <ℤ pos (2 ^ 62)
unfolding top
top_small f p q a b h k = omega (arith, ints, clamps)

pub counts_end : (f : SearchForm) (t q : List ℤ) → IsSearchable f → length (t ++ q) ≡ f.size → 0 < length q → value f.p (t ++ q) ≤ℤ top f → Counts f q
counts_end f t q h k n m =
    let low_at_most : low f q ≤ℤ low f (t ++ q) = low_grows f h t q (omega arith) in
    let low_below_value : low f (t ++ q) ≤ℤ (pos (2 ^ 60) *ℤ value f.p (t ++ q)) = h.below (t ++ q) k in
    let joined_length : length (t ++ q) ≡ length t + length q = length-append t q in
    record { some = n; most = omega arith; within = last (low f q) (low f (t ++ q)) (value f.p (t ++ q)) (top f) low_at_most low_below_value m }
  where
    last : (a b v t : ℤ) → a ≤ℤ b → b ≤ℤ (pos (2 ^ 60) *ℤ v) → v ≤ℤ t → a ≤ℤ (pos (2 ^ 60) *ℤ t)
    last a b v t h k l = omega (arith, polys)

pub neighbour_is : (f : SearchForm) (x : ℤ) (s : List ℤ) → rounded f f.size ≡ x ∷ s → neighbour f ≡ (x +ℤ side (offset f x s)) ∷ s
unfolding neighbour
neighbour_is f x s e = ap (first_moved f) e

pub neighbour_length : (f : SearchForm) → 0 < f.size → length (neighbour f) ≡ f.size
neighbour_length f h = go (rounded f f.size) refl (rounded_length f f.size)
  where
    go : (v : List ℤ) → rounded f f.size ≡ v → length v ≡ f.size → length (neighbour f) ≡ f.size
    go [] g l = absurd (omega arith)
    go (x ∷ s) g l = ap length (neighbour_is f x s g) ∙ l

-- a vector that is one of the two
pub within_top : (f : SearchForm) (v w : List ℤ) → w ≡ v → value f.p v ≤ℤ top f → value f.p w ≤ℤ top f
within_top f v w e h = subst (λ (u : List ℤ). value f.p u ≤ℤ top f) (sym e) h

-- ---- the side
pub side_up : (c : ℤ) → c ≤ℤ pos 0 → side c ≡ pos 1
side_up (pos zero) h = refl
side_up (pos (suc n)) h = absurd (omega (arith, ints))
side_up (negsuc n) h = refl

pub side_down : (c : ℤ) → pos 0 <ℤ c → side c ≡ negsuc 0
side_down (pos zero) h = absurd (omega (arith, ints))
side_down (pos (suc n)) h = refl
side_down (negsuc n) h = absurd (omega (arith, ints))

pub side_moves : (c : ℤ) → side c ≡ pos 0 → ⊥
side_moves (pos zero) h = cc
side_moves (pos (suc n)) h = cc
side_moves (negsuc n) h = cc

-- ---- small arrays
pub small_set : (z : List ℤ) (i : ℕ) (x : ℤ) → IsSmall z → unsigned_abs x < 2 ^ 30 → IsSmall (set z i x)
small_set [] i x h k j = h j
small_set (y ∷ z) zero x h k zero = k
small_set (y ∷ z) zero x h k (suc j) = h (suc j)
small_set (y ∷ z) (suc i) x h k zero = h 0
small_set (y ∷ z) (suc i) x h k (suc j) = small_set z i x (λ m. h (suc m)) k j

pub small_zero : (n : ℕ) → IsSmall (replicate n (pos 0))
small_zero zero zero = omega arith
small_zero zero (suc i) = omega arith
small_zero (suc n) zero = omega arith
small_zero (suc n) (suc i) = small_zero n i

-- ---- the loop that rounds
pub rounded_next : (f : SearchForm) (z : List ℤ) (i : ℕ) (x : ℤ) → f.size ≤ length z → i < f.size → suffix z (i + 1) f.size ≡ rounded f (f.size - (i + 1)) →
    x ≡ nearest_div (neg_ℤ (rest f (suffix z (i + 1) f.size))) (2 ^ 30) →
    suffix (set z i x) i f.size ≡ rounded f (f.size - i)
rounded_next f z i x k h e g =
    let size_left : f.size - i ≡ suc (f.size - (i + 1)) = omega arith in
    suffix-set z i f.size x h k ∙ ap₂ (λ u v. u ∷ v) (g ∙ ap (λ v. nearest_div (neg_ℤ (rest f v)) (2 ^ 30)) e) e ∙ sym (rounded-suc f (f.size - (i + 1))) ∙ ap (rounded f) (sym size_left)

pub rounded_first : (f : SearchForm) (z : List ℤ) → suffix z f.size f.size ≡ rounded f (f.size - f.size)
rounded_first f z = let none_left : 0 ≡ f.size - f.size = omega arith in suffix-none z f.size f.size (omega arith) ∙ sym (rounded-zero f) ∙ ap (rounded f) none_left

-- ---- the neighbour
pub point_head : (f : SearchForm) (z : List ℤ) → f.size ≤ length z → 0 < f.size → suffix z 0 f.size ≡ rounded f f.size → rounded f f.size ≡ get_or z 0 (pos 0) ∷ suffix z 1 f.size
point_head f z k h e = sym e ∙ suffix-cons z 0 f.size h k

pub neighbour_set : (f : SearchForm) (z : List ℤ) (y : ℤ) → f.size ≤ length z → 0 < f.size → suffix z 0 f.size ≡ rounded f f.size →
    y ≡ get_or z 0 (pos 0) +ℤ side (offset f (get_or z 0 (pos 0)) (suffix z 1 f.size)) →
    suffix (set z 0 y) 0 f.size ≡ neighbour f
neighbour_set f z y k h e g = suffix-set z 0 f.size y h k ∙ ap (λ x. x ∷ suffix z 1 f.size) g ∙ sym (neighbour_is f (get_or z 0 (pos 0)) (suffix z 1 f.size) (point_head f z k h e))

pub neighbour_differs : (f : SearchForm) → 0 < f.size → rounded f f.size ≡ neighbour f → ⊥
neighbour_differs f h e = go (rounded f f.size) refl (rounded_length f f.size)
  where
    head_of : (x y : ℤ) (s t : List ℤ) → x ∷ s ≡ y ∷ t → x ≡ y
    head_of x y s t e = cc

    zero_from : (x c : ℤ) → x ≡ x +ℤ c → c ≡ pos 0
    zero_from x c e = omega (arith, ints)

    go : (v : List ℤ) → rounded f f.size ≡ v → length v ≡ f.size → ⊥
    go [] g l = omega arith
    go (x ∷ s) g l = side_moves (offset f x s) (zero_from x (side (offset f x s)) (head_of x (x +ℤ side (offset f x s)) s s (sym g ∙ e ∙ neighbour_is f x s g)))

-- ---- arrays with nothing from place n on
pub zeros_set : (z : List ℤ) (n i : ℕ) (x : ℤ) → i < n → IsZeroFrom n z → IsZeroFrom n (set z i x)
zeros_set [] n i x h k j g = k j g
zeros_set (y ∷ z) n zero x h k zero g = absurd (omega arith)
zeros_set (y ∷ z) n zero x h k (suc j) g = k (suc j) g
zeros_set (y ∷ z) n (suc i) x h k zero g = k 0 g
zeros_set (y ∷ z) zero (suc i) x h k (suc j) g = absurd (omega arith)
zeros_set (y ∷ z) (suc n) (suc i) x h k (suc j) g = zeros_set z n i x (omega arith) (λ m p. k (suc m) (omega arith)) j (omega arith)

pub zeros_start : (m n : ℕ) → IsZeroFrom n (replicate m (pos 0))
zeros_start zero n zero g = refl
zeros_start zero n (suc i) g = refl
zeros_start (suc m) n zero g = refl
zeros_start (suc m) n (suc i) g = zeros_start m 0 i (omega arith)

-- ---- large entries
large_after : (g s : List ℤ) → HasLarge s → HasLarge (g ++ s)
large_after [] s h = h
large_after (x ∷ g) s h = let later = large_after g s h in (suc later.0, later.1)

pub rounded_is_large : (f : SearchForm) (z : List ℤ) (i : ℕ) (x : ℤ) → i < f.size → suffix z (i + 1) f.size ≡ rounded f (f.size - (i + 1)) →
    x ≡ nearest_div (neg_ℤ (rest f (suffix z (i + 1) f.size))) (2 ^ 30) →
    2 ^ 30 ≤ unsigned_abs x → HasLarge (rounded f f.size)
rounded_is_large f z i x h e g w =
    let k : ℕ = f.size - (i + 1) in
    let is_nearest : x ≡ nearest_div (neg_ℤ (rest f (rounded f k))) (2 ^ 30) = g ∙ ap (λ v. nearest_div (neg_ℤ (rest f v)) (2 ^ 30)) e in
    let split = rounded_split f (suc k) f.size (omega arith) in
    let large_head : HasLarge (nearest_div (neg_ℤ (rest f (rounded f k))) (2 ^ 30) ∷ rounded f k) = (0, subst (λ (y : ℤ). 2 ^ 30 ≤ unsigned_abs y) is_nearest w) in
    subst HasLarge (sym (split.1 ∙ ap (λ s. split.0 ++ s) (rounded-suc f k))) (large_after split.0 (nearest_div (neg_ℤ (rest f (rounded f k))) (2 ^ 30) ∷ rounded f k) large_head)

pub neighbour_is_large : (f : SearchForm) (x y : ℤ) (s : List ℤ) → rounded f f.size ≡ x ∷ s → y ≡ x +ℤ side (offset f x s) → 2 ^ 30 ≤ unsigned_abs y → HasLarge (neighbour f)
neighbour_is_large f x y s e m w =
    let large_head : HasLarge (y ∷ s) = (0, w) in
    subst HasLarge (sym (neighbour_is f x s e ∙ ap (λ z. z ∷ s) (sym m))) large_head

take_small : (n : ℕ) (z : List ℤ) → IsSmall z → IsSmall (take n z)
take_small zero z h zero = omega arith
take_small zero z h (suc i) = omega arith
take_small (suc n) [] h i = h i
take_small (suc n) (x ∷ z) h zero = h zero
take_small (suc n) (x ∷ z) h (suc i) = take_small n z (λ m. h (suc m)) i

drop_small : (n : ℕ) (z : List ℤ) → IsSmall z → IsSmall (drop n z)
drop_small zero z h i = h i
drop_small (suc n) [] h i = h i
drop_small (suc n) (x ∷ z) h i = drop_small n z (λ m. h (suc m)) i

-- no entry of a small array is large
pub small_suffix : (z : List ℤ) (i n : ℕ) → IsSmall z → HasLarge (suffix z i n) → ⊥
unfolding suffix
small_suffix z i n h l = not-le_of_lt (drop_small i (take n z) (take_small n z h) l.0) l.1

pub held_small : (n : ℕ) (z v : List ℤ) → Holds n z v → HasLarge v → ⊥
held_small n z v h l = small_suffix z 0 n h.small (subst HasLarge (sym h.is) l)
