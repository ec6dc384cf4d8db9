-- Vectors under a map, place by place.
use Rattle.std.proofs.Common.{◌≡◌, ◌≢◌, ◌⊎◌, inl, inr, ◌^◌, lit<, unsigned_abs, subst, ℕ, zero, suc, ◌+◌, ◌<◌, ◌≤◌, List, [], ◌∷◌, length, get_or, drop, take, ℤ, pos, ◌+ℤ◌, ◌*ℤ◌, arith}
use Rattle.std.proofs.Common.{refl, ap, ap₂, sym, ◌∙◌, add-one, length-take, set, below_more, get_or-set_same, get_or-set_other}
use Rattle.std.proofs.lemmas.Int.{ints}
use Rattle.std.proofs.lemmas.Bool.{cases_lt, cases_eq}
use Rattle.whole_math.specs.Vectors.{dot}
use Rattle.quadratic_form.specs.Maps.{apply}
use Rattle.quadratic_form.proofs.LowerSums.{dot_nil}
use Rattle.quadratic_form.specs.Matrices.{EntriesBelow}
use Rattle.quadratic_form.specs.Tables.{entry, HasShape}
use Rattle.int_search.specs.Vectors.{suffix}
use Rattle.int_search.specs.Images.{image_of}
use Rattle.int_search.proofs.SuffixArrays.{suffix-cons, suffix-none, suffix-length}

-- ---- the product of a row, from place k on
drop_at : (r : List ℤ) (k : ℕ) → k < length r → drop k r ≡ get_or r k (pos 0) ∷ drop (k + 1) r
drop_at r k h = let next_is : k + 1 ≡ suc k = add-one k in rw next_is (go r k h)
  where
    go : (r : List ℤ) (k : ℕ) → k < length r → drop k r ≡ get_or r k (pos 0) ∷ drop (suc k) r
    go [] k h = absurd (omega arith)
    go (x ∷ r) zero h = refl
    go (x ∷ r) (suc k) h = go r k (omega arith)

pub product_step : (r z : List ℤ) (k n : ℕ) → k < n → n ≤ length z → n ≤ length r →
    dot (drop k r) (suffix z k n) ≡ (get_or r k (pos 0) *ℤ get_or z k (pos 0)) +ℤ dot (drop (k + 1) r) (suffix z (k + 1) n)
product_step r z k n h g m = ap₂ (λ u v. dot u v) (drop_at r k (omega arith)) (suffix-cons z k n h g)

pub product_end : (r z : List ℤ) (n : ℕ) → dot (drop n r) (suffix z n n) ≡ pos 0
product_end r z n = ap (λ v. dot (drop n r) v) (suffix-none z n n (omega arith)) ∙ dot_nil (drop n r)

-- ---- the image, place by place
length_apply : (m : List (List ℤ)) (v : List ℤ) → length (apply m v) ≡ length m
length_apply [] v = refl
length_apply (r ∷ m) v = ap (λ k. suc k) (length_apply m v)

pub image_length : (m : List (List ℤ)) (n : ℕ) (v : List ℤ) → n ≤ length m → length (image_of m n v) ≡ n
image_length m n v h = length_apply (take n m) v ∙ (let taken_length = length-take n m in omega arith)

pub image_at : (m : List (List ℤ)) (n i : ℕ) (v : List ℤ) → i < n → n ≤ length m → get_or (image_of m n v) i (pos 0) ≡ dot (get_or m i []) v
image_at m zero i v h g = absurd (omega arith)
image_at [] (suc n) i v h g = absurd (omega arith)
image_at (r ∷ m) (suc n) zero v h g = refl
image_at (r ∷ m) (suc n) (suc i) v h g = image_at m n i v (omega arith) (omega arith)

-- lists of one length with the same entries are equal
pub same_entries : (a b : List ℤ) → length a ≡ length b → ((k : ℕ) → k < length a → get_or a k (pos 0) ≡ get_or b k (pos 0)) → a ≡ b
same_entries [] [] e h = refl
same_entries [] (y ∷ b) e h = absurd (omega arith)
same_entries (x ∷ a) [] e h = absurd (omega arith)
same_entries (x ∷ a) (y ∷ b) e h = ap₂ (λ z s. z ∷ s) (h 0 (omega arith)) (same_entries a b (omega arith) (λ k l. h (suc k) (omega arith)))

pub suffix_at : (z : List ℤ) (n k : ℕ) → k < n → n ≤ length z → get_or (suffix z 0 n) k (pos 0) ≡ get_or z k (pos 0)
unfolding suffix
suffix_at z zero k h g = absurd (omega arith)
suffix_at [] (suc n) k h g = absurd (omega arith)
suffix_at (x ∷ z) (suc n) zero h g = refl
suffix_at (x ∷ z) (suc n) (suc k) h g = suffix_at z n k (omega arith) (omega arith)

-- ---- the identity
-- a row of zeros but for 1 at place i
dot_zeros : (r v : List ℤ) → ((j : ℕ) → get_or r j (pos 0) ≡ pos 0) → dot r v ≡ pos 0
dot_zeros [] v h = refl
dot_zeros (x ∷ r) [] h = refl
dot_zeros (x ∷ r) (y ∷ v) h = step x y (dot r v) (h 0) (dot_zeros r v (λ j. h (suc j)))
  where
    step : (x y d : ℤ) → x ≡ pos 0 → d ≡ pos 0 → (x *ℤ y) +ℤ d ≡ pos 0
    step x y d e g = rw (e, g) (omega (arith, ints))

pub dot_unit : (r v : List ℤ) (i : ℕ) → i < length v → i < length r → get_or r i (pos 0) ≡ pos 1 → ((j : ℕ) → j ≢ i → get_or r j (pos 0) ≡ pos 0) → dot r v ≡ get_or v i (pos 0)
dot_unit [] v i h g e o = absurd (omega arith)
dot_unit (x ∷ r) [] i h g e o = absurd (omega arith)
dot_unit (x ∷ r) (y ∷ v) zero h g e o = step x y (dot r v) e (dot_zeros r v (λ j. o (suc j) (omega arith)))
  where
    step : (x y d : ℤ) → x ≡ pos 1 → d ≡ pos 0 → (x *ℤ y) +ℤ d ≡ y
    step x y d e g = rw (e, g) (omega (arith, ints))
dot_unit (x ∷ r) (y ∷ v) (suc i) h g e o = step x y (dot r v) (get_or v i (pos 0)) (o 0 (omega arith)) (dot_unit r v i (omega arith) (omega arith) e (λ j d. o (suc j) (omega arith)))
  where
    step : (x y d w : ℤ) → x ≡ pos 0 → d ≡ w → (x *ℤ y) +ℤ d ≡ w
    step x y d w e g = rw (e, g) (omega (arith, ints))

-- 1 on the diagonal up to place n, and 0 elsewhere
pub identity_entries : (m : List (List ℤ)) (n : ℕ) → ((k : ℕ) → k < n → entry m k k ≡ pos 1) → ((k j : ℕ) → (k ≢ j) ⊎ (n ≤ k) → entry m k j ≡ pos 0) → EntriesBelow (2 ^ 30) m
identity_entries m n own others k j = by_cases (cases_eq k j) (cases_lt k n)
  where
    zero_small : entry m k j ≡ pos 0 → unsigned_abs (entry m k j) < 2 ^ 30
    zero_small e = rw e (lit< tt)

    one_small : entry m k j ≡ pos 1 → unsigned_abs (entry m k j) < 2 ^ 30
    one_small e = rw e (lit< tt)

    by_cases : (k ≡ j) ⊎ (k ≢ j) → (k < n) ⊎ (n ≤ k) → unsigned_abs (entry m k j) < 2 ^ 30
    by_cases (inr d) p = zero_small (others k j (inl d))
    by_cases (inl e) (inr p) = zero_small (others k j (inr p))
    by_cases (inl e) (inl p) = one_small (subst (λ (i : ℕ). entry m k i ≡ pos 1) e (own k p))

pub identity_is : (m : List (List ℤ)) (size n : ℕ) (v : List ℤ) → HasShape size size m → ((k : ℕ) → k < size → entry m k k ≡ pos 1) → ((k j : ℕ) → k ≢ j → entry m k j ≡ pos 0) → n ≤ size →
    length v ≡ n → image_of m n v ≡ v
identity_is m size n v s own others h e = same_entries (image_of m n v) v (l ∙ sym e) (λ k g. at k (rw (← l) g))
  where
    l : length (image_of m n v) ≡ n
    l = image_length m n v (let same_rows = s.rows in omega arith)

    at : (k : ℕ) → k < n → get_or (image_of m n v) k (pos 0) ≡ get_or v k (pos 0)
    at k g = image_at m n k v g (let same_rows = s.rows in omega arith)
        ∙ dot_unit (get_or m k []) v k (omega arith) (let row_full = s.columns k (omega arith) in omega arith) (own k (omega arith)) (λ j d. others k j (λ i. d (sym i)))

-- ---- the loop that writes an image
pub done_set : (m : List (List ℤ)) (v y : List ℤ) (i : ℕ) (x : ℤ) → i < length y → ((k : ℕ) → k < i → get_or y k (pos 0) ≡ dot (get_or m k []) v) → x ≡ dot (get_or m i []) v → (k : ℕ) →
    k < i + 1 → get_or (set y i x) k (pos 0) ≡ dot (get_or m k []) v
done_set m v y i x l h e = below_more _ _
    (λ k g. let not_there : k ≢ i = omega arith in rw get_or-set_other (h k g))
    (rw get_or-set_same e)

pub image_done : (m : List (List ℤ)) (v y : List ℤ) (n : ℕ) → n ≤ length y → n ≤ length m → ((k : ℕ) → k < n → get_or y k (pos 0) ≡ dot (get_or m k []) v) → suffix y 0 n ≡ image_of m n v
image_done m v y n h g d = same_entries (suffix y 0 n) (image_of m n v) (l ∙ sym (image_length m n v g)) (λ k i. let place_below : k < n = rw (← l) i in suffix_at y n k place_below h ∙ d k place_below ∙ sym (image_at m n k v place_below g))
  where
    l : length (suffix y 0 n) ≡ n
    l = let suffix_long = suffix-length y 0 n h in omega arith
