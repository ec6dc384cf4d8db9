-- Suffixes of vectors in arrays, and sums over them.
use Rattle.std.proofs.Common.{◌≡◌, ℕ, zero, suc, ◌+◌, ◌-◌, ◌<◌, ◌≤◌, List, [], ◌∷◌, ◌++◌, length, get_or, set, drop, take, ℤ, pos, ◌+ℤ◌, ◌*ℤ◌, arith, refl, ap, ap₂, ◌∙◌, add-one}
use Rattle.std.proofs.Common.{length-drop, length-take}
use Rattle.std.proofs.lemmas.Int.{ints}
use Rattle.whole_math.specs.Vectors.{dot}
use Rattle.quadratic_form.specs.Places.{list_from}
use Rattle.int_search.specs.Levels.{tail_of}
use Rattle.int_search.specs.Vectors.{suffix}

cut_cons : (z : List ℤ) (i n : ℕ) → i < n → n ≤ length z → suffix z i n ≡ get_or z i (pos 0) ∷ suffix z (suc i) n
unfolding suffix
cut_cons z i zero h k = absurd (omega arith)
cut_cons [] i (suc n) h k = absurd (omega arith)
cut_cons (x ∷ z) zero (suc n) h k = refl
cut_cons (x ∷ z) (suc i) (suc n) h k = cut_cons z i n (omega arith) (omega arith)

pub suffix-none : (z : List ℤ) (i n : ℕ) → n ≤ i → suffix z i n ≡ []
unfolding suffix
suffix-none z zero zero h = refl
suffix-none z (suc i) zero h = refl
suffix-none z zero (suc n) h = absurd (omega arith)
suffix-none [] (suc i) (suc n) h = refl
suffix-none (x ∷ z) (suc i) (suc n) h = suffix-none z i n (omega arith)

cut_set : (z : List ℤ) (i n : ℕ) (x : ℤ) → i < n → n ≤ length z → suffix (set z i x) i n ≡ x ∷ suffix z (suc i) n
unfolding suffix
cut_set z i zero x h k = absurd (omega arith)
cut_set [] i (suc n) x h k = absurd (omega arith)
cut_set (y ∷ z) zero (suc n) x h k = refl
cut_set (y ∷ z) (suc i) (suc n) x h k = cut_set z i n x (omega arith) (omega arith)

pub suffix-above : (z : List ℤ) (i k n : ℕ) (x : ℤ) → i < k → suffix (set z i x) k n ≡ suffix z k n
unfolding suffix
suffix-above z i zero n x h = absurd (omega arith)
suffix-above [] i (suc k) n x h = refl
suffix-above (y ∷ z) i (suc k) zero x h = refl
suffix-above (y ∷ z) zero (suc k) (suc n) x h = refl
suffix-above (y ∷ z) (suc i) (suc k) (suc n) x h = suffix-above z i k n x (omega arith)

drop_tail : (l : List ℤ) (i : ℕ) → tail_of (drop i l) ≡ drop (suc i) l
drop_tail [] zero = refl
drop_tail [] (suc i) = refl
drop_tail (x ∷ l) zero = refl
drop_tail (x ∷ l) (suc i) = drop_tail l i

pub suffix-cons : (z : List ℤ) (i n : ℕ) → i < n → n ≤ length z → suffix z i n ≡ get_or z i (pos 0) ∷ suffix z (i + 1) n
unfolding suffix
suffix-cons z i n h k = let next_is : i + 1 ≡ suc i = add-one i in rw next_is (cut_cons z i n h k)

pub suffix-set : (z : List ℤ) (i n : ℕ) (x : ℤ) → i < n → n ≤ length z → suffix (set z i x) i n ≡ x ∷ suffix z (i + 1) n
unfolding suffix
suffix-set z i n x h k = let next_is : i + 1 ≡ suc i = add-one i in rw next_is (cut_set z i n x h k)

pub suffix-tail : (z : List ℤ) (i n : ℕ) → tail_of (suffix z i n) ≡ suffix z (i + 1) n
unfolding suffix
suffix-tail z i n = let next_is : i + 1 ≡ suc i = add-one i in rw next_is (drop_tail (take n z) i)

pub suffix-length : (z : List ℤ) (i n : ℕ) → n ≤ length z → length (suffix z i n) ≡ n - i
unfolding suffix
suffix-length z i n h = omega (arith, length-drop i (take n z), length-take n z)

pub suffix-all : (z : List ℤ) (n : ℕ) → suffix z 0 n ≡ take n z
unfolding suffix
suffix-all z n = refl

-- ---- sums of places from k on, with the constant's at place n
pub affine_step : (g : ℕ → ℤ) (z : List ℤ) (b k n : ℕ) → k < n → n ≤ length z →
    dot (list_from g (b + k) (n - k + 1)) (suffix z k n ++ pos 1 ∷ []) ≡ (g (b + k) *ℤ get_or z k (pos 0)) +ℤ dot (list_from g (b + (k + 1)) (n - (k + 1) + 1)) (suffix z (k + 1) n ++ pos 1 ∷ [])
affine_step g z b k n h m =
    let one_more_left : n - k + 1 ≡ suc (n - (k + 1) + 1) = omega arith in
    let place_after : suc (b + k) ≡ b + (k + 1) = omega arith in
    ap₂ (λ c v. dot (list_from g (b + k) c) (v ++ pos 1 ∷ [])) one_more_left (suffix-cons z k n h m)
    ∙ ap (λ j. (g (b + k) *ℤ get_or z k (pos 0)) +ℤ dot (list_from g j (n - (k + 1) + 1)) (suffix z (k + 1) n ++ pos 1 ∷ [])) place_after

pub affine_end : (g : ℕ → ℤ) (z : List ℤ) (b n : ℕ) → dot (list_from g (b + n) (n - n + 1)) (suffix z n n ++ pos 1 ∷ []) ≡ g (b + n)
affine_end g z b n =
    let one_left : n - n + 1 ≡ suc 0 = omega arith in
    ap₂ (λ c v. dot (list_from g (b + n) c) (v ++ pos 1 ∷ [])) one_left (suffix-none z n n (omega arith)) ∙ last (g (b + n))
  where
    last : (x : ℤ) → (x *ℤ pos 1) +ℤ pos 0 ≡ x
    last x = omega (arith, ints)
