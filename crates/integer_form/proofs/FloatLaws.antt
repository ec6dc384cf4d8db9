-- The numbers of the columns, by places.
use Rattle.std.proofs.Common.{◌≡◌, ⊎_elim, ℕ, zero, suc, ◌+◌, ◌-◌, ◌^◌, ◌<◌, ◌≤◌, List, [], ◌∷◌, ◌++◌, length, take, ℤ, pos, ◌+ℤ◌, ◌*ℤ◌, unsigned_abs, arith, sym, ap, ap₂, ◌∙◌, refl, subst, add-zero, zero-add, suc-add}
use Rattle.std.proofs.lemmas.Bool.{cases_lt}
use Rattle.whole_math.specs.Vectors.{dot, scaled}
use Rattle.whole_math.proofs.Vectors.{dot_last}
use Rattle.quadratic_form.specs.Places.{list_from}
use Rattle.quadratic_form.proofs.Places.{list_same, len_list, later}
use Rattle.quadratic_form.specs.Tables.{entry, item}
use Rattle.integer_form.specs.Factors.{stored}
use Rattle.integer_form.specs.FloatPoint.{next_number, solved, baseline_at, HasWide, HasWideBefore}
use Rattle.integer_form.proofs.PlaceLaws.{list_last, list_whole}

-- ---- lists
pub list_item : (f : ℕ → ℤ) (j k i : ℕ) → i < k → item (list_from f j k) i ≡ f (j + i)
list_item f j zero i h = absurd (omega arith)
list_item f j (suc k) zero h = ap f (sym (add-zero j))
list_item f j (suc k) (suc i) h = list_item f (suc j) k i (omega arith) ∙ ap f (later j i)

pub list_past : (f : ℕ → ℤ) (j k i : ℕ) → k ≤ i → item (list_from f j k) i ≡ pos 0
list_past f j zero i h = refl
list_past f j (suc k) zero h = absurd (omega arith)
list_past f j (suc k) (suc i) h = list_past f (suc j) k i (omega arith)

pub length_scaled : (k : ℤ) (z : List ℤ) → length (scaled k z) ≡ length z
length_scaled k [] = refl
length_scaled k (x ∷ z) = ap (λ n. suc n) (length_scaled k z)

item_scaled : (k : ℤ) (z : List ℤ) (i : ℕ) → i < length z → item (scaled k z) i ≡ k *ℤ item z i
item_scaled k [] i h = absurd (omega arith)
item_scaled k (x ∷ z) zero h = refl
item_scaled k (x ∷ z) (suc i) h = item_scaled k z i (omega arith)

pub list_scaled : (f : ℕ → ℤ) (k : ℤ) (z : List ℤ) (j : ℕ) → ((i : ℕ) → i < length z → f (j + i) ≡ k *ℤ item z i) → list_from f j (length z) ≡ scaled k z
list_scaled f k z j h = ap (λ (n : ℕ). list_from f j n) (sym (length_scaled k z))
    ∙ list_whole f (scaled k z) j (λ i l. h i (subst (λ (n : ℕ). i < n) (length_scaled k z) l) ∙ sym (item_scaled k z i (subst (λ (n : ℕ). i < n) (length_scaled k z) l)))

-- ---- a sum with the constant at its end
pub sum_with_constant : (a b : ℕ → ℤ) (u : ℤ) (j n : ℕ) → dot (list_from a j (suc n)) (list_from b j n ++ (u ∷ [])) ≡ dot (list_from a j n) (list_from b j n) +ℤ a (j + n) *ℤ u
sum_with_constant a b u j n = ap (λ (s : List ℤ). dot s (list_from b j n ++ (u ∷ []))) (list_last a j n)
    ∙ dot_last (a (j + n)) u (list_from a j n) (list_from b j n) (len_list a j n ∙ sym (len_list b j n))

-- ---- one more column at the front
pub solved_more : (d : List ℤ) (l : List (List ℤ)) (n j k : ℕ) (x y s : List ℤ) (v : ℤ) → suc j < n → list_from (item x) (suc j) (n - 1 - suc j) ≡ solved (stored d l n (suc j) k) s →
    v ≡ next_number (list_from (λ i. entry l i j) (suc j) (n - j - 1)) (list_from (item x) (suc j) (n - 1 - suc j)) → item y j ≡ v → ((i : ℕ) → j < i → item y i ≡ item x i) →
    list_from (item y) j (n - 1 - j) ≡ solved (stored d l n j (suc k)) s
solved_more d l n j k x y s v h e f g o =
    let count : n - 1 - j ≡ suc (n - 1 - suc j) = omega arith in
    ap (λ (m : ℕ). list_from (item y) j m) count
    ∙ ap₂ (λ (z : ℤ) (t : List ℤ). z ∷ t) (g ∙ f ∙ ap (λ (t : List ℤ). next_number (list_from (λ i. entry l i j) (suc j) (n - j - 1)) t) e)
    (list_same (item y) (item x) (suc j) (n - 1 - suc j) (λ i a b. o i (omega arith)) ∙ e)

-- ---- the numbers of the columns before
climb : (d : List ℤ) (l : List (List ℤ)) (n m j k i : ℕ) (s : List ℤ) → item (solved (stored d l n j (m + k)) s) (m + i) ≡ item (solved (stored d l n (j + m) k) s) i
climb d l n zero j k i s = ap₂ (λ (a b : ℕ). item (solved (stored d l n j a) s) b) (zero-add k) (zero-add i) ∙ ap (λ (a : ℕ). item (solved (stored d l n a k) s) i) (sym (add-zero j))
climb d l n (suc m) j k i s = ap₂ (λ (a b : ℕ). item (solved (stored d l n j a) s) b) (suc-add m k) (suc-add m i) ∙ climb d l n m (suc j) k i s
    ∙ ap (λ (a : ℕ). item (solved (stored d l n a k) s) i) (later j m)

-- a wide number of column j
pub wide_column : (d : List ℤ) (l : List (List ℤ)) (n j k count : ℕ) (x s : List ℤ) (v : ℤ) → j + suc k ≡ count → list_from (item x) (suc j) (n - 1 - suc j) ≡ solved (stored d l n (suc j) k) s →
    v ≡ next_number (list_from (λ i. entry l i j) (suc j) (n - j - 1)) (list_from (item x) (suc j) (n - 1 - suc j)) → 2 ^ 46 ≤ unsigned_abs v → HasWideBefore count (solved (stored d l n 0 count) s)
wide_column d l n j k count x s v c e f w = (j, (omega arith, subst (λ (z : ℤ). 2 ^ 46 ≤ unsigned_abs z) (sym is) w))
  where
    t : List ℤ
    t = solved (stored d l n (suc j) k) s

    head : item (solved (stored d l n j (suc k)) s) 0 ≡ v
    head = ap (λ (z : List ℤ). next_number (list_from (λ i. entry l i j) (suc j) (n - j - 1)) z) (sym e) ∙ sym f

    is : item (solved (stored d l n 0 count) s) j ≡ v
    is = ap₂ (λ (a b : ℕ). item (solved (stored d l n 0 a) s) b) (sym c) (sym (add-zero j)) ∙ climb d l n j 0 (suc k) 0 s ∙ ap (λ (a : ℕ). item (solved (stored d l n a (suc k)) s) 0) (zero-add j) ∙ head

-- ---- the baseline's three numbers
item_of_three : (a b c : ℤ) (s : List ℤ) (i : ℕ) → i < 3 → item (take 3 (a ∷ (b ∷ (c ∷ s)))) i ≡ item (a ∷ (b ∷ (c ∷ s))) i
item_of_three a b c s zero h = refl
item_of_three a b c s (suc zero) h = refl
item_of_three a b c s (suc (suc zero)) h = refl
item_of_three a b c s (suc (suc (suc i))) h = absurd (omega arith)

pub wide_baseline : (d : List ℤ) (l : List (List ℤ)) (columns : ℕ) (z : List ℤ) → HasWideBefore 3 (solved (stored d l columns 0 3) (scaled (pos (2 ^ 16)) z)) → HasWide (baseline_at d l columns z)
wide_baseline d l columns z w = (w.0, subst (λ (x : ℤ). 2 ^ 46 ≤ unsigned_abs x) (sym (item_of_three _ _ _ (scaled (pos (2 ^ 16)) z) w.0 w.1.0)) w.1.1)

pub first_three : (f : ℕ → ℤ) (k : ℕ) → take 3 (list_from f 0 (suc (suc (suc k)))) ≡ f 0 ∷ (f 1 ∷ (f 2 ∷ []))
first_three f k = refl

-- no wide number among narrow ones
pub not_wide : (s : List ℤ) → ((i : ℕ) → unsigned_abs (item s i) < 2 ^ 46) → HasWide s → ⊥
not_wide s h w = let is_small : unsigned_abs (item s w.0) < 2 ^ 46 = h w.0 in absurd (omega (arith, is_small, w.1))

-- ---- the baseline, from the numbers x that the integers' numbers y give
pub baseline_is : (d : List ℤ) (l : List (List ℤ)) (columns : ℕ) (x y z : List ℤ) → 4 ≤ columns → length z ≡ columns - 4 → list_from (item y) 3 (length z) ≡ scaled (pos (2 ^ 16)) z →
    list_from (item x) 0 (columns - 1) ≡ solved (stored d l columns 0 3) (list_from (item y) 3 (columns - 1 - 3)) → (item x 0 ∷ (item x 1 ∷ (item x 2 ∷ []))) ≡ baseline_at d l columns z
baseline_is d l columns x y z h e f g =
    let count : suc (suc (suc (columns - 4))) ≡ columns - 1 = omega arith in
    let left : columns - 1 - 3 ≡ length z = omega arith in
    sym (first_three (item x) (columns - 4)) ∙ ap (λ (n : ℕ). take 3 (list_from (item x) 0 n)) count ∙ ap (λ (s : List ℤ). take 3 s) g
    ∙ ap (λ (s : List ℤ). take 3 (solved (stored d l columns 0 3) s)) (ap (λ (n : ℕ). list_from (item y) 3 n) left ∙ f)

pub baseline_wide : (d : List ℤ) (l : List (List ℤ)) (columns : ℕ) (y z : List ℤ) → length z ≡ columns - 4 → 4 ≤ columns → list_from (item y) 3 (length z) ≡ scaled (pos (2 ^ 16)) z →
    HasWideBefore 3 (solved (stored d l columns 0 3) (list_from (item y) 3 (columns - 1 - 3))) → HasWide (baseline_at d l columns z)
baseline_wide d l columns y z e h f w =
    let left : columns - 1 - 3 ≡ length z = omega arith in
    wide_baseline d l columns z (subst (λ (s : List ℤ). HasWideBefore 3 (solved (stored d l columns 0 3) s)) (ap (λ (n : ℕ). list_from (item y) 3 n) left ∙ f) w)

pub narrow_three : (a b c : ℤ) → unsigned_abs a < 2 ^ 46 → unsigned_abs b < 2 ^ 46 → unsigned_abs c < 2 ^ 46 → (i : ℕ) → unsigned_abs (item (a ∷ (b ∷ (c ∷ []))) i) < 2 ^ 46
narrow_three a b c x y z zero = x
narrow_three a b c x y z (suc zero) = y
narrow_three a b c x y z (suc (suc zero)) = z
narrow_three a b c x y z (suc (suc (suc i))) = omega arith

-- ---- all numbers of a form, which stand in the list x
pub float_item : (n : ℕ) (x s : List ℤ) → list_from (item x) 0 n ≡ s → ((i : ℕ) → n ≤ i → item x i ≡ pos 0) → (j : ℕ) → item x j ≡ item s j
float_item n x s e h j = ⊎_elim (λ (l : j < n). sym (ap (λ (i : ℕ). item x i) (zero-add j)) ∙ sym (list_item (item x) 0 n j l) ∙ ap (λ (t : List ℤ). item t j) e)
    (λ (l : n ≤ j). h j l ∙ sym (list_past (item x) 0 n j l) ∙ ap (λ (t : List ℤ). item t j) e) (cases_lt j n)
