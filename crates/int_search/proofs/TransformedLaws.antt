-- The form in the coordinates of a map has at each vector the value that the form has at its image.
use Rattle.std.proofs.Common.{ℕ, zero, suc, nat_lt, nat_eq, false, ◌≡◌, ◌⊎◌, inl, inr, ⊎_elim, ◌+◌, ◌<◌, ◌≤◌, List, [], ◌∷◌, ◌++◌, length, get_or, ℤ, pos, ◌+ℤ◌, ◌*ℤ◌, arith, sym, zero-add}
use Rattle.std.proofs.Common.{ap, ap₂, ◌∙◌, refl, length-append}
use Rattle.std.proofs.lemmas.Bool.{lt-ltb, eq-eqb}
use Rattle.whole_math.proofs.Inequalities.{same_by, nat}
use Rattle.whole_math.proofs.Ring.{◌⊕◌, ◌⊗◌}
use Rattle.whole_math.proofs.IntLaws.{mul_comm_ℤ}
use Rattle.quadratic_form.specs.Forms.{quad}
use Rattle.quadratic_form.specs.Rows.{value}
use Rattle.quadratic_form.specs.Places.{list_from, form_from}
use Rattle.quadratic_form.proofs.Places.{form_same}
use Rattle.quadratic_form.proofs.MatrixEntries.{list_items}
use Rattle.quadratic_form.specs.Tables.{entry, IsZeroOutside}
use Rattle.quadratic_form.specs.Matrices.{IsSymmetric}
use Rattle.int_search.specs.Sums.{total}
use Rattle.int_search.specs.Transformed.{with_constant, half_entry, whole_entry, transformed_entry, transformed_form}
use Rattle.int_search.proofs.TotalLaws.{total_same, total_zero, total_last, exchange}
use Rattle.int_search.proofs.FormSums.{both_sums, quad_sums}

-- ---- symmetry
pub transformed_symmetric : (n : ℕ) (m p : ℕ → ℕ → ℤ) → ((i j : ℕ) → p i j ≡ p j i) → (i j : ℕ) → transformed_entry n m p i j ≡ transformed_entry n m p j i
transformed_symmetric n m p s i j =
    let k : ℕ = n + 1 in
    let c : ℕ → ℕ → ℤ = with_constant n m in
    total_same (λ a. half_entry n m p a j *ℤ c a i) (λ a. total (λ b. p a b *ℤ c b j) 0 k *ℤ c a i) 0 k
    (λ a h g. ap (λ z. z *ℤ c a i) (total_same (λ b. c b j *ℤ p a b) (λ b. p a b *ℤ c b j) 0 k (λ b x y. mul_comm_ℤ (c b j) (p a b))))
    ∙ sym (exchange (λ b. c b j) (λ a. c a i) p 0 k 0 k)
    ∙ total_same (λ b. c b j *ℤ total (λ a. p a b *ℤ c a i) 0 k) (λ b. half_entry n m p b i *ℤ c b j) 0 k
    (λ b h g. ap (λ z. c b j *ℤ z) (total_same (λ a. p a b *ℤ c a i) (λ a. c a i *ℤ p b a) 0 k (λ a x y. mul_comm_ℤ (p a b) (c a i) ∙ ap (λ z. c a i *ℤ z) (s a b)))
    ∙ mul_comm_ℤ (c b j) (half_entry n m p b i))

-- ---- values
-- the image of w under the map with the constant
abbrev image : ℕ → (ℕ → ℕ → ℤ) → (ℕ → ℤ) → ℕ → ℤ
image n m w b = total (λ j. with_constant n m b j *ℤ w j) 0 (n + 1)

both_transformed : (n : ℕ) (m p : ℕ → ℕ → ℤ) (w : ℕ → ℤ) → both_sums (transformed_entry n m p) w 0 (n + 1) ≡ both_sums p (image n m w) 0 (n + 1)
both_transformed n m p w =
    let k : ℕ = n + 1 in
    let c : ℕ → ℕ → ℤ = with_constant n m in
    let v : ℕ → ℤ = λ a. total (λ b. p a b *ℤ image n m w b) 0 k in
    total_same (λ i. w i *ℤ total (λ j. transformed_entry n m p i j *ℤ w j) 0 k) (λ i. w i *ℤ total (λ a. c a i *ℤ v a) 0 k) 0 k
    (λ i h g. ap (λ z. w i *ℤ z) (sym (exchange (λ a. c a i) w (λ j a. half_entry n m p a j) 0 k 0 k)
    ∙ total_same (λ a. c a i *ℤ total (λ j. half_entry n m p a j *ℤ w j) 0 k) (λ a. c a i *ℤ v a) 0 k
    (λ a x y. ap (λ z. c a i *ℤ z) (sym (exchange (λ b. p a b) w (λ j b. c b j) 0 k 0 k)))))
    ∙ exchange w v c 0 k 0 k

-- ---- vectors: z with 1 added at its end
unfoldable with_one : List ℤ → ℕ → ℤ
with_one z c = get_or (z ++ (pos 1 ∷ [])) c (pos 0)

one_list : (n : ℕ) (z : List ℤ) → length z ≡ n → list_from (with_one z) 0 (n + 1) ≡ z ++ (pos 1 ∷ [])
unfolding with_one
one_list n z e = ap (list_from (λ c. get_or (z ++ (pos 1 ∷ [])) c (pos 0)) 0) (sym (length-append z (pos 1 ∷ []) ∙ ap (λ (k : ℕ). k + 1) e)) ∙ list_items (z ++ (pos 1 ∷ []))

one_before : (n : ℕ) (z : List ℤ) (c : ℕ) → length z ≡ n → c < n → with_one z c ≡ get_or z c (pos 0)
unfolding with_one
one_before n z c e h = go z c (omega arith)
  where
    go : (z : List ℤ) (c : ℕ) → c < length z → get_or (z ++ (pos 1 ∷ [])) c (pos 0) ≡ get_or z c (pos 0)
    go [] c h = absurd (omega arith)
    go (x ∷ z) zero h = refl
    go (x ∷ z) (suc c) h = go z c (omega arith)

one_last : (n : ℕ) (z : List ℤ) → length z ≡ n → with_one z n ≡ pos 1
unfolding with_one
one_last n z e = ap (λ c. get_or (z ++ (pos 1 ∷ [])) c (pos 0)) (sym e) ∙ go z
  where
    go : (z : List ℤ) → get_or (z ++ (pos 1 ∷ [])) (length z) (pos 0) ≡ pos 1
    go [] = refl
    go (x ∷ z) = go z

not_less : (n : ℕ) → nat_lt n n ≡ false
not_less n = grind arith

unequal : (n j : ℕ) → j < n → nat_eq n j ≡ false
unequal n j h = grind arith

pub inside : (n : ℕ) (m : ℕ → ℕ → ℤ) (i j : ℕ) → i < n → j < n → with_constant n m i j ≡ m i j
inside n m i j h g = rw (lt-ltb i n h, lt-ltb j n g, with_constant) refl

pub beside : (n : ℕ) (m : ℕ → ℕ → ℤ) (i : ℕ) → i < n → with_constant n m i n ≡ pos 0
beside n m i h = rw (lt-ltb i n h, not_less n, with_constant) refl

pub below : (n : ℕ) (m : ℕ → ℕ → ℤ) (j : ℕ) → j < n → with_constant n m n j ≡ pos 0
below n m j h = rw (not_less n, unequal n j h, with_constant) refl

pub corner : (n : ℕ) (m : ℕ → ℕ → ℤ) → with_constant n m n n ≡ pos 1
corner n m = rw (not_less n, eq-eqb n n refl, with_constant) refl

image_before : (n : ℕ) (m : ℕ → ℕ → ℤ) (z : List ℤ) (b : ℕ) → length z ≡ n → b < n → image n m (with_one z) b ≡ total (λ j. m b j *ℤ get_or z j (pos 0)) 0 n
image_before n m z b e h = total_last (λ j. with_constant n m b j *ℤ with_one z j) 0 n
    ∙ ap₂ (λ x y. x +ℤ y) (total_same (λ j. with_constant n m b j *ℤ with_one z j) (λ j. m b j *ℤ get_or z j (pos 0)) 0 n
    (λ j i g. ap₂ (λ x y. x *ℤ y) (inside n m b j h (omega arith)) (one_before n z j e (omega arith))))
    (ap (λ c. with_constant n m b c *ℤ with_one z c) (zero-add n) ∙ ap (λ x. x *ℤ with_one z n) (beside n m b h))
    ∙ same_by (total (λ j. m b j *ℤ get_or z j (pos 0)) 0 n ∷ with_one z n ∷ []) (λ s x. (s ⊕ nat 0 ⊗ x, s)) refl

image_last : (n : ℕ) (m : ℕ → ℕ → ℤ) (z : List ℤ) → length z ≡ n → image n m (with_one z) n ≡ pos 1
image_last n m z e = total_last (λ j. with_constant n m n j *ℤ with_one z j) 0 n
    ∙ ap₂ (λ x y. x +ℤ y) (total_zero (λ j. with_constant n m n j *ℤ with_one z j) 0 n
    (λ j i g. ap (λ x. x *ℤ with_one z j) (below n m j (omega arith)) ∙ same_by (with_one z j ∷ []) (λ x. (nat 0 ⊗ x, nat 0)) refl))
    (ap (λ c. with_constant n m n c *ℤ with_one z c) (zero-add n) ∙ ap₂ (λ x y. x *ℤ y) (corner n m) (one_last n z e))
    ∙ same_by [] (nat 0 ⊕ nat 1 ⊗ nat 1, nat 1) refl

images : (n : ℕ) (m : ℕ → ℕ → ℤ) (z v : List ℤ) → length z ≡ n → length v ≡ n → ((b : ℕ) → b < n → get_or v b (pos 0) ≡ total (λ j. m b j *ℤ get_or z j (pos 0)) 0 n) →
    (b : ℕ) → b < n + 1 → image n m (with_one z) b ≡ with_one v b
images n m z v e f h b g = ⊎_elim (λ (i : b < n). image_before n m z b e i ∙ sym (one_before n v b f i ∙ h b i))
    (λ (i : b ≡ n). ap (image n m (with_one z)) i ∙ image_last n m z e ∙ sym (ap (with_one v) i ∙ one_last n v f)) (cases b n g)
  where
    cases : (b n : ℕ) → b < n + 1 → (b < n) ⊎ (b ≡ n)
    cases b n g = grind arith

both_same : (p : ℕ → ℕ → ℤ) (u w : ℕ → ℤ) (k : ℕ) → ((b : ℕ) → b < k → u b ≡ w b) → both_sums p u 0 k ≡ both_sums p w 0 k
both_same p u w k h = total_same (λ i. u i *ℤ total (λ j. p i j *ℤ u j) 0 k) (λ i. w i *ℤ total (λ j. p i j *ℤ w j) 0 k) 0 k
    (λ i a b. ap₂ (λ x y. x *ℤ y) (h i (omega arith)) (total_same (λ j. p i j *ℤ u j) (λ j. p i j *ℤ w j) 0 k (λ j c d. ap (λ y. p i j *ℤ y) (h j (omega arith)))))

-- v is the image of z under the map of n integers
pub transformed_value : (n : ℕ) (map p : List (List ℤ)) (z v : List ℤ) → IsSymmetric p → length z ≡ n → length v ≡ n →
    ((b : ℕ) → b < n → get_or v b (pos 0) ≡ total (λ j. entry map b j *ℤ get_or z j (pos 0)) 0 n) →
    value (transformed_form n map p) z ≡ value (form_from (entry p) 0 (n + 1)) v
transformed_value n map p z v s e f h =
    ap (quad (transformed_form n map p)) (sym (one_list n z e))
    ∙ quad_sums (transformed_entry n (entry map) (entry p)) (with_one z) 0 (n + 1) (transformed_symmetric n (entry map) (entry p) s)
    ∙ both_transformed n (entry map) (entry p) (with_one z)
    ∙ both_same (entry p) (image n (entry map) (with_one z)) (with_one v) (n + 1) (images n (entry map) z v e f h)
    ∙ sym (quad_sums (entry p) (with_one v) 0 (n + 1) s)
    ∙ ap (quad (form_from (entry p) 0 (n + 1))) (one_list n v f)

-- ---- tables
pub wholes_as : (n : ℕ) (m h g : ℕ → ℕ → ℤ) → ((a j : ℕ) → a < n + 1 → j < n + 1 → h a j ≡ g a j) → (i j : ℕ) → j < n + 1 → whole_entry n m h i j ≡ whole_entry n m g i j
wholes_as n m h g e i j l = total_same (λ a. h a j *ℤ with_constant n m a i) (λ a. g a j *ℤ with_constant n m a i) 0 (n + 1) (λ a x y. ap (λ z. z *ℤ with_constant n m a i) (e a j (omega arith) l))

-- the table with all entries of the matrix in the coordinates of the map is symmetric
pub table_symmetric : (n : ℕ) (m p : ℕ → ℕ → ℤ) (t : List (List ℤ)) → ((i j : ℕ) → p i j ≡ p j i) → ((i j : ℕ) → i < n + 1 → j < n + 1 → entry t i j ≡ transformed_entry n m p i j) →
    IsZeroOutside (n + 1) (n + 1) t → IsSymmetric t
table_symmetric n m p t s e z i j = cases (side i j)
  where
    side : (i j : ℕ) → ((i < n + 1) × (j < n + 1)) ⊎ ((n + 1 ≤ i) ⊎ (n + 1 ≤ j))
    side i j = grind arith

    turn : (n + 1 ≤ i) ⊎ (n + 1 ≤ j) → (n + 1 ≤ j) ⊎ (n + 1 ≤ i)
    turn (inl h) = inr h
    turn (inr h) = inl h

    cases : ((i < n + 1) × (j < n + 1)) ⊎ ((n + 1 ≤ i) ⊎ (n + 1 ≤ j)) → entry t i j ≡ entry t j i
    cases (inl h) = e i j h.0 h.1 ∙ transformed_symmetric n m p s i j ∙ sym (e j i h.1 h.0)
    cases (inr h) = z i j h ∙ sym (z j i (turn h))

pub table_form : (n k : ℕ) (map p t : List (List ℤ)) → k ≡ n + 1 → ((i j : ℕ) → i < n + 1 → j < n + 1 → entry t i j ≡ transformed_entry n (entry map) (entry p) i j) →
    form_from (entry t) 0 k ≡ transformed_form n map p
table_form n k map p t q e = ap (form_from (entry t) 0) q ∙ form_same (entry t) (transformed_entry n (entry map) (entry p)) 0 (n + 1) (λ r c a b d. e r c (omega arith) (omega arith))
