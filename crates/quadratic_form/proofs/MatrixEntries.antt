-- The normal matrix is the form of its entries.
use Rattle.std.proofs.Common.{◌≡◌, ℕ, zero, suc, ◌+◌, ◌≤◌, List, [], ◌∷◌, ◌++◌, length, ℤ, pos, negsuc, ◌+ℤ◌, ◌-ℤ◌, ◌*ℤ◌, arith, length-append, slice_index_or, sym, ap, ap₂, ◌∙◌, refl, subst}
use Rattle.std.proofs.lemmas.Int.{ints}
use Rattle.std.proofs.lemmas.List.{get_or_past}
use Rattle.whole_math.proofs.Ring.{ko, ◌⊕◌, ◌⊖◌, ◌⊗◌}
use Rattle.whole_math.proofs.Inequalities.{same_by, nat}
use Rattle.whole_math.proofs.Vectors.{len_is}
use Rattle.whole_math.specs.Vectors.{len, added, zeros}
use Rattle.whole_math.proofs.IntLaws.{mul_comm_ℤ}
use Rattle.quadratic_form.specs.Forms.{Column, plus, times, outer}
use Rattle.quadratic_form.specs.Rows.{SignalRow, SignalGroup, share, coefficients, columns, diagonal, sum_coefficients, sum_outer, group_matrix, matrix, RowsOf, GroupsOf}
use Rattle.quadratic_form.specs.Places.{list_from, form_from}
use Rattle.quadratic_form.specs.MatrixEntries.{coefficient, coefficient_sum, product_sum, group_entry, matrix_entry}
use Rattle.quadratic_form.proofs.Places.{list_added, form_same, form_plus, form_times, form_outer}
use Rattle.quadratic_form.proofs.Tables.{list_shift}

-- a list is its entries in order
pub list_items : (s : List ℤ) → list_from (λ j. slice_index_or s j (pos 0)) 0 (length s) ≡ s
list_items [] = refl
list_items (x ∷ s) = ap (λ t. x ∷ t) (sym (list_shift (λ j. slice_index_or (x ∷ s) j (pos 0)) 0 (length s)) ∙ list_items s)

list_zeros : (j k : ℕ) → list_from (λ c. pos 0) j k ≡ zeros k
list_zeros j zero = refl
list_zeros j (suc k) = ap (λ s. pos 0 ∷ s) (list_zeros (suc j) k)

pub length_zeros : (k : ℕ) → length (zeros k) ≡ k
length_zeros zero = refl
length_zeros (suc k) = ap (λ n. suc n) (length_zeros k)

form_zeros : (j k : ℕ) → form_from (λ r c. pos 0) j k ≡ diagonal (zeros k)
form_zeros j zero = refl
form_zeros j (suc k) = ap₂ (λ (s : List ℤ) (a : List Column). record { own = pos 0; others = s } ∷ a) (list_zeros (suc j) k ∙ ap (λ n. zeros n) (sym (length_zeros k))) (form_zeros (suc j) k)

length_coefficients : (i : ℕ) (r : SignalRow) → len r.cycles ≡ pos i → length (coefficients r) ≡ columns i
length_coefficients i r h = four (length r.cycles) (length (r.cycles ++ (r.y ∷ []))) (length-append r.cycles (r.y ∷ [])) (same (sym (len_is r.cycles) ∙ h))
  where
    same : {m n : ℕ} → pos m ≡ pos n → m ≡ n
    same h = omega (arith, ints)

    four : (m n : ℕ) → n ≡ m + 1 → m ≡ i → suc (suc (suc n)) ≡ columns i
    four m n e f = omega arith

row_list : (i : ℕ) (r : SignalRow) → len r.cycles ≡ pos i → list_from (coefficient r) 0 (columns i) ≡ coefficients r
row_list i r h = subst (λ (n : ℕ). list_from (coefficient r) 0 n ≡ coefficients r) (length_coefficients i r h) (list_items (coefficients r))

sum_list : (i : ℕ) (rs : List SignalRow) → RowsOf (pos i) rs → list_from (coefficient_sum rs) 0 (columns i) ≡ sum_coefficients i rs
sum_list i [] h = list_zeros 0 (columns i)
sum_list i (r ∷ rs) h = list_added (coefficient r) (coefficient_sum rs) 0 (columns i) ∙ ap₂ (λ s t. added s t) (row_list i r h.0) (sum_list i rs h.1)

product_form : (i : ℕ) (rs : List SignalRow) → RowsOf (pos i) rs → form_from (product_sum rs) 0 (columns i) ≡ sum_outer i rs
product_form i [] h = form_zeros 0 (columns i)
product_form i (r ∷ rs) h = form_plus (λ s t. coefficient r s *ℤ coefficient r t) (product_sum rs) 0 (columns i)
    ∙ ap₂ (λ a b. plus a b) (form_outer (coefficient r) 0 (columns i) ∙ ap (λ s. outer s) (row_list i r h.0)) (product_form i rs h.1)

group_form : (i : ℕ) (g : SignalGroup) → RowsOf (pos i) g.rows → form_from (group_entry g) 0 (columns i) ≡ group_matrix i g
group_form i g h = form_same (group_entry g)
    (λ r c. share g *ℤ (n *ℤ product_sum g.rows r c +ℤ negsuc 0 *ℤ (coefficient_sum g.rows r *ℤ coefficient_sum g.rows c))) 0 (columns i)
    (λ r c a b d. less n (product_sum g.rows r c) (coefficient_sum g.rows r) (coefficient_sum g.rows c))
    ∙ form_times (share g) (λ r c. n *ℤ product_sum g.rows r c +ℤ negsuc 0 *ℤ (coefficient_sum g.rows r *ℤ coefficient_sum g.rows c)) 0 (columns i)
    ∙ ap (λ a. times (share g) a) (form_plus (λ r c. n *ℤ product_sum g.rows r c) (λ r c. negsuc 0 *ℤ (coefficient_sum g.rows r *ℤ coefficient_sum g.rows c)) 0 (columns i)
    ∙ ap₂ (λ a b. plus a b) (form_times n (product_sum g.rows) 0 (columns i) ∙ ap (λ a. times n a) (product_form i g.rows h))
    (form_times (negsuc 0) (λ r c. coefficient_sum g.rows r *ℤ coefficient_sum g.rows c) 0 (columns i)
    ∙ ap (λ a. times (negsuc 0) a) (form_outer (coefficient_sum g.rows) 0 (columns i) ∙ ap (λ s. outer s) (sum_list i g.rows h))))
  where
    n : ℤ
    n = len g.rows

    less : (n p s t : ℤ) → share g *ℤ (n *ℤ p -ℤ s *ℤ t) ≡ share g *ℤ (n *ℤ p +ℤ negsuc 0 *ℤ (s *ℤ t))
    less n p s t = same_by (share g ∷ n ∷ p ∷ s ∷ t ∷ []) (λ f n p s t. (f ⊗ (n ⊗ p ⊖ s ⊗ t), f ⊗ (n ⊗ p ⊕ ko (negsuc 0) ⊗ (s ⊗ t)))) refl

pub matrix_form : (i : ℕ) (gs : List SignalGroup) → GroupsOf (pos i) gs → form_from (matrix_entry gs) 0 (columns i) ≡ matrix i gs
matrix_form i [] h = form_zeros 0 (columns i)
matrix_form i (g ∷ gs) h = form_plus (group_entry g) (matrix_entry gs) 0 (columns i) ∙ ap₂ (λ a b. plus a b) (group_form i g h.3) (matrix_form i gs h.4)

-- ---- outside the columns, turned round, appended
coefficient_past : (n : ℕ) (r : SignalRow) (j : ℕ) → len r.cycles ≡ pos n → columns n ≤ j → coefficient r j ≡ pos 0
coefficient_past n r j h g = get_or_past (coefficients r) j (pos 0) (subst (λ (m : ℕ). m ≤ j) (sym (length_coefficients n r h)) g)

sum_past : (n : ℕ) (rs : List SignalRow) (j : ℕ) → RowsOf (pos n) rs → columns n ≤ j → coefficient_sum rs j ≡ pos 0
sum_past n [] j h g = refl
sum_past n (r ∷ rs) j h g = ap₂ (λ s t. s +ℤ t) (coefficient_past n r j h.0 g) (sum_past n rs j h.1 g)

product_past : (n : ℕ) (rs : List SignalRow) (i j : ℕ) → RowsOf (pos n) rs → columns n ≤ j → product_sum rs i j ≡ pos 0
product_past n [] i j h g = refl
product_past n (r ∷ rs) i j h g = ap₂ (λ s t. (coefficient r i *ℤ s) +ℤ t) (coefficient_past n r j h.0 g) (product_past n rs i j h.1 g) ∙ nothing (coefficient r i)
  where
    nothing : (x : ℤ) → (x *ℤ pos 0) +ℤ pos 0 ≡ pos 0
    nothing x = same_by (x ∷ []) (λ x. (x ⊗ nat 0 ⊕ nat 0, nat 0)) refl

group_past : (n : ℕ) (g : SignalGroup) (i j : ℕ) → RowsOf (pos n) g.rows → columns n ≤ j → group_entry g i j ≡ pos 0
group_past n g i j h k = ap₂ (λ s t. share g *ℤ ((len g.rows *ℤ s) -ℤ (coefficient_sum g.rows i *ℤ t)))
    (product_past n g.rows i j h k) (sum_past n g.rows j h k) ∙ nothing (share g) (len g.rows) (coefficient_sum g.rows i)
  where
    nothing : (f n s : ℤ) → f *ℤ ((n *ℤ pos 0) -ℤ (s *ℤ pos 0)) ≡ pos 0
    nothing f n s = same_by (f ∷ n ∷ s ∷ []) (λ f n s. (f ⊗ ((n ⊗ nat 0) ⊖ (s ⊗ nat 0)), nat 0)) refl

pub matrix_past : (n : ℕ) (gs : List SignalGroup) (i j : ℕ) → GroupsOf (pos n) gs → columns n ≤ j → matrix_entry gs i j ≡ pos 0
matrix_past n [] i j h k = refl
matrix_past n (g ∷ gs) i j h k = ap₂ (λ s t. s +ℤ t) (group_past n g i j h.3 k) (matrix_past n gs i j h.4 k)

product_turned : (rs : List SignalRow) (i j : ℕ) → product_sum rs i j ≡ product_sum rs j i
product_turned [] i j = refl
product_turned (r ∷ rs) i j = ap₂ (λ s t. s +ℤ t) (mul_comm_ℤ (coefficient r i) (coefficient r j)) (product_turned rs i j)

group_turned : (g : SignalGroup) (i j : ℕ) → group_entry g i j ≡ group_entry g j i
group_turned g i j = ap (λ p. share g *ℤ ((len g.rows *ℤ p) -ℤ (coefficient_sum g.rows i *ℤ coefficient_sum g.rows j))) (product_turned g.rows i j)
    ∙ swap (share g) (len g.rows *ℤ product_sum g.rows j i) (coefficient_sum g.rows i) (coefficient_sum g.rows j)
  where
    swap : (f p s t : ℤ) → f *ℤ (p -ℤ (s *ℤ t)) ≡ f *ℤ (p -ℤ (t *ℤ s))
    swap f p s t = same_by (f ∷ p ∷ s ∷ t ∷ []) (λ f p s t. (f ⊗ (p ⊖ (s ⊗ t)), f ⊗ (p ⊖ (t ⊗ s)))) refl

pub matrix_turned : (gs : List SignalGroup) (i j : ℕ) → matrix_entry gs i j ≡ matrix_entry gs j i
matrix_turned [] i j = refl
matrix_turned (g ∷ gs) i j = ap₂ (λ s t. s +ℤ t) (group_turned g i j) (matrix_turned gs i j)

pub matrix_append : (gs hs : List SignalGroup) (i j : ℕ) → matrix_entry (gs ++ hs) i j ≡ matrix_entry gs i j +ℤ matrix_entry hs i j
matrix_append [] hs i j = same_by (matrix_entry hs i j ∷ []) (λ x. (x, nat 0 ⊕ x)) refl
matrix_append (g ∷ gs) hs i j = ap (λ z. group_entry g i j +ℤ z) (matrix_append gs hs i j) ∙ assoc (group_entry g i j) (matrix_entry gs i j) (matrix_entry hs i j)
  where
    assoc : (x y z : ℤ) → x +ℤ (y +ℤ z) ≡ (x +ℤ y) +ℤ z
    assoc x y z = same_by (x ∷ y ∷ z ∷ []) (λ x y z. (x ⊕ (y ⊕ z), (x ⊕ y) ⊕ z)) refl
