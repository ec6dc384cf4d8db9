-- The entries of the first rounding are those of the form that bounds the sum of squares, rounded.
use Rattle.std.proofs.Common.{◌≡◌, ℕ, zero, suc, ◌+◌, ◌-◌, ◌^◌, ◌<◌, ◌≤◌, Bool, true, false, nat_eq, nat_lt, cond, List, [], ◌∷◌, ◌++◌, length, ℤ, pos, negsuc, ◌+ℤ◌, ◌-ℤ◌, ◌*ℤ◌, slice_index_or, arith, unsigned_abs, pow_pos, sym, ap, ap₂, ◌∙◌, refl, subst}
use Rattle.std.proofs.lemmas.Bool.Decides.{nat_tests}
use Rattle.std.proofs.lemmas.Int.{ints}
use Rattle.std.proofs.lemmas.Bool.{eq-eqb}
use Rattle.whole_math.specs.Rounding.{floor_div, nearest_div}
use Rattle.whole_math.proofs.Rounding.{nearest_size}
use Rattle.whole_math.specs.Vectors.{zeros}
use Rattle.whole_math.proofs.Ring.{ko, ◌⊕◌, ◌⊖◌, ◌⊗◌}
use Rattle.whole_math.proofs.Inequalities.{same_by, nat}
use Rattle.quadratic_form.specs.Forms.{Column, plus, times}
use Rattle.quadratic_form.specs.Elimination.{rounded}
use Rattle.quadratic_form.specs.Rows.{diagonal, columns}
use Rattle.quadratic_form.specs.Places.{list_from, form_from}
use Rattle.quadratic_form.proofs.Places.{list_same, form_plus, form_times, form_rounded}
use Rattle.quadratic_form.specs.Tables.{entry}
use Rattle.normal_sum.specs.declared.normal.Normal.{Normal}
use Rattle.normal_sum.specs.Values.{bounding_of}
use Rattle.elimination.proofs.NewEntries.{apart}
use Rattle.lower_form.specs.FirstRounding.{radius_at, own_bound, first_entry, first_form}

zero_list : (j k : ℕ) (f : ℕ → ℤ) → list_from (λ c. pos 0) (suc j) k ≡ zeros (length (list_from f (suc j) k))
zero_list j zero f = refl
zero_list j (suc k) f = ap (λ s. pos 0 ∷ s) (zero_list (suc j) k f)

abbrev on_diagonal : (ℕ → ℤ) → ℕ → ℕ → ℤ
on_diagonal f r c = cond (nat_eq r c) (f r) (pos 0)

diagonal_form : (f : ℕ → ℤ) (j k : ℕ) → form_from (on_diagonal f) j k ≡ diagonal (list_from f j k)
diagonal_form f j zero = refl
diagonal_form f j (suc k) =
    ap (λ (x : ℤ). record { own = x; others = list_from (on_diagonal f j) (suc j) k } ∷ form_from (on_diagonal f) (suc j) k) (ap (λ (b : Bool). cond b (f j) (pos 0)) (eq-eqb j j refl))
    ∙ ap₂ (λ (s : List ℤ) (a : List Column). record { own = f j; others = s } ∷ a)
    (list_same (on_diagonal f j) (λ c. pos 0) (suc j) k (λ c h g. ap (λ (b : Bool). cond b (f j) (pos 0)) (apart j c (omega arith))) ∙ zero_list j k f)
    (diagonal_form f (suc j) k)

end_list : (f : ℕ → ℤ) (j i : ℕ) (x : ℤ) → ((c : ℕ) → j ≤ c → c < j + i → f c ≡ pos 0) → f (j + i) ≡ x → list_from f j (suc i) ≡ zeros i ++ (x ∷ [])
end_list f j zero x h e = let place_is : j + 0 ≡ j = omega arith in ap (λ y. y ∷ []) (subst (λ (k : ℕ). f k ≡ x) place_is e)
end_list f j (suc i) x h e = let place_is : j + suc i ≡ suc j + i = omega arith in
    ap₂ (λ y s. y ∷ s) (h j (omega arith) (omega arith)) (end_list f (suc j) i x (λ c a b. h c (omega arith) (omega arith)) (subst (λ (k : ℕ). f k ≡ x) place_is e))

-- the radii of an integer and of the constant
of_integer : (n : Normal) (i c : ℕ) → n.columns ≡ columns i → 3 ≤ c → c < 3 + i → radius_at n c ≡ pos 0
of_integer n i c e h g =
    let not_in_front : nat_lt c 3 ≡ false = grind (arith, nat_tests) in
    let not_last : nat_eq (suc c) n.columns ≡ false = apart (suc c) n.columns (omega arith) in
    ap₂ (λ (p q : Bool). cond p (slice_index_or n.r c (pos 0)) (cond q (slice_index_or n.r 3 (pos 0)) (pos 0))) not_in_front not_last

of_constant : (n : Normal) (i : ℕ) → n.columns ≡ columns i → radius_at n (3 + i) ≡ slice_index_or n.r 3 (pos 0)
of_constant n i e =
    let not_in_front : nat_lt (3 + i) 3 ≡ false = grind (arith, nat_tests) in
    let place_is_last : suc (3 + i) ≡ n.columns = omega arith in
    let is_last : nat_eq (suc (3 + i)) n.columns ≡ true = subst (λ (m : ℕ). nat_eq (suc (3 + i)) m ≡ true) place_is_last (eq-eqb (suc (3 + i)) (suc (3 + i)) refl) in
    ap₂ (λ (p q : Bool). cond p (slice_index_or n.r (3 + i) (pos 0)) (cond q (slice_index_or n.r 3 (pos 0)) (pos 0))) not_in_front is_last

abbrev loss_at : Normal → ℕ → ℤ
loss_at n c = negsuc 16127 *ℤ radius_at n c

nothing : negsuc 16127 *ℤ pos 0 ≡ pos 0
nothing = refl

losses : (n : Normal) (i : ℕ) → n.columns ≡ columns i →
    list_from (loss_at n) 0 (columns i) ≡ (negsuc 16127 *ℤ slice_index_or n.r 0 (pos 0)) ∷
    ((negsuc 16127 *ℤ slice_index_or n.r 1 (pos 0)) ∷ ((negsuc 16127 *ℤ slice_index_or n.r 2 (pos 0)) ∷ (zeros i ++ ((negsuc 16127 *ℤ slice_index_or n.r 3 (pos 0)) ∷ []))))
losses n i e = ap (λ s. loss_at n 0 ∷ (loss_at n 1 ∷ (loss_at n 2 ∷ s)))
    (end_list (loss_at n) 3 i (negsuc 16127 *ℤ slice_index_or n.r 3 (pos 0)) (λ c h g. ap (λ z. negsuc 16127 *ℤ z) (of_integer n i c e h g) ∙ nothing)
    (ap (λ z. negsuc 16127 *ℤ z) (of_constant n i e)))

abbrev bound_entry : Normal → ℕ → ℕ → ℤ
bound_entry n r c = (pos 63 *ℤ entry n.c r c) +ℤ on_diagonal (loss_at n) r c

bounding_is : (n : Normal) (i : ℕ) → n.columns ≡ columns i → form_from (bound_entry n) 0 (columns i) ≡ bounding_of n i
bounding_is n i e = form_plus (λ r c. pos 63 *ℤ entry n.c r c) (on_diagonal (loss_at n)) 0 (columns i)
    ∙ ap₂ (λ (a b : List Column). plus a b)
    (form_times (pos 63) (entry n.c) 0 (columns i) ∙ ap (λ (k : ℕ). times (pos 63) (form_from (entry n.c) 0 k)) (sym e))
    (diagonal_form (loss_at n) 0 (columns i) ∙ ap (λ s. diagonal s) (losses n i e))

own_same : (n : Normal) (r : ℕ) → own_bound n r ≡ bound_entry n r r
own_same n r = less (entry n.c r r) (radius_at n r) ∙ sym (ap (λ (b : Bool). (pos 63 *ℤ entry n.c r r) +ℤ cond b (loss_at n r) (pos 0)) (eq-eqb r r refl))
  where
    less : (x y : ℤ) → (pos 63 *ℤ x) -ℤ (pos 16128 *ℤ y) ≡ (pos 63 *ℤ x) +ℤ (negsuc 16127 *ℤ y)
    less x y = same_by (x ∷ y ∷ []) (λ x y. (nat 63 ⊗ x ⊖ nat 16128 ⊗ y, nat 63 ⊗ x ⊕ ko (negsuc 16127) ⊗ y)) refl

other_same : (n : Normal) (r c : ℕ) → r < c → pos 63 *ℤ entry n.c r c ≡ bound_entry n r c
other_same n r c h = more (pos 63 *ℤ entry n.c r c) ∙ sym (ap (λ (b : Bool). (pos 63 *ℤ entry n.c r c) +ℤ cond b (loss_at n r) (pos 0)) (apart r c h))
  where
    more : (x : ℤ) → x ≡ x +ℤ pos 0
    more x = same_by (x ∷ []) (λ x. (x, x ⊕ nat 0)) refl

first_own : (n : Normal) (h r : ℕ) → first_entry n h r r ≡ floor_div (bound_entry n r r) (2 ^ h) -ℤ pos n.columns
first_own n h r = ap (λ (b : Bool). cond b (floor_div (own_bound n r) (2 ^ h) -ℤ pos n.columns) (nearest_div (pos 63 *ℤ entry n.c r r) (2 ^ h))) (eq-eqb r r refl)
    ∙ ap (λ z. floor_div z (2 ^ h) -ℤ pos n.columns) (own_same n r)

first_other : (n : Normal) (h r c : ℕ) → r < c → first_entry n h r c ≡ nearest_div (bound_entry n r c) (2 ^ h)
first_other n h r c l = ap (λ (b : Bool). cond b (floor_div (own_bound n c) (2 ^ h) -ℤ pos n.columns) (nearest_div (pos 63 *ℤ entry n.c r c) (2 ^ h))) (apart r c l)
    ∙ ap (λ z. nearest_div z (2 ^ h)) (other_same n r c l)

counted : (n i : ℕ) → 4 ≤ n → i ≡ n - 4 → n ≡ columns i
counted n i h e = omega arith

pub first_form_is : (n : Normal) (h : ℕ) → 4 ≤ n.columns → form_from (first_entry n h) 0 n.columns ≡ first_form h n
first_form_is n h k =
    let integers : ℕ = n.columns - 4 in
    let columns_are : n.columns ≡ columns (n.columns - 4) = counted n.columns (n.columns - 4) k refl in
    ap (λ (m : ℕ). form_from (first_entry n h) 0 m) columns_are
    ∙ form_rounded (2 ^ h) (pos n.columns) (bound_entry n) (first_entry n h) 0 (columns (n.columns - 4)) (λ r a b. first_own n h r) (λ r c a b d. first_other n h r c b)
    ∙ ap (λ (b : List Column). rounded (2 ^ h) (pos n.columns) b) (bounding_is n (n.columns - 4) columns_are)

-- 0 is rounded to 0
pub zero_rounds : (h : ℕ) → pos 0 ≡ nearest_div (pos 63 *ℤ pos 0) (2 ^ h)
zero_rounds h = nothing_left (nearest_div (pos 63 *ℤ pos 0) (2 ^ h)) (nearest_size (pos 63 *ℤ pos 0) (2 ^ h) (pow_pos h))
  where
    nothing_left : (x : ℤ) → unsigned_abs x ≤ 0 → pos 0 ≡ x
    nothing_left x g = omega (arith, ints)
