-- A shear and a swap keep that map and inverse undo each other.
use Rattle.std.proofs.Common.{ℕ, zero, suc, ◌≡◌, List, [], ◌∷◌, length, ℤ, pos, ◌+ℤ◌, ◌-ℤ◌, ◌*ℤ◌, ◌≤ℤ◌, ◌<ℤ◌, arith, sym, ap, ap₂, ◌∙◌, refl, subst}
use Rattle.whole_math.proofs.Inequalities.{same_by, nat}
use Rattle.whole_math.proofs.Ring.{◌⊕◌, ◌⊖◌, ◌⊗◌}
use Rattle.whole_math.proofs.Order.{lins}
use Rattle.quadratic_form.specs.Maps.{apply, AllRows, Inverse, entry, row, sheared_from, shear_map, add_rows, shear_back, swapped, swap_map}
use Rattle.whole_math.proofs.Vectors.{len_nonneg, len_tail, len_apart, dot_added, dot_scaled}
use Rattle.whole_math.specs.Vectors.{len, dot, scaled}

-- ---- what the shear does to a vector, and back
abbrev less_each : List ℤ → ℤ → List ℤ → List ℤ
less_each ks y [] = []
less_each [] y (x ∷ v) = x ∷ v
less_each (k ∷ ks) y (x ∷ v) = (x -ℤ (k *ℤ y)) ∷ less_each ks y v

abbrev more_each : List ℤ → ℤ → List ℤ → List ℤ
more_each ks y [] = []
more_each [] y (x ∷ v) = x ∷ v
more_each (k ∷ ks) y (x ∷ v) = (x +ℤ (k *ℤ y)) ∷ more_each ks y v

abbrev down : List ℤ → List ℤ → List ℤ
down ks v = less_each ks (entry (length ks) v) v

abbrev up : List ℤ → List ℤ → List ℤ
up ks v = more_each ks (entry (length ks) v) v

entry_less : (ks : List ℤ) (y : ℤ) (v : List ℤ) → entry (length ks) (less_each ks y v) ≡ entry (length ks) v
entry_less ks y [] = refl
entry_less [] y (x ∷ v) = refl
entry_less (k ∷ ks) y (x ∷ v) = entry_less ks y v

entry_more : (ks : List ℤ) (y : ℤ) (v : List ℤ) → entry (length ks) (more_each ks y v) ≡ entry (length ks) v
entry_more ks y [] = refl
entry_more [] y (x ∷ v) = refl
entry_more (k ∷ ks) y (x ∷ v) = entry_more ks y v

less_more : (ks : List ℤ) (y : ℤ) (v : List ℤ) → less_each ks y (more_each ks y v) ≡ v
less_more ks y [] = refl
less_more [] y (x ∷ v) = refl
less_more (k ∷ ks) y (x ∷ v) = ap₂ (λ a s. a ∷ s) (same_by (x ∷ k ∷ y ∷ []) (λ x k y. (x ⊕ k ⊗ y ⊖ k ⊗ y, x)) refl) (less_more ks y v)

more_less : (ks : List ℤ) (y : ℤ) (v : List ℤ) → more_each ks y (less_each ks y v) ≡ v
more_less ks y [] = refl
more_less [] y (x ∷ v) = refl
more_less (k ∷ ks) y (x ∷ v) = ap₂ (λ a s. a ∷ s) (same_by (x ∷ k ∷ y ∷ []) (λ x k y. (x ⊖ k ⊗ y ⊕ k ⊗ y, x)) refl) (more_less ks y v)

down_up : (ks v : List ℤ) → down ks (up ks v) ≡ v
down_up ks v = ap (λ y. less_each ks y (up ks v)) (entry_more ks (entry (length ks) v) v) ∙ less_more ks (entry (length ks) v) v

up_down : (ks v : List ℤ) → up ks (down ks v) ≡ v
up_down ks v = ap (λ y. more_each ks y (down ks v)) (entry_less ks (entry (length ks) v) v) ∙ more_less ks (entry (length ks) v) v

-- a sheared row at w is the row at the vector that the shear takes w to
dot_sheared : (t : ℤ) (ks r w : List ℤ) → len r ≡ len w → len ks <ℤ len w → dot (sheared_from t ks r) w ≡ dot r (less_each ks (entry (length ks) w) w) -ℤ t *ℤ entry (length ks) w
dot_sheared t ks [] [] e h = absurd (no (len ks) (len_nonneg ks) h)
  where
    no : (n : ℤ) → pos 0 ≤ℤ n → n <ℤ pos 0 → ⊥
    no n h k = omega (arith, lins)
dot_sheared t ks [] (y ∷ w) e h = absurd (len_apart (len w) (len_nonneg w) e)
dot_sheared t ks (x ∷ r) [] e h = absurd (len_apart (len r) (len_nonneg r) (sym e))
dot_sheared t [] (x ∷ r) (y ∷ w) e h = step t x y (dot r w)
  where
    step : (t x y s : ℤ) → (x -ℤ t) *ℤ y +ℤ s ≡ x *ℤ y +ℤ s -ℤ t *ℤ y
    step t x y s = same_by (x ∷ t ∷ y ∷ s ∷ []) (λ x t y s. ((x ⊖ t) ⊗ y ⊕ s, x ⊗ y ⊕ s ⊖ t ⊗ y)) refl
dot_sheared t (k ∷ ks) (x ∷ r) (y ∷ w) e h = ap (λ s. (x *ℤ y) +ℤ s) (dot_sheared (t +ℤ (k *ℤ x)) ks r w (len_tail (len r) (len w) e) (lower (len ks) (len w) h))
    ∙ step t k x y (entry (length ks) w) (dot r (less_each ks (entry (length ks) w) w))
  where
    lower : (a b : ℤ) → (pos 1 +ℤ a) <ℤ (pos 1 +ℤ b) → a <ℤ b
    lower a b h = omega (arith, lins)

    step : (t k x y z s : ℤ) → x *ℤ y +ℤ (s -ℤ (t +ℤ k *ℤ x) *ℤ z) ≡ x *ℤ (y -ℤ k *ℤ z) +ℤ s -ℤ t *ℤ z
    step t k x y z s = same_by (x ∷ y ∷ s ∷ t ∷ k ∷ z ∷ []) (λ x y s t k z. (x ⊗ y ⊕ (s ⊖ (t ⊕ k ⊗ x) ⊗ z), x ⊗ (y ⊖ k ⊗ z) ⊕ s ⊖ t ⊗ z)) refl

apply_sheared : (ks : List ℤ) (rs : List (List ℤ)) (w : List ℤ) → AllRows (len w) rs → len ks <ℤ len w → apply (shear_map ks rs) w ≡ apply rs (down ks w)
apply_sheared ks [] w a h = refl
apply_sheared ks (r ∷ rs) w a h = ap₂ (λ x s. x ∷ s)
    (dot_sheared (pos 0) ks r w a.0 h ∙ (same_by (dot r (down ks w) ∷ entry (length ks) w ∷ []) (λ d e. (d ⊖ nat 0 ⊗ e, d)) refl)) (apply_sheared ks rs w a.1 h)

entry_apply : (j : ℕ) (rs : List (List ℤ)) (z : List ℤ) → entry j (apply rs z) ≡ dot (row j rs) z
entry_apply j [] z = refl
entry_apply zero (r ∷ rs) z = refl
entry_apply (suc j) (r ∷ rs) z = entry_apply j rs z

apply_added : (ks y : List ℤ) (rs : List (List ℤ)) (z : List ℤ) → apply (add_rows ks y rs) z ≡ more_each ks (dot y z) (apply rs z)
apply_added ks y [] z = refl
apply_added [] y (r ∷ rs) z = refl
apply_added (k ∷ ks) y (r ∷ rs) z = ap₂ (λ x s. x ∷ s) (dot_added r (scaled k y) z ∙ ap (λ t. dot r z +ℤ t) (dot_scaled k y z)) (apply_added ks y rs z)

apply_back : (ks : List ℤ) (rs : List (List ℤ)) (z : List ℤ) → apply (shear_back ks rs) z ≡ up ks (apply rs z)
apply_back ks rs z = apply_added ks (row (length ks) rs) rs z ∙ ap (λ y. more_each ks y (apply rs z)) (sym (entry_apply (length ks) rs z))

-- ---- lengths
pub len_apply : (rs : List (List ℤ)) (z : List ℤ) → len (apply rs z) ≡ len rs
len_apply [] z = refl
len_apply (r ∷ rs) z = ap (λ n. pos 1 +ℤ n) (len_apply rs z)

len_less : (ks : List ℤ) (y : ℤ) (v : List ℤ) → len (less_each ks y v) ≡ len v
len_less ks y [] = refl
len_less [] y (x ∷ v) = refl
len_less (k ∷ ks) y (x ∷ v) = ap (λ n. pos 1 +ℤ n) (len_less ks y v)

len_sheared : (t : ℤ) (ks r : List ℤ) → len (sheared_from t ks r) ≡ len r
len_sheared t ks [] = refl
len_sheared t [] (y ∷ r) = refl
len_sheared t (k ∷ ks) (x ∷ r) = ap (λ n. pos 1 +ℤ n) (len_sheared (t +ℤ (k *ℤ x)) ks r)

len_shear_map : (ks : List ℤ) (rs : List (List ℤ)) → len (shear_map ks rs) ≡ len rs
len_shear_map ks [] = refl
len_shear_map ks (r ∷ rs) = ap (λ n. pos 1 +ℤ n) (len_shear_map ks rs)

len_add_rows : (ks y : List ℤ) (rs : List (List ℤ)) → len (add_rows ks y rs) ≡ len rs
len_add_rows ks y [] = refl
len_add_rows [] y (r ∷ rs) = refl
len_add_rows (k ∷ ks) y (r ∷ rs) = ap (λ n. pos 1 +ℤ n) (len_add_rows ks y rs)

rows_sheared : (n : ℤ) (ks : List ℤ) (rs : List (List ℤ)) → AllRows n rs → AllRows n (shear_map ks rs)
rows_sheared n ks [] h = tt
rows_sheared n ks (r ∷ rs) h = (len_sheared (pos 0) ks r ∙ h.0, rows_sheared n ks rs h.1)

pub shear_keeps : (n : ℤ) (ks : List ℤ) (map back : List (List ℤ)) → Inverse n map back → len ks <ℤ n → Inverse n (shear_map ks map) (shear_back ks back)
shear_keeps n ks map back i h = record {
  map_rows = len_shear_map ks map ∙ i.map_rows;
  map_columns = rows_sheared n ks map i.map_columns;
  back_rows = len_add_rows ks (row (length ks) back) back ∙ i.back_rows;
  onto = λ (z : List ℤ) (e : len z ≡ n).
      let length_is : len (apply (shear_back ks back) z) ≡ n = len_apply (shear_back ks back) z ∙ len_add_rows ks (row (length ks) back) back ∙ i.back_rows in
      apply_sheared ks map (apply (shear_back ks back) z) (subst (λ (m : ℤ). AllRows m map) (sym length_is) i.map_columns) (subst (λ (m : ℤ). len ks <ℤ m) (sym length_is) h)
      ∙ ap (λ v. apply map (down ks v)) (apply_back ks back z) ∙ ap (apply map) (down_up ks (apply back z)) ∙ i.onto z e;
  one_to_one = λ (w : List ℤ) (e : len w ≡ n).
      apply_back ks back (apply (shear_map ks map) w)
      ∙ ap (λ v. up ks (apply back v)) (apply_sheared ks map w (subst (λ (m : ℤ). AllRows m map) (sym e) i.map_columns) (subst (λ (m : ℤ). len ks <ℤ m) (sym e) h))
      ∙ ap (up ks) (i.one_to_one (down ks w) (len_less ks (entry (length ks) w) w ∙ e)) ∙ up_down ks w;
}

-- ---- the swap
swapped_twice : (j : ℕ) (v : List ℤ) → swapped j (swapped j v) ≡ v
swapped_twice j [] = refl
swapped_twice zero (x ∷ []) = refl
swapped_twice zero (x ∷ (y ∷ v)) = refl
swapped_twice (suc j) (x ∷ v) = ap (λ s. x ∷ s) (swapped_twice j v)

dot_swapped : (j : ℕ) (r w : List ℤ) → len r ≡ len w → dot (swapped j r) w ≡ dot r (swapped j w)
dot_swapped j [] [] e = refl
dot_swapped j [] (y ∷ w) e = refl
dot_swapped j (x ∷ r) [] e = absurd (len_apart (len r) (len_nonneg r) (sym e))
dot_swapped zero (x ∷ []) (y ∷ []) e = refl
dot_swapped zero (x ∷ []) (y ∷ (z ∷ w)) e = absurd (len_apart (len w) (len_nonneg w) (len_tail _ _ e))
dot_swapped zero (x ∷ (u ∷ r)) (y ∷ []) e = absurd (len_apart (len r) (len_nonneg r) (sym (len_tail _ _ e)))
dot_swapped zero (x ∷ (u ∷ r)) (y ∷ (z ∷ w)) e = step x u y z (dot r w)
  where
    step : (x u y z s : ℤ) → u *ℤ y +ℤ (x *ℤ z +ℤ s) ≡ x *ℤ z +ℤ (u *ℤ y +ℤ s)
    step x u y z s = same_by (u ∷ y ∷ x ∷ z ∷ s ∷ []) (λ u y x z s. (u ⊗ y ⊕ (x ⊗ z ⊕ s), x ⊗ z ⊕ (u ⊗ y ⊕ s))) refl
dot_swapped (suc j) (x ∷ r) (y ∷ w) e = ap (λ s. (x *ℤ y) +ℤ s) (dot_swapped j r w (len_tail (len r) (len w) e))

apply_swapped : (j : ℕ) (rs : List (List ℤ)) (w : List ℤ) → AllRows (len w) rs → apply (swap_map j rs) w ≡ apply rs (swapped j w)
apply_swapped j [] w a = refl
apply_swapped j (r ∷ rs) w a = ap₂ (λ x s. x ∷ s) (dot_swapped j r w a.0) (apply_swapped j rs w a.1)

apply_swap_back : (j : ℕ) (rs : List (List ℤ)) (z : List ℤ) → apply (swapped j rs) z ≡ swapped j (apply rs z)
apply_swap_back j [] z = refl
apply_swap_back zero (r ∷ []) z = refl
apply_swap_back zero (r ∷ (s ∷ rs)) z = refl
apply_swap_back (suc j) (r ∷ rs) z = ap (λ s. dot r z ∷ s) (apply_swap_back j rs z)

len_swapped : {A : Type 0} (j : ℕ) (v : List A) → len (swapped j v) ≡ len v
len_swapped j [] = refl
len_swapped zero (x ∷ []) = refl
len_swapped zero (x ∷ (y ∷ v)) = refl
len_swapped (suc j) (x ∷ v) = ap (λ n. pos 1 +ℤ n) (len_swapped j v)

len_swap_map : (j : ℕ) (rs : List (List ℤ)) → len (swap_map j rs) ≡ len rs
len_swap_map j [] = refl
len_swap_map j (r ∷ rs) = ap (λ n. pos 1 +ℤ n) (len_swap_map j rs)

rows_swapped : (n : ℤ) (j : ℕ) (rs : List (List ℤ)) → AllRows n rs → AllRows n (swap_map j rs)
rows_swapped n j [] h = tt
rows_swapped n j (r ∷ rs) h = (len_swapped j r ∙ h.0, rows_swapped n j rs h.1)

pub swap_keeps : (n : ℤ) (j : ℕ) (map back : List (List ℤ)) → Inverse n map back → Inverse n (swap_map j map) (swapped j back)
swap_keeps n j map back i = record {
  map_rows = len_swap_map j map ∙ i.map_rows;
  map_columns = rows_swapped n j map i.map_columns;
  back_rows = len_swapped j back ∙ i.back_rows;
  onto = λ (z : List ℤ) (e : len z ≡ n).
      apply_swapped j map (apply (swapped j back) z) (subst (λ (m : ℤ). AllRows m map) (sym (len_apply (swapped j back) z ∙ len_swapped j back ∙ i.back_rows)) i.map_columns)
      ∙ ap (λ v. apply map (swapped j v)) (apply_swap_back j back z) ∙ ap (apply map) (swapped_twice j (apply back z)) ∙ i.onto z e;
  one_to_one = λ (w : List ℤ) (e : len w ≡ n).
      apply_swap_back j back (apply (swap_map j map) w)
      ∙ ap (λ v. swapped j (apply back v)) (apply_swapped j map w (subst (λ (m : ℤ). AllRows m map) (sym e) i.map_columns))
      ∙ ap (swapped j) (i.one_to_one (swapped j w) (len_swapped j w ∙ e)) ∙ swapped_twice j w;
}
