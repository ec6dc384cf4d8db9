-- Maps of integer vectors and their inverses: a shear and a swap of two neighbours.
use Rattle.std.specs.Prelude.{ℕ, zero, suc, ◌≡◌, List, [], ◌∷◌, length, ℤ, pos, ◌+ℤ◌, ◌-ℤ◌, ◌*ℤ◌}
use Rattle.whole_math.specs.Vectors.{len, dot, scaled, added}

-- a map, as a list of rows, at x
abbrev pub apply : List (List ℤ) → List ℤ → List ℤ
apply [] x = []
apply (r ∷ rs) x = dot r x ∷ apply rs x

abbrev pub AllRows : ℤ → List (List ℤ) → Type 0
AllRows n [] = Unit {0}
AllRows n (r ∷ rs) = (len r ≡ n) × AllRows n rs

-- n rows of n, and each undoes the other
pub record Inverse (n : ℤ) (map back : List (List ℤ)) : Type 0 where
  pub map_rows : len map ≡ n
  pub map_columns : AllRows n map
  pub back_rows : len back ≡ n
  pub onto : (z : List ℤ) → len z ≡ n → apply map (apply back z) ≡ z
  pub one_to_one : (w : List ℤ) → len w ≡ n → apply back (apply map w) ≡ w

abbrev pub entry : ℕ → List ℤ → ℤ
entry j [] = pos 0
entry zero (x ∷ v) = x
entry (suc j) (x ∷ v) = entry j v

abbrev pub row : ℕ → List (List ℤ) → List ℤ
row j [] = []
row zero (r ∷ rs) = r
row (suc j) (r ∷ rs) = row j rs

-- a row of the map, less k times its first entries at the place after them; t is taken so far
abbrev pub sheared_from : ℤ → List ℤ → List ℤ → List ℤ
sheared_from t ks [] = []
sheared_from t [] (y ∷ r) = (y -ℤ t) ∷ r
sheared_from t (k ∷ ks) (x ∷ r) = x ∷ sheared_from (t +ℤ (k *ℤ x)) ks r

abbrev pub shear_map : List ℤ → List (List ℤ) → List (List ℤ)
shear_map ks [] = []
shear_map ks (r ∷ rs) = sheared_from (pos 0) ks r ∷ shear_map ks rs

-- the first rows of the inverse, with k times the row after them
abbrev pub add_rows : List ℤ → List ℤ → List (List ℤ) → List (List ℤ)
add_rows ks y [] = []
add_rows [] y (r ∷ rs) = r ∷ rs
add_rows (k ∷ ks) y (r ∷ rs) = added r (scaled k y) ∷ add_rows ks y rs

abbrev pub shear_back : List ℤ → List (List ℤ) → List (List ℤ)
shear_back ks rs = add_rows ks (row (length ks) rs) rs

-- the entries at j and the next change places
abbrev pub swapped : {A : Type 0} → ℕ → List A → List A
swapped j [] = []
swapped zero (x ∷ []) = x ∷ []
swapped zero (x ∷ (y ∷ v)) = y ∷ (x ∷ v)
swapped (suc j) (x ∷ v) = x ∷ swapped j v

abbrev pub swap_map : ℕ → List (List ℤ) → List (List ℤ)
swap_map j [] = []
swap_map j (r ∷ rs) = swapped j r ∷ swap_map j rs
