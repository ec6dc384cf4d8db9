-- The shapes of the forms: each has n columns, and each column an entry with each later one.
use Rattle.std.proofs.Common.{◌≡◌, List, [], ◌∷◌, ◌++◌, length, ℤ, pos, negsuc, ◌+ℤ◌, ◌*ℤ◌, sym, ap, ◌∙◌, refl}
use Rattle.quadratic_form.specs.Forms.{Column, Shaped, plus, times, outer}
use Rattle.quadratic_form.specs.Rows.{SignalRow, WholeBaseline, SignalGroup, coefficients, sum_coefficients, sum_outer, group_matrix, matrix, Radii, diagonal, columns, bounding_form, columns_at, RowsOf, GroupsOf}
use Rattle.whole_math.proofs.Vectors.{len_nonneg, len_tail, len_apart, len_scaled, len_added, len_last, len_zeros}
use Rattle.whole_math.specs.Vectors.{len, scaled, zeros}

abbrev pub Sized : ℤ → List Column → Type 0
Sized n a = (len a ≡ n) × Shaped a

pub sized_outer : (s : List ℤ) → Sized (len s) (outer s)
sized_outer [] = (refl, tt)
sized_outer (x ∷ s) = (ap (λ n. pos 1 +ℤ n) (sized_outer s).0, (len_scaled x s ∙ sym (sized_outer s).0, (sized_outer s).1))

pub sized_times : (k : ℤ) (a : List Column) → Shaped a → Sized (len a) (times k a)
sized_times k [] s = (refl, tt)
sized_times k (c ∷ a) s = (ap (λ n. pos 1 +ℤ n) (sized_times k a s.1).0, (len_scaled k c.others ∙ s.0 ∙ sym (sized_times k a s.1).0, (sized_times k a s.1).1))

pub sized_plus : (a b : List Column) → len a ≡ len b → Shaped a → Shaped b → Sized (len a) (plus a b)
sized_plus [] [] e s t = (refl, tt)
sized_plus [] (d ∷ b) e s t = absurd (len_apart (len b) (len_nonneg b) e)
sized_plus (c ∷ a) [] e s t = (refl, s)
sized_plus (c ∷ a) (d ∷ b) e s t =
    let same_length : len a ≡ len b = len_tail (len a) (len b) e in
    let sum_is_sized : Sized (len a) (plus a b) = sized_plus a b same_length s.1 t.1 in
    (ap (λ n. pos 1 +ℤ n) sum_is_sized.0, (len_added c.others d.others (s.0 ∙ same_length ∙ sym t.0) ∙ s.0 ∙ sym sum_is_sized.0, sum_is_sized.1))

sized_diagonal : (s : List ℤ) → Sized (len s) (diagonal s)
sized_diagonal [] = (refl, tt)
sized_diagonal (x ∷ s) = (ap (λ n. pos 1 +ℤ n) (sized_diagonal s).0, (len_zeros s ∙ sym (sized_diagonal s).0, (sized_diagonal s).1))

-- the number of columns, where there are k integers
abbrev pub cols : ℤ → ℤ
cols k = pos 1 +ℤ (pos 1 +ℤ (pos 1 +ℤ (pos 1 +ℤ k)))

four : (n k : ℤ) → n ≡ pos 1 +ℤ k → pos 1 +ℤ (pos 1 +ℤ (pos 1 +ℤ n)) ≡ cols k
four n k e = ap (λ n. pos 1 +ℤ (pos 1 +ℤ (pos 1 +ℤ n))) e

len_coefficients : (k : ℤ) (r : SignalRow) → len r.cycles ≡ k → len (coefficients r) ≡ cols k
len_coefficients k r e = four _ k (len_last r.cycles r.y ∙ ap (λ n. pos 1 +ℤ n) e)

pub len_columns : (e : ℤ) (z : List ℤ) (b : WholeBaseline) → len (columns_at e z b) ≡ cols (len z)
len_columns e z b = four _ (len z) (len_last (scaled e z) e ∙ ap (λ n. pos 1 +ℤ n) (len_scaled e z))

len_start : (z : List ℤ) → len (zeros (columns (length z))) ≡ cols (len z)
len_start z = ap (λ n. cols n) (len_zeros z)

len_sum_coefficients : (z : List ℤ) (rs : List SignalRow) → RowsOf (len z) rs → len (sum_coefficients (length z) rs) ≡ cols (len z)
len_sum_coefficients z [] h = len_start z
len_sum_coefficients z (r ∷ rs) h = len_added (coefficients r) (sum_coefficients (length z) rs) (len_coefficients (len z) r h.0 ∙ sym (len_sum_coefficients z rs h.1)) ∙ len_coefficients (len z) r h.0

both : (n : ℤ) (a b : List Column) → Sized n a → Sized n b → Sized n (plus a b)
both n a b s t = ((sized_plus a b (s.0 ∙ sym t.0) s.1 t.1).0 ∙ s.0, (sized_plus a b (s.0 ∙ sym t.0) s.1 t.1).1)

more : (n k : ℤ) (a : List Column) → Sized n a → Sized n (times k a)
more n k a s = ((sized_times k a s.1).0 ∙ s.0, (sized_times k a s.1).1)

product : (n : ℤ) (c : List ℤ) → len c ≡ n → Sized n (outer c)
product n c e = ((sized_outer c).0 ∙ e, (sized_outer c).1)

sized_start : (z : List ℤ) → Sized (cols (len z)) (diagonal (zeros (columns (length z))))
sized_start z = ((sized_diagonal (zeros (columns (length z)))).0 ∙ len_start z, (sized_diagonal (zeros (columns (length z)))).1)

sized_sum_outer : (z : List ℤ) (rs : List SignalRow) → RowsOf (len z) rs → Sized (cols (len z)) (sum_outer (length z) rs)
sized_sum_outer z [] h = sized_start z
sized_sum_outer z (r ∷ rs) h = both (cols (len z)) (outer (coefficients r)) (sum_outer (length z) rs)
    (product (cols (len z)) (coefficients r) (len_coefficients (len z) r h.0)) (sized_sum_outer z rs h.1)

sized_matrix : (z : List ℤ) (gs : List SignalGroup) → GroupsOf (len z) gs → Sized (cols (len z)) (matrix (length z) gs)
sized_matrix z [] h = sized_start z
sized_matrix z (g ∷ gs) h = both (cols (len z)) (group_matrix (length z) g) (matrix (length z) gs) one (sized_matrix z gs h.4)
  where
    n : ℤ
    n = cols (len z)

    one : Sized (cols (len z)) (group_matrix (length z) g)
    one = more n _ _ (both n _ _ (more n (len g.rows) (sum_outer (length z) g.rows) (sized_sum_outer z g.rows h.3))
        (more n (negsuc 0) (outer (sum_coefficients (length z) g.rows)) (product n (sum_coefficients (length z) g.rows) (len_sum_coefficients z g.rows h.3))))

pub sized_bounding_form : (z : List ℤ) (gs : List SignalGroup) (r : Radii) → GroupsOf (len z) gs → Sized (cols (len z)) (bounding_form (length z) (matrix (length z) gs) r)
sized_bounding_form z gs r h = both (cols (len z)) (times (pos 63) (matrix (length z) gs)) (diagonal w) (more (cols (len z)) (pos 63) (matrix (length z) gs) (sized_matrix z gs h))
    ((sized_diagonal w).0 ∙ four _ (len z) (len_last (zeros (length z)) (negsuc 16127 *ℤ r.ry) ∙ ap (λ n. pos 1 +ℤ n) (len_zeros z)), (sized_diagonal w).1)
  where
    w : List ℤ
    w = (negsuc 16127 *ℤ r.r1) ∷ ((negsuc 16127 *ℤ r.r2) ∷ ((negsuc 16127 *ℤ r.r3) ∷ (zeros (length z) ++ ((negsuc 16127 *ℤ r.ry) ∷ []))))
