-- A table whose entries are those of the rows, inside and outside its columns.
use Rattle.std.proofs.Common.{◌≡◌, ⊎_elim, ℕ, zero, suc, ◌+◌, ◌^◌, ◌<◌, ◌≤◌, List, [], ◌∷◌, ◌++◌, ℤ, pos, ◌+ℤ◌, ◌≤ℤ◌, ◌<ℤ◌, unsigned_abs, slice_index_or, to_z, of_z, arith, sym, ap, ◌∙◌, subst}
use Rattle.std.proofs.lemmas.Bool.{cases_lt}
use Rattle.std.proofs.lemmas.List.{get_or_past}
use Rattle.std.specs.Int.{w128}
use Rattle.std.proofs.Math.IntN.{+ℤ_idr, +ℤ_idl}
use Rattle.whole_math.proofs.Order.{lins}
use Rattle.quadratic_form.specs.Rows.{SignalGroup, columns, GroupsOf, Radii, add_radii, row_radii, no_radii, radii}
use Rattle.quadratic_form.specs.MatrixEntries.{matrix_entry}
use Rattle.quadratic_form.proofs.MatrixEntries.{matrix_past, matrix_turned}
use Rattle.quadratic_form.specs.declared.sizes.TheConstants.{MOST_COLUMNS}
use Rattle.quadratic_form.specs.Tables.{entry, HasShape, IsZeroOutside}
use Rattle.normal_sum.specs.declared.radii.RadiusSums.{RadiusSums}
use Rattle.normal_sum.specs.RadiusSums.{IsAtMost}
use Rattle.quadratic_form.specs.Matrices.{IsSymmetric, EntriesBelow}
use Rattle.normal_sum.specs.Matrices.{IsRadiusSum, IsMirrored}
use Rattle.normal_sum.proofs.Words.{small_w128}
use Rattle.normal_sum.proofs.RadiusLaws.{radii_assoc, radii_same}

entry_past_row : (t : List (List ℤ)) (i j : ℕ) → HasShape MOST_COLUMNS MOST_COLUMNS t → MOST_COLUMNS ≤ i → entry t i j ≡ pos 0
entry_past_row t i j s h = ap (λ (r : List ℤ). slice_index_or r j (pos 0)) (get_or_past t i [] (omega (arith, s.rows)))

entry_past_column : (t : List (List ℤ)) (i j : ℕ) → HasShape MOST_COLUMNS MOST_COLUMNS t → i < MOST_COLUMNS → MOST_COLUMNS ≤ j → entry t i j ≡ pos 0
entry_past_column t i j s h g = get_or_past (slice_index_or t i []) j (pos 0) (omega (arith, s.columns i h))

pub matrix_past_row : (n : ℕ) (gs : List SignalGroup) (i j : ℕ) → GroupsOf (pos n) gs → columns n ≤ i → matrix_entry gs i j ≡ pos 0
matrix_past_row n gs i j h g = matrix_turned gs i j ∙ matrix_past n gs j i h g

pub entries_everywhere : (n : ℕ) (gs : List SignalGroup) (t : List (List ℤ)) → HasShape MOST_COLUMNS MOST_COLUMNS t → columns n ≤ MOST_COLUMNS → GroupsOf (pos n) gs →
    ((i j : ℕ) → i < MOST_COLUMNS → j < MOST_COLUMNS → entry t i j ≡ matrix_entry gs i j) → (i j : ℕ) → entry t i j ≡ matrix_entry gs i j
entries_everywhere n gs t s c h e i j = ⊎_elim
    (λ (hi : i < MOST_COLUMNS). ⊎_elim (λ (hj : j < MOST_COLUMNS). e i j hi hj) (λ (gj : MOST_COLUMNS ≤ j). entry_past_column t i j s hi gj ∙ sym (matrix_past n gs i j h (omega arith)))
    (cases_lt j MOST_COLUMNS))
    (λ (gi : MOST_COLUMNS ≤ i). entry_past_row t i j s gi ∙ sym (matrix_past_row n gs i j h (omega arith)))
    (cases_lt i MOST_COLUMNS)

-- from the entries on and above the diagonal
pub mirrored_entries : (t u : List (List ℤ)) (gs : List SignalGroup) → IsMirrored t u → ((i j : ℕ) → i ≤ j → j < MOST_COLUMNS → entry t i j ≡ matrix_entry gs i j) →
    (i j : ℕ) → i < MOST_COLUMNS → j < MOST_COLUMNS → entry u i j ≡ matrix_entry gs i j
mirrored_entries t u gs m e i j hi hj = ⊎_elim (λ (h : j < i). m.below j i h hi ∙ e j i (omega arith) hi ∙ matrix_turned gs j i) (λ (h : i ≤ j). m.above i j h ∙ e i j h hj) (cases_lt j i)

pub mirrored_sizes : (n : ℕ) (t u : List (List ℤ)) → IsMirrored t u → ((i j : ℕ) → i ≤ j → j < MOST_COLUMNS → unsigned_abs (entry t i j) < n) →
    (i j : ℕ) → i < MOST_COLUMNS → j < MOST_COLUMNS → unsigned_abs (entry u i j) < n
mirrored_sizes n t u m e i j hi hj = ⊎_elim (λ (h : j < i). subst (λ (z : ℤ). unsigned_abs z < n) (sym (m.below j i h hi)) (e j i (omega arith) hi))
    (λ (h : i ≤ j). subst (λ (z : ℤ). unsigned_abs z < n) (sym (m.above i j h)) (e i j h hj)) (cases_lt j i)

pub symmetric_is : (gs : List SignalGroup) (t : List (List ℤ)) → ((i j : ℕ) → entry t i j ≡ matrix_entry gs i j) → IsSymmetric t
symmetric_is gs t e = λ i j. e i j ∙ matrix_turned gs i j ∙ sym (e j i)

pub outside_is : (n m : ℕ) (gs : List SignalGroup) (t : List (List ℤ)) → m ≡ columns n → GroupsOf (pos n) gs → ((i j : ℕ) → entry t i j ≡ matrix_entry gs i j) → IsZeroOutside m m t
outside_is n m gs t c h e = λ i j w. e i j ∙ ⊎_elim (λ (g : m ≤ i). matrix_past_row n gs i j h (subst (λ (k : ℕ). k ≤ i) c g))
    (λ (g : m ≤ j). matrix_past n gs i j h (subst (λ (k : ℕ). k ≤ j) c g)) w

pub below_is : (m : ℕ) (t : List (List ℤ)) → HasShape MOST_COLUMNS MOST_COLUMNS t → 0 < m → ((i j : ℕ) → i < MOST_COLUMNS → j < MOST_COLUMNS → unsigned_abs (entry t i j) < m) → EntriesBelow m t
below_is m t s h e = λ i j. ⊎_elim
    (λ (hi : i < MOST_COLUMNS). ⊎_elim (λ (hj : j < MOST_COLUMNS). e i j hi hj) (λ (gj : MOST_COLUMNS ≤ j). nothing (entry t i j) (entry_past_column t i j s hi gj)) (cases_lt j MOST_COLUMNS))
    (λ (gi : MOST_COLUMNS ≤ i). nothing (entry t i j) (entry_past_row t i j s gi))
    (cases_lt i MOST_COLUMNS)
  where
    nothing : (x : ℤ) → x ≡ pos 0 → unsigned_abs x < m
    nothing x e = subst (λ (z : ℤ). unsigned_abs z < m) (sym e) h

pub zero_last : (a b : ℤ) → a +ℤ pos 0 ≡ b → a ≡ b
zero_last a b e = omega (arith, lins)

pub zero_first : (a b : ℤ) → a ≡ pos 0 → a +ℤ b ≡ b
zero_first a b e = omega (arith, lins)

pub radii_start : (r : Radii) → add_radii no_radii r ≡ r
radii_start r = radii_same _ _ _ _ _ _ _ _ (+ℤ_idl r.r1) (+ℤ_idl r.r2) (+ℤ_idl r.r3) (+ℤ_idl r.ry)

pub radii_end : (r : Radii) → add_radii r no_radii ≡ r
radii_end r = radii_same _ _ _ _ _ _ _ _ (+ℤ_idr r.r1) (+ℤ_idr r.r2) (+ℤ_idr r.r3) (+ℤ_idr r.ry)

pub radii_append : (gs hs : List SignalGroup) → radii (gs ++ hs) ≡ add_radii (radii gs) (radii hs)
radii_append [] hs = sym (radii_start (radii hs))
radii_append (g ∷ gs) hs = ap (λ (r : Radii). add_radii (row_radii g.weight g.rows) r) (radii_append gs hs) ∙ sym (radii_assoc (row_radii g.weight g.rows) (radii gs) (radii hs))

pub four_and : (n : ℕ) → columns n ≡ 4 + n
four_and n = omega arith

below_limit : (x : ℤ) (m : ℕ) → x ≤ℤ pos m → m < 2 ^ 100 → x <ℤ pos (2 ^ 100)
below_limit x m h g = omega (arith, lins)

pub radii_within : (s : RadiusSums) (m : ℕ) → IsAtMost m s → m < 2 ^ 100 → (k : ℕ) (d : ℤ) → k < 4 → IsRadiusSum (slice_index_or (s.u1 ∷ (s.u2 ∷ (s.u3 ∷ (s.y ∷ [])))) k d)
radii_within s m h g zero d k = (h.u1_from, below_limit s.u1 m h.u1_to g)
radii_within s m h g (suc zero) d k = (h.u2_from, below_limit s.u2 m h.u2_to g)
radii_within s m h g (suc (suc zero)) d k = (h.u3_from, below_limit s.u3 m h.u3_to g)
radii_within s m h g (suc (suc (suc zero))) d k = (h.y_from, below_limit s.y m h.y_to g)
radii_within s m h g (suc (suc (suc (suc i)))) d k = absurd (omega arith)

-- the sums, each as a word
abbrev word : ℤ → ℤ
word x = to_z w128 (of_z w128 x)

pub words_are : (s : RadiusSums) (m : ℕ) → IsAtMost m s → m < 2 ^ 100 → (word s.u1 ∷ (word s.u2 ∷ (word s.u3 ∷ (word s.y ∷ [])))) ≡ (s.u1 ∷ (s.u2 ∷ (s.u3 ∷ (s.y ∷ []))))
words_are s m h g = ap (λ x. x ∷ (word s.u2 ∷ (word s.u3 ∷ (word s.y ∷ [])))) (small_w128 s.u1 h.u1_from (larger_limit s.u1 m h.u1_to g))
    ∙ ap (λ x. s.u1 ∷ (x ∷ (word s.u3 ∷ (word s.y ∷ [])))) (small_w128 s.u2 h.u2_from (larger_limit s.u2 m h.u2_to g))
    ∙ ap (λ x. s.u1 ∷ (s.u2 ∷ (x ∷ (word s.y ∷ [])))) (small_w128 s.u3 h.u3_from (larger_limit s.u3 m h.u3_to g))
    ∙ ap (λ x. s.u1 ∷ (s.u2 ∷ (s.u3 ∷ (x ∷ [])))) (small_w128 s.y h.y_from (larger_limit s.y m h.y_to g))
  where
    larger_limit : (x : ℤ) (m : ℕ) → x ≤ℤ pos m → m < 2 ^ 100 → x ≤ℤ pos (2 ^ 111)
    larger_limit x m h g = omega (arith, lins)
