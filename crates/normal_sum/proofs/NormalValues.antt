-- What the value of the normal matrix is to the sum of squares.
use Rattle.std.proofs.Common.{◌≡◌, ℕ, ◌*◌, ◌<◌, List, [], ◌∷◌, ◌++◌, length, map, ℤ, pos, ◌+ℤ◌, ◌-ℤ◌, ◌*ℤ◌, sym, ap, ap₂, ◌∙◌, refl, subst}
use Rattle.whole_math.proofs.Ring.{◌⊕◌, ◌⊖◌, ◌⊗◌}
use Rattle.whole_math.proofs.Inequalities.{same_by, nat}
use Rattle.whole_math.specs.Vectors.{dot, len}
use Rattle.whole_math.specs.Rational.{Rational, ◌≈◌, ◌≤ʳ◌, of_whole, ◌*ʳ◌}
use Rattle.quadratic_form.specs.Forms.{Column, quad}
use Rattle.quadratic_form.specs.Spread.{spread}
use Rattle.quadratic_form.specs.Rows.{SignalRow, SignalGroup, WholeData, WholeBaseline, Radii, coefficients, columns, columns_at, share, matrix, radii, bounding_form, RowsOf, GroupsOf, whole_residual, whole_residuals, whole_sum_of_squares}
use Rattle.quadratic_form.specs.RationalData.{RowData}
use Rattle.quadratic_form.specs.Places.{form_from}
use Rattle.quadratic_form.specs.MatrixEntries.{matrix_entry}
use Rattle.quadratic_form.proofs.Places.{form_same}
use Rattle.quadratic_form.proofs.NormalForm.{split, values, sum_spreads, matrix_at_centres}
use Rattle.quadratic_form.proofs.MatrixEntries.{matrix_form}
use Rattle.quadratic_form.proofs.RationalData.{OverBase, OverRows, OverAll, bounding_over_rationals}
use Rattle.obs_rows.specs.declared.arcs.Arc.{Arc}
use Rattle.obs_rows.specs.declared.rows.Row.{Row}
use Rattle.obs_rows.specs.declared.pair_rows.PairRows.{PairRows}
use Rattle.quadratic_form.specs.Tables.{entry}
use Rattle.obs_rows.specs.Integers.{integer_count}
use Rattle.obs_rows.specs.Data.{Observed, AreData}
use Rattle.obs_rows.specs.Centres.{centre_of, centres}
use Rattle.obs_rows.specs.SumOfSquares.{sum_of_squares}
use Rattle.obs_rows.specs.SignalGroups.{signal_row, signal_group, signal_groups, signal_data, group_data}
use Rattle.obs_rows.proofs.Centres.{centres_are_data}
use Rattle.obs_rows.proofs.GroupShapes.{groups_of}
use Rattle.obs_rows.proofs.GroupLaws.{sum_is, data_fit}
use Rattle.obs_rows.proofs.SessionLaws.{groups_of_vector, sum_over}
use Rattle.normal_sum.specs.declared.normal.Normal.{Normal}
use Rattle.normal_sum.specs.Normals.{IsNormalOf}
use Rattle.normal_sum.specs.Values.{form_of, radii_from, bounding_of, baseline_over, value_over, IsSumAtCentres, StaysBelow}
use Rattle.normal_sum.proofs.NormalLaws.{four_and}

-- ---- the form of the entries
pub form_is : (arcs : List Arc) (ss : List ℕ) (pairs : List PairRows) (n : Normal) → IsNormalOf arcs ss pairs n → form_of n ≡ matrix (integer_count arcs ss) (signal_groups arcs ss pairs)
form_is arcs ss pairs n h = ap (λ (k : ℕ). form_from (entry n.c) 0 k) (h.columns ∙ sym (four_and i))
    ∙ form_same (entry n.c) (matrix_entry (signal_groups arcs ss pairs)) 0 (columns i) (λ r c a b d. h.entries r c)
    ∙ matrix_form i (signal_groups arcs ss pairs) (groups_of arcs ss pairs)
  where
    i : ℕ
    i = integer_count arcs ss

radii_are : (arcs : List Arc) (ss : List ℕ) (pairs : List PairRows) (n : Normal) → IsNormalOf arcs ss pairs n → radii_from n.r ≡ radii (signal_groups arcs ss pairs)
radii_are arcs ss pairs n h = ap (λ (r : List ℤ). radii_from r) h.radii

over_base : (e : ℕ) (h : 0 < e) (c : WholeBaseline) → OverBase (pos e) c (baseline_over e h c)
over_base e h c = record { b1 = refl; b2 = refl; b3 = refl }

pub stays_below : (arcs : List Arc) (ss : List ℕ) (pairs : List PairRows) (n : Normal) → IsNormalOf arcs ss pairs n → StaysBelow arcs ss pairs n
stays_below arcs ss pairs n h = record { below = λ observed d z l e p c. go observed d z l e p c }
  where
    gs : List SignalGroup
    gs = signal_groups arcs ss pairs

    bounding_is : (z : List ℤ) → length z ≡ integer_count arcs ss → bounding_of n (length z) ≡ bounding_form (length z) (matrix (length z) gs) (radii gs)
    bounding_is z l = ap (λ (a : List Column). bounding_form (length z) a (radii_from n.r)) (form_is arcs ss pairs n h ∙ ap (λ (k : ℕ). matrix k gs) (sym l))
        ∙ ap (λ (r : Radii). bounding_form (length z) (matrix (length z) gs) r) (radii_are arcs ss pairs n h)

    go : (observed : List (List Observed)) → AreData ss pairs observed → (z : List ℤ) → length z ≡ integer_count arcs ss → (e : ℕ) (p : 0 < e) (c : WholeBaseline) →
        value_over e p (bounding_of n (length z)) z c ≤ʳ of_whole (pos 64) *ʳ sum_of_squares arcs ss pairs z (baseline_over e p c) observed
    go observed d z l e p c = subst (λ (f : Rational). value_over e p (bounding_of n (length z)) z c ≤ʳ of_whole (pos 64) *ʳ f) (sym (sum_is arcs ss pairs z (baseline_over e p c) observed d))
        (bounding_over_rationals e z c (baseline_over e p c) gs (group_data ss observed) (value_over e p (bounding_of n (length z)) z c) p (over_base e p c)
        (groups_of_vector arcs ss pairs z l) (data_fit arcs ss pairs observed d)
        (ap (λ (f : List Column). quad f (columns_at (pos e) z c) *ℤ pos (e * e)) (bounding_is z l)))

-- ---- at the centres
abbrev centre_row : SignalRow → WholeData
centre_row r = record { u1 = r.u1; u2 = r.u2; u3 = r.u3; y = r.y }

abbrev centre_rows : List SignalRow → List WholeData
centre_rows [] = []
centre_rows (r ∷ rs) = centre_row r ∷ centre_rows rs

abbrev centre_groups : List SignalGroup → List (List WholeData)
centre_groups [] = []
centre_groups (g ∷ gs) = centre_rows g.rows ∷ centre_groups gs

residual_at : (e : ℤ) (z : List ℤ) (c : WholeBaseline) (r : SignalRow) → len r.cycles ≡ len z → whole_residual (pos 1) e z c r (centre_row r) ≡ dot (coefficients r) (columns_at e z c)
residual_at e z c r h = split (pos 1) e z c r (centre_row r) h ∙ nothing (dot (coefficients r) (columns_at e z c)) e r.y r.u1 r.u2 r.u3 c.b1 c.b2 c.b3
  where
    nothing : (k e y p q s i j m : ℤ) → pos 1 *ℤ k +ℤ ((y -ℤ pos 1 *ℤ y) *ℤ e -ℤ ((p -ℤ pos 1 *ℤ p) *ℤ i +ℤ ((q -ℤ pos 1 *ℤ q) *ℤ j +ℤ (s -ℤ pos 1 *ℤ s) *ℤ m))) ≡ k
    nothing k e y p q s i j m = same_by (k ∷ e ∷ y ∷ p ∷ q ∷ s ∷ i ∷ j ∷ m ∷ [])
        (λ k e y p q s i j m. (nat 1 ⊗ k ⊕ ((y ⊖ nat 1 ⊗ y) ⊗ e ⊖ ((p ⊖ nat 1 ⊗ p) ⊗ i ⊕ ((q ⊖ nat 1 ⊗ q) ⊗ j ⊕ (s ⊖ nat 1 ⊗ s) ⊗ m))), k)) refl

residuals_at : (e : ℤ) (z : List ℤ) (c : WholeBaseline) (rs : List SignalRow) → RowsOf (len z) rs → whole_residuals (pos 1) e z c rs (centre_rows rs) ≡ values (columns_at e z c) rs
residuals_at e z c [] h = refl
residuals_at e z c (r ∷ rs) h = ap₂ (λ x s. x ∷ s) (residual_at e z c r h.0) (residuals_at e z c rs h.1)

sum_at : (e : ℤ) (z : List ℤ) (c : WholeBaseline) (gs : List SignalGroup) → GroupsOf (len z) gs → whole_sum_of_squares (pos 1) e z c gs (centre_groups gs) ≡ sum_spreads (columns_at e z c) gs
sum_at e z c [] h = refl
sum_at e z c (g ∷ gs) h = ap₂ (λ s t. (share g *ℤ spread s) +ℤ t) (residuals_at e z c g.rows h.3) (sum_at e z c gs h.4)

rows_over : (arcs : List Arc) (ss : List ℕ) (s : ℕ) (rows : List Row) → OverRows (pos 1) (centre_rows (map (signal_row arcs ss s) rows)) (map (signal_data s) (map centre_of rows))
rows_over arcs ss s [] = tt
rows_over arcs ss s (r ∷ rows) = (record { u1 = refl; u2 = refl; u3 = refl; y = refl }, rows_over arcs ss s rows)

signals_over : (arcs : List Arc) (ss : List ℕ) (p : PairRows) (signals : List ℕ) (gs : List SignalGroup) (qs : List (List RowData)) → OverAll (pos 1) (centre_groups gs) qs →
    OverAll (pos 1) (centre_groups (map (signal_group arcs ss p) signals ++ gs)) (map (λ s. map (signal_data s) (map centre_of p.rows)) signals ++ qs)
signals_over arcs ss p [] gs qs h = h
signals_over arcs ss p (s ∷ signals) gs qs h = (rows_over arcs ss s p.rows, signals_over arcs ss p signals gs qs h)

pairs_over : (arcs : List Arc) (ss : List ℕ) (pairs : List PairRows) → OverAll (pos 1) (centre_groups (signal_groups arcs ss pairs)) (group_data ss (centres pairs))
pairs_over arcs ss [] = tt
pairs_over arcs ss (p ∷ ps) = signals_over arcs ss p ss (signal_groups arcs ss ps) (group_data ss (centres ps)) (pairs_over arcs ss ps)

pub is_sum_at_centres : (arcs : List Arc) (ss : List ℕ) (pairs : List PairRows) (n : Normal) → IsNormalOf arcs ss pairs n → IsSumAtCentres arcs ss pairs n
is_sum_at_centres arcs ss pairs n h = record { value = λ z l e p c. go z l e p c }
  where
    gs : List SignalGroup
    gs = signal_groups arcs ss pairs

    value_is : (z : List ℤ) → length z ≡ integer_count arcs ss → (e : ℕ) (c : WholeBaseline) → quad (form_of n) (columns_at (pos e) z c) ≡ whole_sum_of_squares (pos 1) (pos e) z c gs
        (centre_groups gs)
    value_is z l e c = ap (λ (a : List Column). quad a (columns_at (pos e) z c)) (form_is arcs ss pairs n h) ∙ matrix_at_centres (integer_count arcs ss) (columns_at (pos e) z c) gs
        ∙ sym (sum_at (pos e) z c gs (groups_of_vector arcs ss pairs z l))

    turned : (v w a b e : ℤ) → v ≡ w → a *ℤ ((pos 1 *ℤ e) *ℤ (pos 1 *ℤ e)) ≡ w *ℤ b → v *ℤ b ≡ a *ℤ (e *ℤ e)
    turned v w a b e i k = ap (λ z. z *ℤ b) i ∙ sym k ∙ same_by (a ∷ e ∷ []) (λ a e. (a ⊗ ((nat 1 ⊗ e) ⊗ (nat 1 ⊗ e)), a ⊗ (e ⊗ e))) refl

    go : (z : List ℤ) → length z ≡ integer_count arcs ss → (e : ℕ) (p : 0 < e) (c : WholeBaseline) → value_over e p (form_of n) z c ≈ sum_of_squares arcs ss pairs z (baseline_over e p c)
        (centres pairs)
    go z l e p c = turned (quad (form_of n) (columns_at (pos e) z c)) (whole_sum_of_squares (pos 1) (pos e) z c gs (centre_groups gs))
        (sum_of_squares arcs ss pairs z (baseline_over e p c) (centres pairs)).num
        (pos (sum_of_squares arcs ss pairs z (baseline_over e p c) (centres pairs)).den) (pos e) (value_is z l e c)
        (sum_over arcs ss pairs (pos 1) (pos e) z c (baseline_over e p c) (centre_groups gs) (centres pairs) (centres_are_data ss pairs) (pairs_over arcs ss pairs) (over_base e p c))
