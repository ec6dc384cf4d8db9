-- The entries of the baseline's columns, over all signals that count.
use Rattle.std.proofs.Common.{◌≡◌, ℕ, zero, suc, ◌/◌, ◌<◌, List, [], ◌∷◌, ℤ, pos, neg_ℤ, ◌+ℤ◌, ◌-ℤ◌, ◌*ℤ◌, length, map, arith, ap, ◌∙◌, refl}
use Rattle.std.proofs.lemmas.Int.{ints}
use Rattle.std.proofs.lemmas.List.{length-map}
use Rattle.whole_math.specs.Vectors.{sum}
use Rattle.whole_math.proofs.Vectors.{len_is}
use Rattle.whole_math.proofs.Ring.{◌⊕◌, ◌⊖◌, ◌⊗◌}
use Rattle.whole_math.proofs.Order.{lins}
use Rattle.whole_math.proofs.Inequalities.{same_by, nat}
use Rattle.quadratic_form.specs.Rows.{SignalRow}
use Rattle.quadratic_form.specs.MatrixEntries.{coefficient, coefficient_sum, product_sum, group_entry, matrix_entry}
use Rattle.obs_rows.specs.declared.arcs.Arc.{Arc}
use Rattle.obs_rows.specs.declared.rows.Row.{Row}
use Rattle.obs_rows.specs.declared.pair_rows.PairRows.{PairRows}
use Rattle.obs_rows.specs.Data.{number_at}
use Rattle.obs_rows.specs.Signals.{weight}
use Rattle.obs_rows.specs.SignalGroups.{signal_row, signal_group}
use Rattle.quadratic_form.specs.declared.sizes.TheConstants.{BASELINE_COLUMNS}
use Rattle.normal_sum.specs.Directions.{direction_sum, direction_products, direction_spread}

abbrev pub turned : ℤ → ℤ
turned x = pos 0 -ℤ x

neg_is : (x : ℤ) → neg_ℤ x ≡ turned x
neg_is x = omega (arith, ints)

-- a row's coefficient in a column of the baseline
pub axis : (arcs : List Arc) (ss : List ℕ) (s : ℕ) (r : Row) (i : ℕ) → i < BASELINE_COLUMNS → coefficient (signal_row arcs ss s r) i ≡ turned (number_at r.u i)
axis arcs ss s r zero h = neg_is (number_at r.u 0)
axis arcs ss s r (suc zero) h = neg_is (number_at r.u 1)
axis arcs ss s r (suc (suc zero)) h = neg_is (number_at r.u 2)
axis arcs ss s r (suc (suc (suc i))) h = absurd (omega arith)

pub sum_is : (arcs : List Arc) (ss : List ℕ) (s : ℕ) (rows : List Row) (i : ℕ) → i < BASELINE_COLUMNS → coefficient_sum (map (signal_row arcs ss s) rows) i ≡ turned (direction_sum rows i)
sum_is arcs ss s [] i h = refl
sum_is arcs ss s (r ∷ rs) i h = ap (λ z. z +ℤ coefficient_sum (map (signal_row arcs ss s) rs) i) (axis arcs ss s r i h) ∙ ap (λ z. turned (number_at r.u i) +ℤ z) (sum_is arcs ss s rs i h)
    ∙ together (number_at r.u i) (direction_sum rs i)
  where
    together : (a b : ℤ) → turned a +ℤ turned b ≡ turned (a +ℤ b)
    together a b = omega (arith, lins)

-- the two signs cancel
product : (a b : ℤ) → turned a *ℤ turned b ≡ a *ℤ b
product a b = same_by (a ∷ b ∷ []) (λ a b. ((nat 0 ⊖ a) ⊗ (nat 0 ⊖ b), a ⊗ b)) refl

products_are : (arcs : List Arc) (ss : List ℕ) (s : ℕ) (rows : List Row) (i j : ℕ) → i < BASELINE_COLUMNS → j < BASELINE_COLUMNS →
    product_sum (map (signal_row arcs ss s) rows) i j ≡ direction_products rows i j
products_are arcs ss s [] i j h g = refl
products_are arcs ss s (r ∷ rs) i j h g = ap (λ z. (z *ℤ coefficient (signal_row arcs ss s r) j) +ℤ product_sum (map (signal_row arcs ss s) rs) i j) (axis arcs ss s r i h)
    ∙ ap (λ z. (turned (number_at r.u i) *ℤ z) +ℤ product_sum (map (signal_row arcs ss s) rs) i j) (axis arcs ss s r j g)
    ∙ ap (λ z. z +ℤ product_sum (map (signal_row arcs ss s) rs) i j) (product (number_at r.u i) (number_at r.u j))
    ∙ ap (λ z. (number_at r.u i *ℤ number_at r.u j) +ℤ z) (products_are arcs ss s rs i j h g)

group_is : (arcs : List Arc) (ss : List ℕ) (p : PairRows) (s i j : ℕ) → i < BASELINE_COLUMNS → j < BASELINE_COLUMNS →
    group_entry (signal_group arcs ss p s) i j ≡ (pos (360360 / length p.rows) *ℤ weight s) *ℤ direction_spread p.rows i j
group_is arcs ss p s i j h g =
    ap (λ z. (pos (360360 / length seen) *ℤ weight s) *ℤ ((z *ℤ product_sum seen i j) -ℤ (coefficient_sum seen i *ℤ coefficient_sum seen j))) (len_is seen)
    ∙ ap (λ (n : ℕ). (pos (360360 / n) *ℤ weight s) *ℤ ((pos n *ℤ product_sum seen i j) -ℤ (coefficient_sum seen i *ℤ coefficient_sum seen j))) (length-map p.rows (signal_row arcs ss s))
    ∙ ap (λ z. (pos (360360 / length p.rows) *ℤ weight s) *ℤ ((pos (length p.rows) *ℤ z) -ℤ (coefficient_sum seen i *ℤ coefficient_sum seen j))) (products_are arcs ss s p.rows i j h g)
    ∙ ap (λ z. (pos (360360 / length p.rows) *ℤ weight s) *ℤ ((pos (length p.rows) *ℤ direction_products p.rows i j) -ℤ z)) sums
  where
    seen : List SignalRow
    seen = map (signal_row arcs ss s) p.rows

    sums : coefficient_sum (map (signal_row arcs ss s) p.rows) i *ℤ coefficient_sum (map (signal_row arcs ss s) p.rows) j ≡ direction_sum p.rows i *ℤ direction_sum p.rows j
    sums = ap (λ z. z *ℤ coefficient_sum (map (signal_row arcs ss s) p.rows) j) (sum_is arcs ss s p.rows i h) ∙ ap (λ z. turned (direction_sum p.rows i) *ℤ z) (sum_is arcs ss s p.rows j g)
        ∙ product (direction_sum p.rows i) (direction_sum p.rows j)

-- of all these signals together
pub baseline_entries : (arcs : List Arc) (ss : List ℕ) (p : PairRows) (signals : List ℕ) (i j : ℕ) → i < BASELINE_COLUMNS → j < BASELINE_COLUMNS →
    matrix_entry (map (signal_group arcs ss p) signals) i j ≡ direction_spread p.rows i j *ℤ (pos (360360 / length p.rows) *ℤ sum (map weight signals))
baseline_entries arcs ss p [] i j h g = nothing (pos (360360 / length p.rows)) (direction_spread p.rows i j)
  where
    nothing : (q x : ℤ) → pos 0 ≡ x *ℤ (q *ℤ pos 0)
    nothing q x = same_by (q ∷ x ∷ []) (λ q x. (nat 0, x ⊗ (q ⊗ nat 0))) refl
baseline_entries arcs ss p (s ∷ rest) i j h g = ap (λ z. z +ℤ matrix_entry (map (signal_group arcs ss p) rest) i j) (group_is arcs ss p s i j h g)
    ∙ ap (λ z. ((pos (360360 / length p.rows) *ℤ weight s) *ℤ direction_spread p.rows i j) +ℤ z) (baseline_entries arcs ss p rest i j h g)
    ∙ together (pos (360360 / length p.rows)) (weight s) (sum (map weight rest)) (direction_spread p.rows i j)
  where
    together : (q w r x : ℤ) → ((q *ℤ w) *ℤ x) +ℤ (x *ℤ (q *ℤ r)) ≡ x *ℤ (q *ℤ (w +ℤ r))
    together q w r x = same_by (q ∷ w ∷ r ∷ x ∷ []) (λ q w r x. (((q ⊗ w) ⊗ x) ⊕ (x ⊗ (q ⊗ r)), x ⊗ (q ⊗ (w ⊕ r)))) refl
