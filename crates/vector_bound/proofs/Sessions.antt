-- The law for the rows of a session.
use Rattle.std.proofs.Common.{◌≡◌, ℕ, suc, ◌+◌, ◌*◌, ◌^◌, List, [], ◌∷◌, ◌++◌, length, ℤ, pos, ◌+ℤ◌, ◌*ℤ◌, ◌≤ℤ◌, slice_index_or, arith, sym, ap, ◌∙◌, refl, subst, pow_pos}
use Rattle.std.proofs.lemmas.Nat.{pow-add}
use Rattle.whole_math.specs.Rounding.{ceil_div}
use Rattle.whole_math.specs.Vectors.{dot, scaled}
use Rattle.whole_math.proofs.Ring.{◌⊕◌, ◌⊖◌, ◌⊗◌}
use Rattle.whole_math.proofs.Order.{lins}
use Rattle.whole_math.proofs.Rounding.{ceil_close}
use Rattle.whole_math.proofs.Inequalities.{le_by, prod_nn, less_nn, pos_nn, le_eq, same_by, nat}
use Rattle.whole_math.specs.Rational.{Rational, of_whole, ◌-ʳ◌, ◌≤ʳ◌, AreWithin}
use Rattle.whole_math.proofs.RationalLaws.{≤ʳ_trans}
use Rattle.quadratic_form.specs.Places.{list_from}
use Rattle.quadratic_form.specs.MatrixEntries.{matrix_entry}
use Rattle.quadratic_form.specs.Rows.{SignalGroup, radii, columns_at}
use Rattle.whole_math.specs.Spread.{Baseline}
use Rattle.quadratic_form.specs.UpperSum.{size}
use Rattle.quadratic_form.proofs.Places.{list_same}
use Rattle.quadratic_form.specs.Tables.{entry}
use Rattle.obs_rows.specs.declared.arcs.Arc.{Arc}
use Rattle.obs_rows.specs.declared.pair_rows.PairRows.{PairRows}
use Rattle.obs_rows.specs.Integers.{integer_count}
use Rattle.obs_rows.specs.Data.{Observed, number_at, AreData}
use Rattle.obs_rows.specs.SumOfSquares.{sum_of_squares}
use Rattle.obs_rows.specs.Best.{moved}
use Rattle.obs_rows.specs.SignalGroups.{signal_groups, group_data, whole_move}
use Rattle.obs_rows.proofs.GroupLaws.{sum_is, data_fit}
use Rattle.obs_rows.proofs.SessionLaws.{groups_of_vector}
use Rattle.normal_sum.specs.declared.normal.Normal.{Normal}
use Rattle.normal_sum.specs.Normals.{IsNormalOf}
use Rattle.fix_decide.specs.Bounds.{StaysAtMost}
use Rattle.vector_bound.specs.VectorBounds.{move_units, hundredths_of_mm, AreNear, KeepsNear, kept_own, kept_other, slope, steepness, radii_at_move, slack, IsVectorBound}
use Rattle.quadratic_form.proofs.NormalForm.{radii_at}
use Rattle.vector_bound.proofs.Corners.{slope_at}
use Rattle.vector_bound.proofs.Curvatures.{curved_squares}
use Rattle.vector_bound.proofs.Wholes.{IsWholeBound}
use Rattle.vector_bound.proofs.Rationals.{near_over_rationals}

-- the powers of two of the definitions
power_ten : (h : ℕ) → pos (2 ^ (h + 10)) ≡ pos (2 ^ h) *ℤ pos 1024
power_ten h = ap pos (pow-add 2 h 10)

power_three : (h : ℕ) → pos (2 ^ (h + 3)) ≡ pos (2 ^ h) *ℤ pos 8
power_three h = ap pos (pow-add 2 h 3)

more_columns : (a b c : ℕ) → a ≡ 4 + b → c ≡ b → a ≡ suc (suc (suc (suc c)))
more_columns a b c e f = omega arith

whole_bound : (arcs : List Arc) (ss : List ℕ) (pairs : List PairRows) (n : Normal) (h : ℕ) (z m : List ℤ) (t x : ℤ) → length z ≡ integer_count arcs ss → IsNormalOf arcs ss pairs n →
    IsVectorBound n h z m t x → IsWholeBound (2 ^ 24) (h + 10) (signal_groups arcs ss pairs) z (whole_move m) (pos (2 ^ h) *ℤ t) x
whole_bound arcs ss pairs n h z m t x entries normal bound = record {
  l = steepness n h z m;
  s = slack n h m t;
  w = pos (2 ^ 14) *ℤ (pos (2 ^ h) *ℤ t);
  mu = bound.mu;
  mu_one = bound.curvature.some;
  s_from = bound.slack_from;
  x_one = bound.reach.some;
  sum_share = le_eq (same_by ((pos (2 ^ h) *ℤ t) ∷ []) (λ u. (nat (2 ^ 38) ⊗ u, nat (2 ^ 24) ⊗ (nat (2 ^ 14) ⊗ u))) refl);
  slopes = rw (slope_is 0, slope_is 1, slope_is 2, power_ten h)
      (of_slopes (pos (2 ^ h)) (size (slope n z m 0) +ℤ (size (slope n z m 1) +ℤ size (slope n z m 2))) (steepness n h z m)
      (subst (λ (p : ℤ). (size (slope n z m 0) +ℤ (size (slope n z m 1) +ℤ size (slope n z m 2))) ≤ℤ (p *ℤ steepness n h z m)) (power_three h)
      (ceil_close (size (slope n z m 0) +ℤ (size (slope n z m 1) +ℤ size (slope n z m 2))) (2 ^ (h + 3)) (pow_pos (h + 3)))));
  slack = rw (← radii_is, power_ten h) (of_slack (pos (2 ^ h)) (radii_at_move n m) t (ceil_div (pos 4 *ℤ radii_at_move n m) (2 ^ h)) (ceil_close (pos 4 *ℤ radii_at_move n m) (2 ^ h) (pow_pos h)));
  curved = λ a b c. rw (← normal.entries 0 0, ← normal.entries 1 1, ← normal.entries 2 2, ← normal.entries 0 1, ← normal.entries 0 2, ← normal.entries 1 2, ← radius 0, ← radius 1, ← radius 2)
      (curved_squares (kept_own n h 0) (kept_own n h 1) (kept_own n h 2) (kept_other n h 0 1) (kept_other n h 0 2) (kept_other n h 1 2) bound.mu a b c
      bound.curvature.first bound.curvature.second bound.curvature.some bound.curvature.is);
  reached = turned (steepness n h z m *ℤ x) (slack n h m t) (bound.mu *ℤ (x *ℤ x)) bound.reach.enough;
}
  where
    gs : List SignalGroup
    gs = signal_groups arcs ss pairs

    v : List ℤ
    v = scaled (pos (2 ^ 16)) z ++ (pos (2 ^ 16) ∷ [])

    count : n.columns ≡ suc (suc (suc (suc (length z))))
    count = more_columns n.columns (integer_count arcs ss) (length z) normal.columns entries

    slope_is : (j : ℕ) → slope_at (matrix_entry gs) (suc (length z)) (whole_move m) v j ≡ slope n z m j
    slope_is j = ap (λ (l : List ℤ). dot l (columns_at (pos (2 ^ 16)) z (whole_move m)))
        (sym (list_same (entry n.c j) (matrix_entry gs j) 0 (suc (suc (suc (suc (length z))))) (λ c a b. normal.entries j c)) ∙ ap (λ (k : ℕ). list_from (entry n.c j) 0 k) (sym count))

    radius_list : List ℤ
    radius_list = (radii gs).r1 ∷ ((radii gs).r2 ∷ ((radii gs).r3 ∷ ((radii gs).ry ∷ [])))

    radius : (j : ℕ) → slice_index_or n.r j (pos 0) ≡ slice_index_or radius_list j (pos 0)
    radius j = ap (λ (r : List ℤ). slice_index_or r j (pos 0)) normal.radii

    radii_is : radii_at_move n m ≡ radii_at (pos (2 ^ 16)) (whole_move m) (radii gs)
    radii_is = ap (λ (r : List ℤ). slice_index_or r 0 (pos 0) *ℤ (number_at m 0 *ℤ number_at m 0) +ℤ (slice_index_or r 1 (pos 0) *ℤ (number_at m 1 *ℤ number_at m 1)
        +ℤ (slice_index_or r 2 (pos 0) *ℤ (number_at m 2 *ℤ number_at m 2) +ℤ slice_index_or r 3 (pos 0) *ℤ (pos (2 ^ 16) *ℤ pos (2 ^ 16))))) normal.radii

    turned : (a b c : ℤ) → (b +ℤ a) ≤ℤ c → (a +ℤ b) ≤ℤ c
    turned a b c h = omega (arith, lins)

    of_slopes : (p a l : ℤ) → a ≤ℤ (p *ℤ pos 8 *ℤ l) → (pos 128 *ℤ a) ≤ℤ (p *ℤ pos 1024 *ℤ l)
    of_slopes p a l h = le_by (p ∷ a ∷ l ∷ []) (λ p a l. (nat 128 ⊗ a, p ⊗ nat 1024 ⊗ l, nat 128 ⊗ (p ⊗ nat 8 ⊗ l ⊖ a))) refl (prod_nn (pos_nn 128) (less_nn h))

    of_slack : (p r t c : ℤ) → (pos 4 *ℤ r) ≤ℤ (p *ℤ c) → (pos 4096 *ℤ r +ℤ pos (2 ^ 14) *ℤ (p *ℤ t)) ≤ℤ (p *ℤ pos 1024 *ℤ (c +ℤ t *ℤ pos 16))
    of_slack p r t c h = le_by (p ∷ r ∷ t ∷ c ∷ []) (λ p r t c. (nat 4096 ⊗ r ⊕ nat (2 ^ 14) ⊗ (p ⊗ t), p ⊗ nat 1024 ⊗ (c ⊕ t ⊗ nat 16), nat 1024 ⊗ (p ⊗ c ⊖ nat 4 ⊗ r))) refl (prod_nn (pos_nn 1024) (less_nn h))

pub near_for_rows : (arcs : List Arc) (ss : List ℕ) (pairs : List PairRows) (n : Normal) (h : ℕ) (z m : List ℤ) (t x : ℤ) → length z ≡ integer_count arcs ss → IsNormalOf arcs ss pairs n →
    StaysAtMost arcs ss pairs z m (pos (2 ^ h) *ℤ t) → IsVectorBound n h z m t x → KeepsNear arcs ss pairs z m (move_units x)
near_for_rows arcs ss pairs n h z m t x entries normal upper bound = record {
  near = λ observed fit b better. go observed fit b better;
  least = λ observed fit b is. go observed fit b (is (moved m));
}
  where
    go : (observed : List (List Observed)) → AreData ss pairs observed → (b : Baseline) → sum_of_squares arcs ss pairs z b observed ≤ʳ sum_of_squares arcs ss pairs z (moved m) observed → AreNear (move_units x) b (moved m)
    go observed fit b better = near_over_rationals (2 ^ 24) (h + 10) (signal_groups arcs ss pairs) z (whole_move m) (pos (2 ^ h) *ℤ t) x (group_data ss observed) b (pow_pos 24)
        (whole_bound arcs ss pairs n h z m t x entries normal bound) (groups_of_vector arcs ss pairs z entries) (data_fit arcs ss pairs observed fit)
        (subst (λ (f : Rational). f ≤ʳ of_whole (pos (2 ^ h) *ℤ t)) (sum_is arcs ss pairs z (moved m) observed fit) (upper.above observed fit))
        (rw (← sum_is arcs ss pairs z b observed fit, ← sum_is arcs ss pairs z (moved m) observed fit) better)

-- within a greater distance too
pub wider_distance : (arcs : List Arc) (ss : List ℕ) (pairs : List PairRows) (z m : List ℤ) (d e : Rational) → d ≤ʳ e → KeepsNear arcs ss pairs z m d → KeepsNear arcs ss pairs z m e
wider_distance arcs ss pairs z m d e h holds = record {
  near = λ observed fit b better. go b (holds.near observed fit b better);
  least = λ observed fit b is. go b (holds.least observed fit b is);
}
  where
    both : (p q : Rational) → AreWithin d p q → AreWithin e p q
    both p q w = (≤ʳ_trans (p -ʳ q) d e w.0 h, ≤ʳ_trans (q -ʳ p) d e w.1 h)

    go : (b : Baseline) → AreNear d b (moved m) → AreNear e b (moved m)
    go b near = record { b1 = both b.b1 (moved m).b1 near.b1; b2 = both b.b2 (moved m).b2 near.b2; b3 = both b.b3 (moved m).b3 near.b3 }

-- hundredths of a millimetre, rounded up
pub rounded_hundredths : (x y : ℤ) → (x *ℤ pos 299792458) ≤ℤ (y *ℤ pos 695705472) → move_units x ≤ʳ hundredths_of_mm y
rounded_hundredths x y h = le_by (x ∷ y ∷ []) (λ x y. (
  x ⊗ nat (299792458 * (100000 * 2 ^ 11)),
  y ⊗ nat 2174079600000 ⊗ nat (2 ^ 16),
  nat 204800000 ⊗ (y ⊗ nat 695705472 ⊖ x ⊗ nat 299792458),
)) refl (prod_nn (pos_nn 204800000) (less_nn h))
