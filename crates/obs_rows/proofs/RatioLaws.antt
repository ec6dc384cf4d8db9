-- No sum of squares is below 0, so what is best by a ratio of 1000 or more is strictly best.
use Rattle.std.proofs.Common.{◌≡◌, ◌≢◌, ℕ, ◌*◌, ◌≤◌, ◌<◌, List, [], ◌∷◌, ℤ, pos, ◌*ℤ◌, ◌≤ℤ◌, ◌<ℤ◌, mul-pos, arith, sym, refl, subst}
use Rattle.whole_math.proofs.Order.{lins, mul_le_cancel, mul_lt_cancel, le_pos}
use Rattle.whole_math.proofs.Ring.{◌⊕◌, ◌⊖◌, ◌⊗◌}
use Rattle.whole_math.proofs.Inequalities.{le_by, both_nn, prod_nn, less_nn, pos_nn, pos_one, later, strict, nat}
use Rattle.whole_math.specs.Rational.{Rational, ◌<ʳ◌}
use Rattle.whole_math.specs.Over.{Over, HasCommonDenominator}
use Rattle.whole_math.proofs.Over.{common}
use Rattle.quadratic_form.specs.Spread.{spread}
use Rattle.quadratic_form.specs.Rows.{SignalGroup, GroupsOf}
use Rattle.quadratic_form.specs.RationalData.{RowData, residuals, sum_of_squares as group_sum}
use Rattle.whole_math.specs.Spread.{Baseline, spread_of_rationals}
use Rattle.quadratic_form.proofs.Spread.{spread_nonneg}
use Rattle.quadratic_form.proofs.UpperSum.{share_nonneg}
use Rattle.quadratic_form.proofs.RationalData.{spread_over}
use Rattle.obs_rows.specs.declared.arcs.Arc.{Arc}
use Rattle.obs_rows.specs.declared.pair_rows.PairRows.{PairRows}
use Rattle.obs_rows.specs.declared.sessions.Session.{Session}
use Rattle.obs_rows.specs.Signals.{fine_signals}
use Rattle.obs_rows.specs.Integers.{integer_count}
use Rattle.obs_rows.specs.Data.{Observed, AreData}
use Rattle.obs_rows.specs.SumOfSquares.{sum_of_squares}
use Rattle.obs_rows.specs.Best.{moved, sum_at, IsVectorOf, IsBestBy, IsStrictlyBest, IsLessByRatio, IsBestByRatio}
use Rattle.obs_rows.specs.SignalGroups.{signal_groups, group_data}
use Rattle.obs_rows.proofs.GroupLaws.{sum_is}
use Rattle.obs_rows.proofs.GroupShapes.{groups_of}

-- ---- signs
-- n / k has the sign of n
sign_over : (k : ℕ) (n : ℤ) (q : Rational) → 0 < k → Over (pos k) n q → pos 0 ≤ℤ n → pos 0 ≤ℤ q.num
sign_over k n q some over from = mul_le_cancel (pos 0) q.num k some
    (le_by (pos k ∷ q.num ∷ []) (λ k a. (nat 0 ⊗ k, a ⊗ k, a ⊗ k)) refl (subst (λ (x : ℤ). pos 0 ≤ℤ x) (sym over) (prod_nn from (pos_nn q.den))))

spread_from : (s : List Rational) → pos 0 ≤ℤ (spread_of_rationals s).num
spread_from s =
    let common_denominator : HasCommonDenominator s = common s in
    sign_over (common_denominator.denominator * common_denominator.denominator) (spread common_denominator.numerators) (spread_of_rationals s) (mul-pos common_denominator.positive common_denominator.positive) (spread_over (pos common_denominator.denominator) common_denominator.numerators s common_denominator.are)
    (spread_nonneg common_denominator.numerators)

group_sum_from : (n : ℤ) (z : List ℤ) (b : Baseline) (gs : List SignalGroup) (qs : List (List RowData)) → GroupsOf n gs → pos 0 ≤ℤ (group_sum z b gs qs).num
group_sum_from n z b [] qs h = omega (arith, lins)
group_sum_from n z b (g ∷ gs) [] h = omega (arith, lins)
group_sum_from n z b (g ∷ gs) (q ∷ qs) h = both_nn (prod_nn (prod_nn (share_nonneg g h.2) (spread_from (residuals z b g.rows q))) (pos_nn _)) (prod_nn (group_sum_from n z b gs qs h.4) (pos_nn _))

pub sum_from : (arcs : List Arc) (ss : List ℕ) (pairs : List PairRows) (z : List ℤ) (b : Baseline) (observed : List (List Observed)) → AreData ss pairs observed →
    pos 0 ≤ℤ (sum_of_squares arcs ss pairs z b observed).num
sum_from arcs ss pairs z b observed held = subst (λ (q : Rational). pos 0 ≤ℤ q.num) (sym (sum_is arcs ss pairs z b observed held))
    (group_sum_from (pos (integer_count arcs ss)) z b (signal_groups arcs ss pairs) (group_data ss observed) (groups_of arcs ss pairs))

-- ---- orders
-- what is less by a ratio of 1000 is less
pub less_by_1000 : (f g : Rational) → IsLessByRatio 1000 f g → f <ʳ g
less_by_1000 f g less = cancelled f.num (pos f.den) g.num (pos g.den) less
  where
    cancelled : (n d m e : ℤ) → (pos 1000 *ℤ n *ℤ e) <ℤ (pos 1000 *ℤ m *ℤ d) → (n *ℤ e) <ℤ (m *ℤ d)
    cancelled n d m e h = mul_lt_cancel (n *ℤ e) (m *ℤ d) 1000 (omega arith)
        (strict (pos_one 1 (omega arith)) (le_by (n ∷ e ∷ m ∷ d ∷ []) (λ n e m d. (n ⊗ e ⊗ nat 1000 ⊕ nat 1, m ⊗ d ⊗ nat 1000, nat 1000 ⊗ m ⊗ d ⊖ (nat 1000 ⊗ n ⊗ e ⊕ nat 1))) refl (less_nn (later h))))

-- and so is what isn't negative and less by a greater ratio
pub less_by_ratio : (ratio : ℕ) → 1000 ≤ ratio → (f g : Rational) → pos 0 ≤ℤ f.num → IsLessByRatio ratio f g → f <ʳ g
less_by_ratio ratio large f g from less = less_by_1000 f g (step (pos ratio) f.num (pos g.den) (pos 1000 *ℤ g.num *ℤ pos f.den) (le_pos 1000 ratio large) from (pos_nn g.den) less)
  where
    step : (r n e m : ℤ) → pos 1000 ≤ℤ r → pos 0 ≤ℤ n → pos 0 ≤ℤ e → (r *ℤ n *ℤ e) <ℤ m → (pos 1000 *ℤ n *ℤ e) <ℤ m
    step r n e m h g i k = strict (pos_one 1 (omega arith)) (le_by (r ∷ n ∷ e ∷ m ∷ []) (λ r n e m. (nat 1000 ⊗ n ⊗ e ⊕ nat 1, m, (m ⊖ (r ⊗ n ⊗ e ⊕ nat 1)) ⊕ (r ⊖ nat 1000) ⊗ (n ⊗ e))) refl
        (both_nn (less_nn (later k)) (prod_nn (less_nn h) (prod_nn g i))))

-- ---- best
-- what is best by one order is best by each that follows from it
pub best_by_weaker : (Below Other : Rational → Rational → Type 0) → ((f g : Rational) → pos 0 ≤ℤ f.num → Below f g → Other f g) →
    (s : Session) (z m : List ℤ) → IsBestBy Below s z m → IsBestBy Other s z m
best_by_weaker Below Other weaker s z m best = record {
  fine = best.fine;
  entries = best.entries;
  best = λ (observed : List (List Observed)) (held : AreData (fine_signals s.signals) s.pairs observed) (w : List ℤ) (e : IsVectorOf s w) (n : w ≢ z) (b : Baseline).
      weaker (sum_at s z (moved m) observed) (sum_at s w b observed) (sum_from s.arcs (fine_signals s.signals) s.pairs z (moved m) observed held) (best.best observed held w e n b);
}

pub ratio_is_strict : (ratio : ℕ) (s : Session) (z m : List ℤ) → 1000 ≤ ratio → IsBestByRatio ratio s z m → IsStrictlyBest s z m
ratio_is_strict ratio s z m large = best_by_weaker (IsLessByRatio ratio) ◌<ʳ◌ (less_by_ratio ratio large) s z m
