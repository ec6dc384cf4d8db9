-- From the signal groups to the session: the bound over all data, best integers, one denominator.
use Rattle.std.proofs.Common.{◌≡◌, ◌≢◌, ℕ, ◌^◌, List, length, ℤ, pos, ◌*ℤ◌, Ok, sym, ◌∙◌, ap, subst}
use Rattle.whole_math.specs.Vectors.{len}
use Rattle.whole_math.proofs.Vectors.{len_is}
use Rattle.whole_math.specs.Rational.{Rational, of_whole, ◌*ʳ◌, ◌≤ʳ◌, ◌<ʳ◌}
use Rattle.whole_math.proofs.Over.{Over}
use Rattle.quadratic_form.specs.Forms.{Column}
use Rattle.quadratic_form.specs.Elimination.{Factor, steps}
use Rattle.quadratic_form.specs.Rows.{WholeBaseline, WholeData, GroupsOf, first_rounding, value, whole_sum_of_squares}
use Rattle.quadratic_form.specs.RationalData.{IsBest}
use Rattle.whole_math.specs.Spread.{Baseline}
use Rattle.quadratic_form.proofs.RationalData.{OverAll, OverBase, F_over, bound_over_rationals}
use Rattle.obs_rows.specs.declared.arcs.Arc.{Arc}
use Rattle.obs_rows.specs.declared.pair_rows.PairRows.{PairRows}
use Rattle.obs_rows.specs.declared.sessions.Session.{Session}
use Rattle.obs_rows.specs.Signals.{fine_signals}
use Rattle.obs_rows.specs.Integers.{integer_count}
use Rattle.obs_rows.specs.Data.{Observed, AreData}
use Rattle.obs_rows.specs.SumOfSquares.{sum_of_squares}
use Rattle.obs_rows.specs.Best.{moved, IsVectorOf, IsStrictlyBest}
use Rattle.obs_rows.specs.SignalGroups.{signal_groups, group_data, whole_move}
use Rattle.obs_rows.proofs.GroupLaws.{sum_is, data_fit}
use Rattle.obs_rows.proofs.GroupShapes.{groups_of}

-- the groups have a coefficient for each entry of an integer vector
pub groups_of_vector : (arcs : List Arc) (ss : List ℕ) (pairs : List PairRows) (z : List ℤ) → length z ≡ integer_count arcs ss → GroupsOf (len z) (signal_groups arcs ss pairs)
groups_of_vector arcs ss pairs z e = subst (λ (n : ℤ). GroupsOf n (signal_groups arcs ss pairs)) (sym (len_is z ∙ ap pos e)) (groups_of arcs ss pairs)

-- the sum of squares over one denominator d of the data and one, e, of the baseline
pub sum_over : (arcs : List Arc) (ss : List ℕ) (pairs : List PairRows) (d e : ℤ) (z : List ℤ) (c : WholeBaseline) (b : Baseline) (ts : List (List WholeData)) (observed : List (List Observed)) →
    AreData ss pairs observed → OverAll d ts (group_data ss observed) → OverBase e c b →
    Over ((d *ℤ e) *ℤ (d *ℤ e)) (whole_sum_of_squares d e z c (signal_groups arcs ss pairs) ts) (sum_of_squares arcs ss pairs z b observed)
sum_over arcs ss pairs d e z c b ts observed h over base =
    subst (λ (f : Rational). Over ((d *ℤ e) *ℤ (d *ℤ e)) (whole_sum_of_squares d e z c (signal_groups arcs ss pairs) ts) f) (sym (sum_is arcs ss pairs z b observed h))
    (F_over d e z c b (signal_groups arcs ss pairs) ts (group_data ss observed) over base)

-- 64 times the sum of squares is at least 2^h times the value of the form that three steps leave, for all data, all integers and all rational baselines
pub bound_for_all_data : (arcs : List Arc) (ss : List ℕ) (pairs : List PairRows) (h : ℕ) (z : List ℤ) (b : Baseline) (observed : List (List Observed)) (p : List Factor × List Column) →
    length z ≡ integer_count arcs ss → AreData ss pairs observed → steps 0 3 (first_rounding h (length z) (signal_groups arcs ss pairs)) ≡ Ok p →
    of_whole (pos (2 ^ h) *ℤ value p.1 z) ≤ʳ of_whole (pos 64) *ʳ sum_of_squares arcs ss pairs z b observed
bound_for_all_data arcs ss pairs h z b observed p e f s =
    subst (λ (q : Rational). of_whole (pos (2 ^ h) *ℤ value p.1 z) ≤ʳ of_whole (pos 64) *ʳ q) (sym (sum_is arcs ss pairs z b observed f))
    (bound_over_rationals h z b (signal_groups arcs ss pairs) (group_data ss observed) p (groups_of_vector arcs ss pairs z e) (data_fit arcs ss pairs observed f) s)

-- integers that are best for the groups are best in the session
pub best_from_groups : (s : Session) (z m : List ℤ) → s.scale ≡ 0 → IsVectorOf s z →
    IsBest (signal_groups s.arcs (fine_signals s.signals) s.pairs) z (whole_move m) → IsStrictlyBest s z m
best_from_groups s z m fine entries best = record { fine = fine; entries = entries; best = go }
  where
    ss : List ℕ
    ss = fine_signals s.signals

    go : (observed : List (List Observed)) → AreData ss s.pairs observed → (w : List ℤ) → IsVectorOf s w → w ≢ z → (b : Baseline) →
        sum_of_squares s.arcs ss s.pairs z (moved m) observed <ʳ sum_of_squares s.arcs ss s.pairs w b observed
    go observed h w e n b = rw (sum_is s.arcs ss s.pairs z (moved m) observed h, sum_is s.arcs ss s.pairs w b observed h)
        (best.best (group_data ss observed) (data_fit s.arcs ss s.pairs observed h) w (len_is w ∙ ap pos (e ∙ sym entries) ∙ sym (len_is z)) n b)
