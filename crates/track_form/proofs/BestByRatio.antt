-- Where a track's second value is far enough above the upper sum, the least integers with the moves are best by the ratio.
use Rattle.std.proofs.Common.{◌≡◌, ℕ, ◌+◌, ◌-◌, ◌≤◌, List, [], ◌∷◌, length, map, get_or, All, ℤ, pos, ◌+ℤ◌, arith, sym, ap, ap₂, ◌∙◌, subst}
use Rattle.std.specs.List.{AllZip}
use Rattle.std.proofs.lemmas.Slice.Zip.{AllZip-long}
use Rattle.std.proofs.Math.IntN.{+ℤ_idr}
use Rattle.whole_math.specs.Vectors.{len}
use Rattle.whole_math.proofs.Vectors.{len_is}
use Rattle.whole_math.proofs.Order.{lins}
use Rattle.quadratic_form.specs.Forms.{Column}
use Rattle.quadratic_form.specs.Elimination.{form_small, steps}
use Rattle.quadratic_form.specs.Rows.{value}
use Rattle.quadratic_form.specs.TwoLeast.{TwoLeast}
use Rattle.obs_rows.specs.declared.arcs.Arc.{Arc}
use Rattle.obs_rows.specs.declared.pair_rows.PairRows.{PairRows}
use Rattle.obs_rows.specs.Best.{moved}
use Rattle.obs_rows.specs.Integers.{integer_count}
use Rattle.integer_form.specs.declared.front_form.FrontForm.{FrontForm}
use Rattle.integer_form.specs.declared.form.Form.{Form}
use Rattle.integer_form.specs.Factors.{stored}
use Rattle.integer_form.specs.Forms.{integers_of, columns_of}
use Rattle.integer_form.specs.Kept.{form_of_table}
use Rattle.lower_form.specs.FirstRounding.{first_form}
use Rattle.lower_form.specs.Fronts.{BoundsAllData}
use Rattle.lower_form.proofs.FrontLaws.{bounds_all, fewer}
use Rattle.int_search.specs.declared.answer.TwoBest.{TwoBest}
use Rattle.fix_decide.specs.Bounds.{StaysAtMost}
use Rattle.fix_decide.specs.UpperSums.{pair_upper}
use Rattle.fix_decide.specs.Widths.{IsWide}
use Rattle.fix_decide.specs.Decisions.{IsSeparated, first_of, second_of}
use Rattle.fix_decide.proofs.UpperLaws.{stays_at_most}
use Rattle.fix_decide.proofs.SessionForms.{taken}
use Rattle.track_form.specs.Fronts.{Front, track_form, track_top}
use Rattle.track_form.specs.Best.{IsBoundedBy, AreBoundedAbove}
use Rattle.track_form.specs.PairFronts.{IsFrontOfPair, AreFronts, brief}
use Rattle.track_form.specs.SumDecided.{IsSumOfFronts, AreFound, pair_uppers, pair_sum, IsPairData, IsBestByRatio}
use Rattle.track_form.proofs.Best.{best_by_ratio}

-- ---- one pair
pair_bounded : (arcs : List Arc) (ss : List ℕ) (p : PairRows) (f : FrontForm) → IsFrontOfPair arcs ss p f → BoundsAllData arcs ss (p ∷ []) f.h (form_of_table f.p (f.columns - 3))
pair_bounded arcs ss p f is = bounds_all arcs ss (p ∷ []) is.normal f.h (stored f.d f.l f.columns 0 3, form_of_table f.p (f.columns - 3)) is.of_rows
    (taken (steps 0 3 (first_form f.h is.normal)) (form_small (first_form f.h is.normal)) (stored f.d f.l f.columns 0 3, form_of_table f.p (f.columns - 3)) is.front.taken)

order_of : (arcs : List Arc) (ss : List ℕ) (p : PairRows) (f : FrontForm) (n : ℕ) → IsFrontOfPair arcs ss p f → n ≡ (4 + integer_count arcs ss) - 3 → f.columns - 3 ≡ n
order_of arcs ss p f n is e = ap (λ (c : ℕ). c - 3) (is.front.columns ∙ is.of_rows.columns) ∙ sym e

-- ---- all pairs
bounded_each : (arcs : List Arc) (ss : List ℕ) (n : ℕ) (z : List ℤ) (pairs : List PairRows) (fs : List FrontForm) → n ≡ (4 + integer_count arcs ss) - 3 → length z ≡ integer_count arcs ss →
    AreFronts arcs ss pairs fs →
    AllZip (IsBoundedBy (pair_sum arcs ss) (IsPairData ss) n z) pairs (map brief fs)
bounded_each arcs ss n z [] [] order entries are = tt
bounded_each arcs ss n z [] (f ∷ fs) order entries are = absurd are
bounded_each arcs ss n z (p ∷ ps) [] order entries are = absurd are
bounded_each arcs ss n z (p ∷ ps) (f ∷ fs) order entries are = (one, bounded_each arcs ss n z ps fs order entries are.1)
  where
    bound : BoundsAllData arcs ss (p ∷ []) f.h (form_of_table f.p n)
    bound = subst (λ (k : ℕ). BoundsAllData arcs ss (p ∷ []) f.h (form_of_table f.p k)) (order_of arcs ss p f n are.0 order) (pair_bounded arcs ss p f are.0)

    one : IsBoundedBy (pair_sum arcs ss) (IsPairData ss) n z p (brief f)
    one = λ d w b data_are l. bound.below w b (d ∷ []) (same (length w) (length z) (sym (len_is w) ∙ l ∙ len_is z) ∙ entries) data_are
      where
        same : (a b : ℕ) → pos a ≡ pos b → a ≡ b
        same a b e = omega (arith, lins)

above_each : (arcs : List Arc) (ss : List ℕ) (z : List ℤ) (pairs : List PairRows) (moves : List (List ℤ)) → length z ≡ integer_count arcs ss → AllZip (λ p m. IsWide arcs ss z m p → ⊥) pairs moves →
    AreBoundedAbove (pair_sum arcs ss) (IsPairData ss) z pairs (map moved moves) (pair_uppers arcs ss z pairs moves)
above_each arcs ss z [] [] entries are = tt
above_each arcs ss z [] (m ∷ ms) entries are = absurd are
above_each arcs ss z (p ∷ ps) [] entries are = absurd are
above_each arcs ss z (p ∷ ps) (m ∷ ms) entries are = (λ d data_are. one.above (d ∷ []) data_are, above_each arcs ss z ps ms entries are.1)
  where
    one : StaysAtMost arcs ss (p ∷ []) z m (pair_upper arcs ss z m p)
    one = subst (λ (u : ℤ). StaysAtMost arcs ss (p ∷ []) z m u) (+ℤ_idr (pair_upper arcs ss z m p)) (stays_at_most arcs ss (p ∷ []) z m entries)

-- ---- the decision
pub track_best_by_ratio : (arcs : List Arc) (ss : List ℕ) (pairs : List PairRows) (ratio budget h : ℕ) (moves : List (List ℤ)) (best : TwoBest) (top : ℤ) →
    AreFound arcs ss pairs budget h moves best top → IsSeparated (pos ratio) top best.p2 → IsBestByRatio ratio arcs ss pairs (first_of best) moves
track_best_by_ratio arcs ss pairs ratio budget h moves best top found far = record {
  entries = entries;
  move_each = AllZip-long (λ p m. IsWide arcs ss z1 m p → ⊥) pairs moves found.bounded;
  best = best_by_ratio (pair_sum arcs ss) (IsPairData ss) n h pairs (map brief found.fronts) (map moved moves) us ratio z1 z2 over one_more least separated
      (bounded_each arcs ss n z1 pairs found.fronts order entries sum.of_pairs) (above_each arcs ss z1 pairs moves entries found.bounded);
}
  where
    form : Form
    form = found.form

    z1 : List ℤ
    z1 = first_of best

    z2 : List ℤ
    z2 = second_of best

    n : ℕ
    n = form.columns - 3

    us : List ℤ
    us = pair_uppers arcs ss z1 pairs moves

    sum : IsSumOfFronts arcs ss pairs found.fronts found.of_rows.sum
    sum = found.of_rows.of_fronts

    columns : form.columns ≡ 4 + integer_count arcs ss
    columns = found.of_rows.finished.columns ∙ sum.columns

    order : n ≡ (4 + integer_count arcs ss) - 3
    order = ap (λ (c : ℕ). c - 3) columns

    exponent : found.of_rows.sum.h ≡ h
    exponent = sym found.of_rows.finished.h ∙ sym found.h_is

    whole : (a b : ℕ) → pos a ≡ pos b → a ≡ b
    whole a b e = omega (arith, lins)

    entries : length z1 ≡ integer_count arcs ss
    entries = whole (length z1) (integers_of form) (sym (len_is z1) ∙ found.best_is.least.first) ∙ fewer form.columns (integer_count arcs ss) columns

    one_more : pos 1 +ℤ len z1 ≡ pos n
    one_more = ap (λ (x : ℤ). pos 1 +ℤ x) found.best_is.least.first ∙ ap pos (more form.columns (integer_count arcs ss) columns)
      where
        more : (a b : ℕ) → a ≡ 4 + b → 1 + (a - 4) ≡ a - 3
        more a b e = omega arith

    form_is : columns_of form ≡ track_form n h (map brief found.fronts)
    form_is = ap₂ (λ (p : List (List ℤ)) (c : ℕ). form_of_table p (c - 3)) found.of_rows.finished.p found.of_rows.finished.columns ∙ sum.form
        ∙ ap₂ (λ (c k : ℕ). track_form (c - 3) k (map brief found.fronts)) (sym found.of_rows.finished.columns) exponent

    least : TwoLeast (track_form n h (map brief found.fronts)) (len z1) z1 z2
    least = subst (λ (a : List Column). TwoLeast a (len z1) z1 z2) form_is (subst (λ (k : ℤ). TwoLeast (columns_of form) k z1 z2) (sym found.best_is.least.first) found.best_is.least)

    over : All (λ (g : Front). g.h ≤ h) (map brief found.fronts)
    over = λ k d l. weaker (get_or (map brief found.fronts) k d).h sum.e found.of_rows.sum.h h (sum.exponents.over k d l) exponent
      where
        weaker : (a e b c : ℕ) → a + e ≤ b → b ≡ c → a ≤ c
        weaker a e b c l i = omega (arith, l, i)

    separated : IsSeparated (pos ratio) (track_top h us) (value (track_form n h (map brief found.fronts)) z2)
    separated = subst (λ (t : ℤ). IsSeparated (pos ratio) t (value (track_form n h (map brief found.fronts)) z2)) found.top_is
        (subst (λ (x : ℤ). IsSeparated (pos ratio) top x) (found.best_is.p2 ∙ ap (λ (a : List Column). value a z2) form_is) far)
