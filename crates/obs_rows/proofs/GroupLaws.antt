-- A session's data and sum of squares are those of its signal groups.
use Rattle.std.proofs.Common.{◌≡◌, ℕ, ◌*◌, List, [], ◌∷◌, ◌++◌, map, ℤ, pos, ◌*ℤ◌, neg_ℤ, sym, ◌∙◌, ap, ap₂, refl, mul-pos}
use Rattle.std.specs.List.{AllZip}
use Rattle.std.proofs.lemmas.List.{length-map}
use Rattle.std.proofs.lemmas.List.Elements.{All-head, All-tail}
use Rattle.whole_math.specs.Vectors.{dot}
use Rattle.whole_math.proofs.Ring.{◌⊕◌, ◌⊖◌, ◌⊗◌, ng}
use Rattle.whole_math.proofs.Inequalities.{same_by, nat}
use Rattle.whole_math.specs.Rational.{Rational, Near, of_whole, ◌+ʳ◌, ◌-ʳ◌, ◌*ʳ◌}
use Rattle.quadratic_form.specs.Rows.{SignalGroup, share as group_share}
use Rattle.quadratic_form.specs.RationalData.{RowData, Fits, FitsAll, residual as group_residual, residuals as group_residuals}
use Rattle.whole_math.specs.Spread.{Baseline, sum_of_rationals, spread_of_rationals}
use Rattle.quadratic_form.specs.RationalData.{sum_of_squares as group_sum}
use Rattle.obs_rows.specs.declared.arcs.Arc.{Arc}
use Rattle.obs_rows.specs.declared.rows.Row.{Row}
use Rattle.obs_rows.specs.declared.pair_rows.PairRows.{PairRows}
use Rattle.obs_rows.specs.Signals.{cycle}
use Rattle.obs_rows.specs.Integers.{integer_count, integer_place, integer}
use Rattle.obs_rows.specs.Data.{Observed, number_at, IsInBoxes, AreData}
use Rattle.obs_rows.specs.SumOfSquares.{along, residual, residuals, share, term, terms, sum_of_squares}
use Rattle.obs_rows.specs.SignalGroups.{cycles, signal_row, signal_group, signal_groups, signal_data, group_data}
use Rattle.obs_rows.proofs.IntegerPlaces.{place_below, dot_only_at}

-- ---- residuals
sub_of_whole : (p : Rational) (k : ℤ) → p -ʳ of_whole k ≡ p +ʳ of_whole (neg_ℤ k)
sub_of_whole p k = ap with_num (same_by (p.num ∷ k ∷ pos p.den ∷ []) (λ n k d. (n ⊗ nat 1 ⊖ k ⊗ d, n ⊗ nat 1 ⊕ ng k ⊗ d)) refl)
  where
    with_num : ℤ → Rational
    with_num n = record { num = n; den = p.den * 1; positive = mul-pos p.positive (of_whole k).positive }

-- an integer as the groups see it
pub cycles_give : (arcs : List Arc) (ss : List ℕ) (s : ℕ) (z : List ℤ) (r : Row) → neg_ℤ (cycle s *ℤ integer arcs ss z r.arc s) ≡ dot (cycles arcs ss s r) z
cycles_give arcs ss s z r =
    same_by (cycle s ∷ integer arcs ss z r.arc s ∷ []) (λ c n. (ng (c ⊗ n), ng c ⊗ n)) refl
    ∙ sym (dot_only_at (integer_count arcs ss) (integer_place arcs ss r.arc s) (neg_ℤ (cycle s)) z (place_below arcs ss r.arc s))

residual_is : (arcs : List Arc) (ss : List ℕ) (z : List ℤ) (b : Baseline) (s : ℕ) (r : Row) (q : Observed) → residual arcs ss z b s r q ≡ group_residual z b (signal_row arcs ss s r) (signal_data s q)
residual_is arcs ss z b s r q =
    sub_of_whole (q.y s -ʳ along q b) (cycle s *ℤ integer arcs ss z r.arc s)
    ∙ ap (λ (k : ℤ). q.y s -ʳ along q b +ʳ of_whole k) (cycles_give arcs ss s z r)

residuals_are : (arcs : List Arc) (ss : List ℕ) (z : List ℤ) (b : Baseline) (s : ℕ) (rs : List Row) (qs : List Observed) →
    residuals arcs ss z b s rs qs ≡ group_residuals z b (map (signal_row arcs ss s) rs) (map (signal_data s) qs)
residuals_are arcs ss z b s [] qs = refl
residuals_are arcs ss z b s (r ∷ rs) [] = refl
residuals_are arcs ss z b s (r ∷ rs) (q ∷ qs) = ap₂ (λ (x : Rational) (xs : List Rational). x ∷ xs) (residual_is arcs ss z b s r q) (residuals_are arcs ss z b s rs qs)

-- ---- the sum
term_is : (arcs : List Arc) (ss : List ℕ) (z : List ℤ) (b : Baseline) (p : PairRows) (qs : List Observed) (s : ℕ) →
    term arcs ss z b p qs s ≡ of_whole (group_share (signal_group arcs ss p s)) *ʳ spread_of_rationals (group_residuals z b (map (signal_row arcs ss s) p.rows) (map (signal_data s) qs))
term_is arcs ss z b p qs s =
    ap₂ (λ (n : ℕ) (xs : List Rational). of_whole (share n s) *ʳ spread_of_rationals xs) (sym (length-map p.rows (signal_row arcs ss s))) (residuals_are arcs ss z b s p.rows qs)

terms_of_pair : (arcs : List Arc) (ss : List ℕ) (z : List ℤ) (b : Baseline) (p : PairRows) (qs : List Observed) (signals : List ℕ) (rest : List Rational) (gs : List SignalGroup)
    (ds : List (List RowData)) →
    sum_of_rationals rest ≡ group_sum z b gs ds →
    sum_of_rationals (map (term arcs ss z b p qs) signals ++ rest) ≡ group_sum z b (map (signal_group arcs ss p) signals ++ gs) (map (λ s. map (signal_data s) qs) signals ++ ds)
terms_of_pair arcs ss z b p qs [] rest gs ds e = e
terms_of_pair arcs ss z b p qs (s ∷ signals) rest gs ds e = ap₂ ◌+ʳ◌ (term_is arcs ss z b p qs s) (terms_of_pair arcs ss z b p qs signals rest gs ds e)

-- the sum of squares is that of the groups
pub sum_is : (arcs : List Arc) (ss : List ℕ) (pairs : List PairRows) (z : List ℤ) (b : Baseline) (observed : List (List Observed)) → AreData ss pairs observed →
    sum_of_squares arcs ss pairs z b observed ≡ group_sum z b (signal_groups arcs ss pairs) (group_data ss observed)
sum_is arcs ss [] z b [] h = refl
sum_is arcs ss [] z b (qs ∷ rest) h = absurd h
sum_is arcs ss (p ∷ ps) z b [] h = absurd h
sum_is arcs ss (p ∷ ps) z b (qs ∷ rest) h =
    terms_of_pair arcs ss z b p qs ss (terms arcs ss z b ps rest) (signal_groups arcs ss ps) (group_data ss rest) (sum_is arcs ss ps z b rest h.1)

-- ---- the boxes
rows_fit : (arcs : List Arc) (ss : List ℕ) (s : ℕ) (signals : List ℕ) (rs : List Row) (qs : List Observed) → AllZip (IsInBoxes (s ∷ signals)) rs qs →
    Fits (map (signal_row arcs ss s) rs) (map (signal_data s) qs)
rows_fit arcs ss s signals [] [] h = tt
rows_fit arcs ss s signals [] (q ∷ qs) h = absurd h
rows_fit arcs ss s signals (r ∷ rs) [] h = absurd h
rows_fit arcs ss s signals (r ∷ rs) (q ∷ qs) h = (
  (h.0.u1, h.0.u2, h.0.u3, All-head (λ (t : ℕ). Near (number_at r.y t) r.ry (q.y t)) s signals h.0.y),
  rows_fit arcs ss s signals rs qs h.1,
)

rows_rest : (s : ℕ) (signals : List ℕ) (rs : List Row) (qs : List Observed) → AllZip (IsInBoxes (s ∷ signals)) rs qs → AllZip (IsInBoxes signals) rs qs
rows_rest s signals [] [] h = tt
rows_rest s signals [] (q ∷ qs) h = absurd h
rows_rest s signals (r ∷ rs) [] h = absurd h
rows_rest s signals (r ∷ rs) (q ∷ qs) h = (
  record { y = All-tail (λ (t : ℕ). Near (number_at r.y t) r.ry (q.y t)) s signals h.0.y; u1 = h.0.u1; u2 = h.0.u2; u3 = h.0.u3 },
  rows_rest s signals rs qs h.1,
)

pair_fits : (arcs : List Arc) (ss : List ℕ) (p : PairRows) (qs : List Observed) (signals : List ℕ) (gs : List SignalGroup) (ds : List (List RowData)) → AllZip (IsInBoxes signals) p.rows qs →
    FitsAll gs ds →
    FitsAll (map (signal_group arcs ss p) signals ++ gs) (map (λ s. map (signal_data s) qs) signals ++ ds)
pair_fits arcs ss p qs [] gs ds h f = f
pair_fits arcs ss p qs (s ∷ signals) gs ds h f = (rows_fit arcs ss s signals p.rows qs h, pair_fits arcs ss p qs signals gs ds (rows_rest s signals p.rows qs h) f)

-- data of the session are data of the groups
pub data_fit : (arcs : List Arc) (ss : List ℕ) (pairs : List PairRows) (observed : List (List Observed)) → AreData ss pairs observed → FitsAll (signal_groups arcs ss pairs) (group_data ss observed)
data_fit arcs ss [] [] h = tt
data_fit arcs ss [] (qs ∷ rest) h = absurd h
data_fit arcs ss (p ∷ ps) [] h = absurd h
data_fit arcs ss (p ∷ ps) (qs ∷ rest) h =
    pair_fits arcs ss p qs ss (signal_groups arcs ss ps) (group_data ss rest) h.0 (data_fit arcs ss ps rest h.1)
