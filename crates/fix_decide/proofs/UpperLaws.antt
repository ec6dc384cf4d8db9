-- The upper sum over rows is that of their signal groups, and bounds the sum of squares for all data.
use Rattle.std.proofs.Common.{◌≡◌, ℕ, ◌^◌, List, [], ◌∷◌, ◌++◌, length, map, ℤ, pos, neg_ℤ, ◌+ℤ◌, ◌-ℤ◌, ◌*ℤ◌, ◌≤ℤ◌, arith, sym, ap₂, ◌∙◌, refl, pow_pos, ◌<◌, ◌≤◌, ◌+◌, ◌*◌}
use Rattle.std.proofs.lemmas.List.{length-map}
use Rattle.std.proofs.Math.IntN.{+ℤ_assoc, +ℤ_idl}
use Rattle.std.proofs.lemmas.Int.{ints}
use Rattle.whole_math.specs.Vectors.{sum, dot}
use Rattle.whole_math.specs.Rounding.{floor_div}
use Rattle.whole_math.proofs.Order.{lins}
use Rattle.whole_math.proofs.Rounding.{ceil_close}
use Rattle.whole_math.specs.Rational.{Rational, of_whole, ◌≤ʳ◌}
use Rattle.whole_math.proofs.RationalLaws.{≤ʳ_trans, of_whole-le}
use Rattle.quadratic_form.specs.Rows.{SignalGroup, share as group_share}
use Rattle.quadratic_form.specs.UpperSum.{size, centre as group_centre, rad as group_rad, gap as group_gap, gaps_from as group_gaps_from, gaps as group_gaps, upper_sum as group_sum}
use Rattle.quadratic_form.proofs.RationalData.{upper_over_rationals}
use Rattle.obs_rows.specs.declared.arcs.Arc.{Arc}
use Rattle.obs_rows.specs.declared.rows.Row.{Row}
use Rattle.obs_rows.specs.declared.pair_rows.PairRows.{PairRows}
use Rattle.obs_rows.specs.Signals.{cycle}
use Rattle.obs_rows.specs.Integers.{integer_count, integer}
use Rattle.obs_rows.specs.Data.{Observed, number_at, AreData}
use Rattle.obs_rows.specs.SumOfSquares.{share, sum_of_squares}
use Rattle.obs_rows.specs.Best.{moved}
use Rattle.obs_rows.specs.SignalGroups.{cycles, signal_row, signal_group, signal_groups, group_data, whole_move}
use Rattle.obs_rows.proofs.GroupLaws.{sum_is, data_fit, cycles_give}
use Rattle.obs_rows.proofs.SessionLaws.{groups_of_vector}
use Rattle.obs_rows.specs.declared.limits.TheConstants.{MOST_PAIRS}
use Rattle.fix_decide.specs.Reaches.{gap, gaps_from, gaps}
use Rattle.fix_decide.specs.UpperSums.{scalar_product, centre, rad, reach_of, signal_upper, upper_sum, top}
use Rattle.fix_decide.specs.Bounds.{StaysAtMost}
use Rattle.fix_decide.proofs.Radii.{number-sizes}

-- ---- one row

less : (a b c : ℤ) → neg_ℤ b ≡ c → a -ℤ b ≡ a +ℤ c
less a b c e = omega (arith, lins)

centre_is : (arcs : List Arc) (ss : List ℕ) (z m : List ℤ) (s : ℕ) (r : Row) → centre arcs ss z m s r ≡ group_centre z (whole_move m) (signal_row arcs ss s r)
centre_is arcs ss z m s r = less (floor_div ((number_at r.y s *ℤ pos (2 ^ 16)) -ℤ scalar_product r.u m) (2 ^ 16)) (cycle s *ℤ integer arcs ss z r.arc s)
    (dot (cycles arcs ss s r) z) (cycles_give arcs ss s z r)

rad_is : (arcs : List Arc) (ss : List ℕ) (m : List ℤ) (s : ℕ) (r : Row) → rad m r ≡ group_rad (whole_move m) (signal_row arcs ss s r)
rad_is arcs ss m s r = rw (number-sizes m 0, number-sizes m 1, number-sizes m 2) refl

gap_is : (arcs : List Arc) (ss : List ℕ) (z m : List ℤ) (s : ℕ) (r q : Row)
    → gap (reach_of arcs ss z m s r) (reach_of arcs ss z m s q) ≡ group_gap z (whole_move m) (signal_row arcs ss s r) (signal_row arcs ss s q)
gap_is arcs ss z m s r q = ap₂ (λ a b. a +ℤ b)
    (ap₂ (λ a b. size (a -ℤ b)) (centre_is arcs ss z m s r) (centre_is arcs ss z m s q))
    (ap₂ (λ a b. a +ℤ b) (rad_is arcs ss m s r) (rad_is arcs ss m s q))

-- ---- the rows of a pair, as one signal sees them
gaps_from_are : (arcs : List Arc) (ss : List ℕ) (z m : List ℤ) (s : ℕ) (r : Row) (rs : List Row) →
    gaps_from (reach_of arcs ss z m s r) (map (reach_of arcs ss z m s) rs) ≡ group_gaps_from z (whole_move m) (signal_row arcs ss s r) (map (signal_row arcs ss s) rs)
gaps_from_are arcs ss z m s r [] = refl
gaps_from_are arcs ss z m s r (q ∷ rs) = ap₂ (λ a b. (a *ℤ a) +ℤ b) (gap_is arcs ss z m s r q) (gaps_from_are arcs ss z m s r rs)

gaps_are : (arcs : List Arc) (ss : List ℕ) (z m : List ℤ) (s : ℕ) (rs : List Row) → gaps (map (reach_of arcs ss z m s) rs) ≡ group_gaps z (whole_move m) (map (signal_row arcs ss s) rs)
gaps_are arcs ss z m s [] = refl
gaps_are arcs ss z m s (r ∷ rs) = ap₂ (λ a b. a +ℤ b) (gaps_from_are arcs ss z m s r rs) (gaps_are arcs ss z m s rs)

signal_is : (arcs : List Arc) (ss : List ℕ) (z m : List ℤ) (p : PairRows) (s : ℕ) →
    signal_upper arcs ss z m p s ≡ group_share (signal_group arcs ss p s) *ℤ group_gaps z (whole_move m) (map (signal_row arcs ss s) p.rows)
signal_is arcs ss z m p s = ap₂ (λ (n : ℕ) (g : ℤ). share n s *ℤ g) (sym (length-map p.rows (signal_row arcs ss s))) (gaps_are arcs ss z m s p.rows)

-- ---- all pairs

sum_of_pair : (arcs : List Arc) (ss : List ℕ) (z m : List ℤ) (p : PairRows) (signals : List ℕ) (rest : ℤ) (gs : List SignalGroup) → rest ≡ group_sum z (whole_move m) gs →
    sum (map (signal_upper arcs ss z m p) signals) +ℤ rest ≡ group_sum z (whole_move m) (map (signal_group arcs ss p) signals ++ gs)
sum_of_pair arcs ss z m p [] rest gs e = +ℤ_idl rest ∙ e
sum_of_pair arcs ss z m p (s ∷ signals) rest gs e =
    +ℤ_assoc (signal_upper arcs ss z m p s) (sum (map (signal_upper arcs ss z m p) signals)) rest
    ∙ ap₂ (λ x y. x +ℤ y) (signal_is arcs ss z m p s) (sum_of_pair arcs ss z m p signals rest gs e)

pub upper_sum_is : (arcs : List Arc) (ss : List ℕ) (pairs : List PairRows) (z m : List ℤ) → upper_sum arcs ss pairs z m ≡ group_sum z (whole_move m) (signal_groups arcs ss pairs)
upper_sum_is arcs ss [] z m = refl
upper_sum_is arcs ss (p ∷ ps) z m = sum_of_pair arcs ss z m p ss (upper_sum arcs ss ps z m) (signal_groups arcs ss ps) (upper_sum_is arcs ss ps z m)

-- ---- for all data
pub stays_at_most : (arcs : List Arc) (ss : List ℕ) (pairs : List PairRows) (z m : List ℤ) → length z ≡ integer_count arcs ss → StaysAtMost arcs ss pairs z m (upper_sum arcs ss pairs z m)
stays_at_most arcs ss pairs z m e = record { above = λ (observed : List (List Observed)) (h : AreData ss pairs observed). go observed h }
  where
    go : (observed : List (List Observed)) → AreData ss pairs observed → sum_of_squares arcs ss pairs z (moved m) observed ≤ʳ of_whole (upper_sum arcs ss pairs z m)
    go observed h = rw (sum_is arcs ss pairs z (moved m) observed h, upper_sum_is arcs ss pairs z m)
        (upper_over_rationals z (whole_move m) (signal_groups arcs ss pairs) (group_data ss observed) (groups_of_vector arcs ss pairs z e) (data_fit arcs ss pairs observed h))

-- in units of 2^h, rounded up
pub top_stays_at_most : (h : ℕ) (arcs : List Arc) (ss : List ℕ) (pairs : List PairRows) (z m : List ℤ) → length z ≡ integer_count arcs ss
    → StaysAtMost arcs ss pairs z m (pos (2 ^ h) *ℤ top h arcs ss pairs z m)
top_stays_at_most h arcs ss pairs z m e = record {
  above = λ (observed : List (List Observed)) (f : AreData ss pairs observed).
      wider (sum_of_squares arcs ss pairs z (moved m) observed) (upper_sum arcs ss pairs z m) (pos (2 ^ h) *ℤ top h arcs ss pairs z m)
      ((stays_at_most arcs ss pairs z m e).above observed f) (ceil_close (upper_sum arcs ss pairs z m) (2 ^ h) (pow_pos h));
}
  where
    wider : (q : Rational) (u t : ℤ) → q ≤ʳ of_whole u → u ≤ℤ t → q ≤ʳ of_whole t
    wider q u t h k = ≤ʳ_trans q (of_whole u) (of_whole t) h (of_whole-le u t k)

-- ---- sizes
-- with one pair more the sum stays small, where each adds at most 2^107
pub few_pairs : (k n : ℕ) → k < n → n ≤ MOST_PAIRS → (k + 1) * 2 ^ 107 ≤ 2 ^ 125
few_pairs k n h g = omega arith

-- a sum within its bound fits a word
pub top_fits : (x : ℤ) → x ≤ℤ pos (2 ^ 119) → x ≤ℤ pos (2 ^ 126)
top_fits x h = omega (arith, ints)
