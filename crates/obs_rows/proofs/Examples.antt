-- Values worked by hand.
use Rattle.std.proofs.Common.{◌≡◌, ℕ, zero, suc, ◌<◌, ◌≤◌, ◌^◌, List, [], ◌∷◌, pos, All, AllPairs, Some, None, false, true, get_or, length, lit≤, lit<, refl, arith}
use Rattle.std.proofs.lemmas.List.Elements.{All-from_recursion}
use Rattle.std.proofs.lemmas.List.Quantifiers.{all_pairs_push}
use Rattle.whole_math.proofs.Order.{lins}
use Rattle.whole_math.specs.Rational.{◌≈◌, of_whole}
use Rattle.whole_math.specs.Spread.{Baseline, spread_of_rationals}
use Rattle.obs_rows.specs.declared.arcs.Arc.{Arc}
use Rattle.obs_rows.specs.declared.rows.Row.{Row}
use Rattle.obs_rows.specs.declared.pair_rows.PairRows.{PairRows}
use Rattle.obs_rows.specs.declared.units.TheConstants.{SIGNALS_12, COARSE_SIGNALS}
use Rattle.obs_rows.specs.Ranges.{IsRadius, IsWithin}
use Rattle.obs_rows.specs.Integers.{integer_count, integer_place}
use Rattle.obs_rows.specs.Centres.{centres}
use Rattle.obs_rows.specs.SumOfSquares.{sum_of_squares}

-- residuals 0, 1 and 3: 3 · (0 + 1 + 9) - (0 + 1 + 3)² = 14
spread_of_three : spread_of_rationals (of_whole (pos 0) ∷ of_whole (pos 1) ∷ of_whole (pos 3) ∷ []) ≈ of_whole (pos 14)
spread_of_three = refl

-- ---- arcs and integers
-- a free arc, a datum and a free arc
abbrev three_arcs : List Arc
three_arcs =
    record { sat = 3; first = 0; last = 9; datum = false; shift = pos 0 ∷ pos 0 ∷ pos 0 ∷ [] }
    ∷ record { sat = 5; first = 0; last = 9; datum = true; shift = pos 0 ∷ pos 0 ∷ pos 0 ∷ [] }
    ∷ record { sat = 9; first = 0; last = 9; datum = false; shift = pos 0 ∷ pos 0 ∷ pos 0 ∷ [] }
    ∷ []

four_integers : integer_count three_arcs SIGNALS_12 ≡ 4
four_integers = refl

-- a coarse session has none
no_integers : integer_count three_arcs COARSE_SIGNALS ≡ 0
no_integers = refl

-- the last arc's integers stand after those of the first, L1 and L2
place_on_l1 : integer_place three_arcs SIGNALS_12 2 0 ≡ Some 2
place_on_l1 = refl

place_on_l2 : integer_place three_arcs SIGNALS_12 2 1 ≡ Some 3
place_on_l2 = refl

-- a datum and a code have none
place_of_datum : integer_place three_arcs SIGNALS_12 1 0 ≡ None
place_of_datum = refl

place_of_code : integer_place three_arcs SIGNALS_12 2 2 ≡ None
place_of_code = refl

-- ---- the sum of squares of two satellites
zeros_in : {n : ℕ} → All (IsWithin n) (pos 0 ∷ pos 0 ∷ pos 0 ∷ [])
zeros_in {n} = All-from_recursion (IsWithin n) (pos 0 ∷ pos 0 ∷ pos 0 ∷ []) (omega arith, (omega arith, (omega arith, tt)))

zero_radius : IsRadius (pos 0)
zero_radius = (omega (arith, lins), omega (arith, lins))

-- a row that is 0 but for its phase on L1
abbrev row : ℕ → (l1 : ℕ) → l1 ≤ 2 ^ 34 → Row
row k l1 h = record {
  arc = k;
  y = pos l1 ∷ pos 0 ∷ pos 0 ∷ pos 0 ∷ pos 0 ∷ pos 0 ∷ [];
  ry = pos 0;
  u = pos 0 ∷ pos 0 ∷ pos 0 ∷ [];
  ru = pos 0 ∷ pos 0 ∷ pos 0 ∷ [];
  y_in = All-from_recursion (IsWithin (2 ^ 34)) (pos l1 ∷ pos 0 ∷ pos 0 ∷ pos 0 ∷ pos 0 ∷ pos 0 ∷ []) (h, (omega arith, (omega arith, (omega arith, (omega arith, (omega arith, tt))))));
  ry_in = zero_radius;
  u_in = zeros_in;
  ru_in = All-from_recursion IsRadius (pos 0 ∷ pos 0 ∷ pos 0 ∷ []) (zero_radius, (zero_radius, (zero_radius, tt)));
}

rows_rise : (r s : Row) → r.arc < s.arc → AllPairs (λ p q. p.arc < q.arc) (r ∷ s ∷ [])
rows_rise r s h = all_pairs_push (λ p q. p.arc < q.arc) (r ∷ []) s (λ i j d a b. let impossible : ⊥ = omega arith in absurd impossible) before
  where
    before : (k : ℕ) (d : Row) → k < length (r ∷ []) → (get_or (r ∷ []) k d).arc < s.arc
    before zero d a = h
    before (suc k) d a = let impossible : ⊥ = omega arith in absurd impossible

-- of the first two of the three arcs
abbrev two_rows : (first second : ℕ) → first ≤ 2 ^ 34 → second ≤ 2 ^ 34 → PairRows
two_rows first second h g = record {
  number = 0;
  tag = record { 0 = 0 };
  group = pos 0;
  rows = row 0 first h ∷ row 1 second g ∷ [];
  number_in = lit< tt;
  tag_in = lit< tt;
  group_in = lit< tt;
  some_rows = lit≤ tt;
  few_rows = lit≤ tt;
  arcs_rise = rows_rise (row 0 first h) (row 1 second g) (lit< tt);
}

abbrev origin : Baseline
origin = record { b1 = of_whole (pos 0); b2 = of_whole (pos 0); b3 = of_whole (pos 0) }

-- phases on L1 that are 262144 units apart: 180180 · 10000 · 2^36
one_apart : sum_of_squares three_arcs SIGNALS_12 (two_rows 262144 0 (lit≤ tt) (lit≤ tt) ∷ []) (pos 0 ∷ pos 0 ∷ pos 0 ∷ pos 0 ∷ []) origin
    (centres (two_rows 262144 0 (lit≤ tt) (lit≤ tt) ∷ [])) ≈ of_whole (pos 123818753182924800000)
one_apart = refl

-- phases that are one wavelength of L1 apart, with the integer 1 for the first arc: 0
one_cycle : sum_of_squares three_arcs SIGNALS_12 (two_rows 11304960 0 (lit≤ tt) (lit≤ tt) ∷ []) (pos 1 ∷ pos 0 ∷ pos 0 ∷ pos 0 ∷ []) origin
    (centres (two_rows 11304960 0 (lit≤ tt) (lit≤ tt) ∷ [])) ≈ of_whole (pos 0)
one_cycle = refl

-- phases don't count in a coarse session
coarse : sum_of_squares three_arcs COARSE_SIGNALS (two_rows 262144 0 (lit≤ tt) (lit≤ tt) ∷ []) [] origin (centres (two_rows 262144 0 (lit≤ tt) (lit≤ tt) ∷ [])) ≈ of_whole (pos 0)
coarse = refl
