-- The normal matrix as a form, and what its value is to the sum of squares.
use Rattle.std.specs.Prelude.{◌≡◌, ℕ, ◌*◌, ◌<◌, List, length, ℤ, pos, slice_index_or}
use Rattle.std.proofs.Common.{mul-pos}
use Rattle.whole_math.specs.Rational.{Rational, ◌≈◌, ◌≤ʳ◌, of_whole, ◌*ʳ◌}
use Rattle.quadratic_form.specs.Forms.{Column, quad}
use Rattle.quadratic_form.specs.Rows.{Radii, WholeBaseline, bounding_form, columns_at}
use Rattle.whole_math.specs.Spread.{Baseline}
use Rattle.quadratic_form.specs.Places.{form_from}
use Rattle.obs_rows.specs.declared.arcs.Arc.{Arc}
use Rattle.obs_rows.specs.declared.pair_rows.PairRows.{PairRows}
use Rattle.quadratic_form.specs.Tables.{entry}
use Rattle.obs_rows.specs.Integers.{integer_count}
use Rattle.obs_rows.specs.Data.{Observed, AreData}
use Rattle.obs_rows.specs.Centres.{centres}
use Rattle.obs_rows.specs.SumOfSquares.{sum_of_squares}
use Rattle.normal_sum.specs.declared.normal.Normal.{Normal}

-- C, of its columns
abbrev pub form_of : Normal → List Column
form_of n = form_from (entry n.c) 0 n.columns

abbrev pub radii_from : List ℤ → Radii
radii_from r = record { r1 = slice_index_or r 0 (pos 0); r2 = slice_index_or r 1 (pos 0); r3 = slice_index_or r 2 (pos 0); ry = slice_index_or r 3 (pos 0) }

-- B: 63 times C, with 16128 times r taken from the own entries of the baseline's columns and of the constant
abbrev pub bounding_of : Normal → ℕ → List Column
bounding_of n integers = bounding_form integers (form_of n) (radii_from n.r)

-- c / e
abbrev pub baseline_over : (e : ℕ) → 0 < e → WholeBaseline → Baseline
baseline_over e h c = record { b1 = record { num = c.b1; den = e; positive = h }; b2 = record { num = c.b2; den = e; positive = h }; b3 = record { num = c.b3; den = e; positive = h } }

-- the value of a form at (c / e, z, 1), where columns_at is e times that
abbrev pub value_over : (e : ℕ) → 0 < e → List Column → List ℤ → WholeBaseline → Rational
value_over e h a z c = record { num = quad a (columns_at (pos e) z c); den = e * e; positive = mul-pos h h }

-- for every integer vector and every rational baseline c / e, C's value is the sum of squares at the centres of the boxes
pub record IsSumAtCentres (arcs : List Arc) (ss : List ℕ) (pairs : List PairRows) (n : Normal) : Type 0 where
  pub value : (z : List ℤ) → length z ≡ integer_count arcs ss → (e : ℕ) (h : 0 < e) (c : WholeBaseline) →
      value_over e h (form_of n) z c ≈ sum_of_squares arcs ss pairs z (baseline_over e h c) (centres pairs)

-- for all data in the boxes, every integer vector and every rational baseline c / e, B's value is at most 64 times the sum of squares
pub record StaysBelow (arcs : List Arc) (ss : List ℕ) (pairs : List PairRows) (n : Normal) : Type 0 where
  pub below : (observed : List (List Observed)) → AreData ss pairs observed → (z : List ℤ) → length z ≡ integer_count arcs ss → (e : ℕ) (h : 0 < e) (c : WholeBaseline) →
      value_over e h (bounding_of n (length z)) z c ≤ʳ of_whole (pos 64) *ʳ sum_of_squares arcs ss pairs z (baseline_over e h c) observed
