-- The front of the elimination of a normal matrix, and the bound that its form gives over all data.
use Rattle.std.specs.Prelude.{◌≡◌, ℕ, ◌^◌, true, false, List, length, ℤ, pos, ◌*ℤ◌, Result, Err}
use Rattle.whole_math.specs.Rational.{of_whole, ◌*ʳ◌, ◌≤ʳ◌}
use Rattle.quadratic_form.specs.Forms.{Column}
use Rattle.quadratic_form.specs.Elimination.{Factor, Refusal, wide_entry, form_small, steps}
use Rattle.quadratic_form.specs.Rows.{value}
use Rattle.whole_math.specs.Spread.{Baseline}
use Rattle.obs_rows.specs.declared.arcs.Arc.{Arc}
use Rattle.obs_rows.specs.declared.pair_rows.PairRows.{PairRows}
use Rattle.obs_rows.specs.Integers.{integer_count}
use Rattle.obs_rows.specs.Data.{Observed, AreData}
use Rattle.obs_rows.specs.SumOfSquares.{sum_of_squares}
use Rattle.normal_sum.specs.declared.normal.Normal.{Normal}
use Rattle.lower_form.specs.FirstRounding.{first_form}

-- the first rounding over 2^h, refused where an entry is too large, and the steps of the baseline's three columns
abbrev pub front_of : ℕ → Normal → Result (List Factor × List Column) Refusal
front_of h n = elim (form_small (first_form h n)) [ true ↦ steps 0 3 (first_form h n) | false ↦ Err wide_entry ]

-- for all data in the boxes, all integer vectors and all rational baselines: 64 times the sum of squares is at least 2^h times the form's value
pub record BoundsAllData (arcs : List Arc) (ss : List ℕ) (pairs : List PairRows) (h : ℕ) (p : List Column) : Type 0 where
  pub below : (z : List ℤ) (b : Baseline) (observed : List (List Observed)) → length z ≡ integer_count arcs ss → AreData ss pairs observed →
      of_whole (pos (2 ^ h) *ℤ value p z) ≤ʳ of_whole (pos 64) *ʳ sum_of_squares arcs ss pairs z b observed
