-- The centres of the boxes, which are data.
use Rattle.std.specs.Prelude.{List, map}
use Rattle.whole_math.specs.Rational.{of_whole}
use Rattle.obs_rows.specs.declared.rows.Row.{Row}
use Rattle.obs_rows.specs.declared.pair_rows.PairRows.{PairRows}
use Rattle.obs_rows.specs.Data.{Observed, number_at}

-- the centres of the boxes of a row, and of all rows
abbrev pub centre_of : Row → Observed
centre_of r = record {
  y = λ s. of_whole (number_at r.y s);
  u1 = of_whole (number_at r.u 0);
  u2 = of_whole (number_at r.u 1);
  u3 = of_whole (number_at r.u 2);
}

abbrev pub centres : List PairRows → List (List Observed)
centres pairs = map (λ p. map centre_of p.rows) pairs
