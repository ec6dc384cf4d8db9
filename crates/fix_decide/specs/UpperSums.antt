-- The upper sum: what the weighted sum of squares is at most, at given integers and a given move, whatever the data in
-- the boxes are. A direction in 2^-24 times a move in 2^-5 ι is in 2^-16 of the unit of a row, 2^-13 ι.
use Rattle.std.specs.Prelude.{ℕ, ◌^◌, List, length, map, ℤ, pos, ◌+ℤ◌, ◌-ℤ◌, ◌*ℤ◌}
use Rattle.whole_math.specs.Rounding.{floor_div, ceil_div}
use Rattle.whole_math.specs.Vectors.{sum}
use Rattle.quadratic_form.specs.UpperSum.{size}
use Rattle.obs_rows.specs.declared.arcs.Arc.{Arc}
use Rattle.obs_rows.specs.declared.rows.Row.{Row}
use Rattle.obs_rows.specs.declared.pair_rows.PairRows.{PairRows}
use Rattle.obs_rows.specs.Signals.{cycle}
use Rattle.obs_rows.specs.Integers.{integer}
use Rattle.obs_rows.specs.Data.{number_at}
use Rattle.obs_rows.specs.SumOfSquares.{share}
use Rattle.obs_rows.specs.Best.{move_exponent}
use Rattle.fix_decide.specs.declared.reaches.ResidualBox.{ResidualBox}
use Rattle.fix_decide.specs.Reaches.{gaps}

-- of two lists of three numbers
abbrev pub scalar_product : List ℤ → List ℤ → ℤ
scalar_product u m = (number_at u 0 *ℤ number_at m 0) +ℤ ((number_at u 1 *ℤ number_at m 1) +ℤ (number_at u 2 *ℤ number_at m 2))

-- S: the residual of the centres of the boxes, rounded down
abbrev pub centre : List Arc → List ℕ → List ℤ → List ℤ → ℕ → Row → ℤ
centre arcs ss z m s r = floor_div ((number_at r.y s *ℤ pos (2 ^ move_exponent)) -ℤ scalar_product r.u m) (2 ^ move_exponent) -ℤ (cycle s *ℤ integer arcs ss z r.arc s)

-- rad: how far from there the residual may lie
abbrev pub rad : List ℤ → Row → ℤ
rad m r = (r.ry +ℤ ceil_div (scalar_product r.ru (map size m)) (2 ^ move_exponent)) +ℤ pos 1

abbrev pub reach_of : List Arc → List ℕ → List ℤ → List ℤ → ℕ → Row → ResidualBox
reach_of arcs ss z m s r = record { centre = centre arcs ss z m s r; rad = rad m r }

-- (360360 / n) · w times the squares of the gaps of each two of the n rows of a pair
abbrev pub signal_upper : List Arc → List ℕ → List ℤ → List ℤ → PairRows → ℕ → ℤ
signal_upper arcs ss z m p s = share (length p.rows) s *ℤ gaps (map (reach_of arcs ss z m s) p.rows)

-- U of a pair: over the signals that count
abbrev pub pair_upper : List Arc → List ℕ → List ℤ → List ℤ → PairRows → ℤ
pair_upper arcs ss z m p = sum (map (signal_upper arcs ss z m p) ss)

-- U: over the pairs
abbrev pub upper_sum : List Arc → List ℕ → List PairRows → List ℤ → List ℤ → ℤ
upper_sum arcs ss pairs z m = sum (map (pair_upper arcs ss z m) pairs)

-- T: the same in units of 2^h, rounded up
abbrev pub top : ℕ → List Arc → List ℕ → List PairRows → List ℤ → List ℤ → ℤ
top h arcs ss pairs z m = ceil_div (upper_sum arcs ss pairs z m) (2 ^ h)
