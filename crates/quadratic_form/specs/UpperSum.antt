-- An upper bound of the sum of squares at given integers and a given baseline, in units of 2^-16.
use Rattle.std.specs.Prelude.{ℕ, ◌^◌, List, [], ◌∷◌, ℤ, pos, ◌+ℤ◌, ◌-ℤ◌, ◌*ℤ◌, unsigned_abs}
use Rattle.whole_math.specs.Rounding.{floor_div, ceil_div}
use Rattle.quadratic_form.specs.Rows.{SignalRow, WholeBaseline, SignalGroup, share}
use Rattle.whole_math.specs.Vectors.{dot}

abbrev pub size : ℤ → ℤ
size x = pos (unsigned_abs x)

-- the residual of the centres, rounded down
abbrev pub centre : List ℤ → WholeBaseline → SignalRow → ℤ
centre z m r = floor_div (r.y *ℤ pos (2 ^ 16) -ℤ (r.u1 *ℤ m.b1 +ℤ (r.u2 *ℤ m.b2 +ℤ r.u3 *ℤ m.b3))) (2 ^ 16) +ℤ dot r.cycles z

-- how far from there the residual may lie
abbrev pub rad : WholeBaseline → SignalRow → ℤ
rad m r = r.ry +ℤ ceil_div ((r.ru1 *ℤ size m.b1) +ℤ ((r.ru2 *ℤ size m.b2) +ℤ (r.ru3 *ℤ size m.b3))) (2 ^ 16) +ℤ pos 1

abbrev pub gap : List ℤ → WholeBaseline → SignalRow → SignalRow → ℤ
gap z m r s = size (centre z m r -ℤ centre z m s) +ℤ (rad m r +ℤ rad m s)

abbrev pub gaps_from : List ℤ → WholeBaseline → SignalRow → List SignalRow → ℤ
gaps_from z m r [] = pos 0
gaps_from z m r (s ∷ rs) = gap z m r s *ℤ gap z m r s +ℤ gaps_from z m r rs

-- the sum of the squares of the greatest distances, of each two rows
abbrev pub gaps : List ℤ → WholeBaseline → List SignalRow → ℤ
gaps z m [] = pos 0
gaps z m (r ∷ rs) = gaps_from z m r rs +ℤ gaps z m rs

abbrev pub upper_sum : List ℤ → WholeBaseline → List SignalGroup → ℤ
upper_sum z m [] = pos 0
upper_sum z m (g ∷ gs) = (share g *ℤ gaps z m g.rows) +ℤ upper_sum z m gs

-- the same in units of 2^h
abbrev pub top : ℕ → List ℤ → WholeBaseline → List SignalGroup → ℤ
top h z m gs = ceil_div (upper_sum z m gs) (2 ^ h)
