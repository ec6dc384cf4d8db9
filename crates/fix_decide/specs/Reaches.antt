-- Where residuals may lie, and how far those of two rows may lie apart.
use Rattle.std.specs.Prelude.{◌^◌, List, [], ◌∷◌, ℤ, pos, ◌+ℤ◌, ◌-ℤ◌, ◌*ℤ◌, ◌≤ℤ◌, ◌<ℤ◌}
use Rattle.quadratic_form.specs.UpperSum.{size}
use Rattle.fix_decide.specs.declared.reaches.ResidualBox.{ResidualBox}

-- how far from 0 the residual may lie
abbrev pub extent : ResidualBox → ℤ
extent p = size p.centre +ℤ p.rad

-- below 2^33
pub record IsNarrow (p : ResidualBox) : Type 0 where
  pub rad_from : pos 0 ≤ℤ p.rad
  pub below : extent p <ℤ pos (2 ^ 33)

-- how far two may lie apart
abbrev pub gap : ResidualBox → ResidualBox → ℤ
gap p q = size (p.centre -ℤ q.centre) +ℤ (p.rad +ℤ q.rad)

abbrev pub gaps_from : ResidualBox → List ResidualBox → ℤ
gaps_from p [] = pos 0
gaps_from p (q ∷ qs) = (gap p q *ℤ gap p q) +ℤ gaps_from p qs

-- the sum of the squares of the gaps of each two
abbrev pub gaps : List ResidualBox → ℤ
gaps [] = pos 0
gaps (p ∷ ps) = gaps_from p ps +ℤ gaps ps
