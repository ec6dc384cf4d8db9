-- Baselines, and sums over lists of rationals.
use Rattle.std.specs.Prelude.{List, [], ◌∷◌, pos}
use Rattle.whole_math.specs.Vectors.{len}
use Rattle.whole_math.specs.Rational.{Rational, of_whole, ◌+ʳ◌, ◌-ʳ◌, ◌*ʳ◌}

-- a vector of three rationals
pub record Baseline : Type 0 where
  pub b1 : Rational
  pub b2 : Rational
  pub b3 : Rational

-- Σ x
abbrev pub sum_of_rationals : List Rational → Rational
sum_of_rationals [] = of_whole (pos 0)
sum_of_rationals (x ∷ s) = x +ʳ sum_of_rationals s

-- Σ x²
abbrev pub squared_norm_of_rationals : List Rational → Rational
squared_norm_of_rationals [] = of_whole (pos 0)
squared_norm_of_rationals (x ∷ s) = x *ʳ x +ʳ squared_norm_of_rationals s

-- n Σ x² - (Σ x)², of n rationals
abbrev pub spread_of_rationals : List Rational → Rational
spread_of_rationals s = of_whole (len s) *ʳ squared_norm_of_rationals s -ʳ sum_of_rationals s *ʳ sum_of_rationals s
