-- Rationals as whole numbers over one denominator.
use Rattle.std.specs.Prelude.{◌≡◌, ℕ, ◌<◌, List, [], ◌∷◌, ℤ, pos, ◌*ℤ◌}
use Rattle.whole_math.specs.Rational.{Rational}

-- q is n / k
abbrev pub Over : ℤ → ℤ → Rational → Type 0
Over k n q = q.num *ℤ k ≡ n *ℤ pos q.den

-- each q is the n / k in its place, and the lists are equally long
abbrev pub AreOver : ℤ → List ℤ → List Rational → Type 0
AreOver k [] [] = Unit {0}
AreOver k [] (q ∷ qs) = ⊥
AreOver k (n ∷ ns) [] = ⊥
AreOver k (n ∷ ns) (q ∷ qs) = Over k n q × AreOver k ns qs

-- one denominator for all of a list
pub record HasCommonDenominator (qs : List Rational) : Type 0 where
  pub denominator : ℕ
  pub positive : 0 < denominator
  pub numerators : List ℤ
  pub are : AreOver (pos denominator) numerators qs
