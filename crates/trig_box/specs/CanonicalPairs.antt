-- The angle pair that begins with the first Taylor sums.
use Rattle.std.specs.Prelude.{ℕ}
use Rattle.whole_math.specs.Rational.{Rational, ◌≈◌}
use Rattle.trig_box.specs.AnglePairs.{cosine_sum, sine_sum, Pair, doubled, InRange, part}

-- the Taylor sums of v through the degrees 18 and 19
abbrev pub taylor_pair : Rational → Pair
taylor_pair v = record { cos = cosine_sum 9 v; sin = sine_sum 9 v }

-- the k-pair of x that begins with those at x / 2^k
pub record IsCanonicalPair (k : ℕ) (x c s : Rational) : Type 0 where
  pub in_range : InRange k x
  pub cos_is : c ≈ (doubled k (taylor_pair (part k x))).cos
  pub sin_is : s ≈ (doubled k (taylor_pair (part k x))).sin
