-- The bound of one pair of a track.
use Rattle.std.proofs.Common.{◌≡◌, ℕ, ◌^◌, List, [], ◌∷◌, length, ℤ, pos, ◌+ℤ◌, arith, ap, ◌∙◌}
use Rattle.whole_math.specs.Rounding.{ceil_div}
use Rattle.whole_math.proofs.Order.{lins}
use Rattle.obs_rows.specs.declared.arcs.Arc.{Arc}
use Rattle.obs_rows.specs.declared.pair_rows.PairRows.{PairRows}
use Rattle.obs_rows.specs.Integers.{integer_count}
use Rattle.fix_decide.specs.UpperSums.{pair_upper, top}
use Rattle.fix_decide.proofs.UpperLaws.{top_stays_at_most}
use Rattle.vector_bound.specs.VectorBounds.{move_units, hundredths_of_mm}
use Rattle.vector_bound.specs.PairBounds.{KeepsPairNear, IsPairBound, IsRoundedPairBound}
use Rattle.vector_bound.proofs.Sessions.{near_for_rows, wider_distance, rounded_hundredths}

-- the upper sum of a list of one
and_none : (x : ℤ) → x ≡ x +ℤ pos 0
and_none x = omega (arith, lins)

pub pair_top : (h : ℕ) (arcs : List Arc) (ss : List ℕ) (p : PairRows) (z m : List ℤ) (u t : ℤ) → u ≡ pair_upper arcs ss z m p → t ≡ ceil_div u (2 ^ h) → t ≡ top h arcs ss (p ∷ []) z m
pair_top h arcs ss p z m u t u_is t_is = t_is ∙ ap (λ (x : ℤ). ceil_div x (2 ^ h)) (u_is ∙ and_none (pair_upper arcs ss z m p))

-- it is one, since the upper sum bounds the sum of squares
pub pair_near : (arcs : List Arc) (ss : List ℕ) (p : PairRows) (z m : List ℤ) (x : ℤ) → length z ≡ integer_count arcs ss → IsPairBound arcs ss p z m x → KeepsPairNear arcs ss p z m (move_units x)
pair_near arcs ss p z m x entries is =
    near_for_rows arcs ss (p ∷ []) is.bound.normal is.h z m (top is.h arcs ss (p ∷ []) z m) x entries is.bound.of_rows (top_stays_at_most is.h arcs ss (p ∷ []) z m entries) is.bound.bound

pub rounded_near : (arcs : List Arc) (ss : List ℕ) (p : PairRows) (z m : List ℤ) (y : ℤ) → length z ≡ integer_count arcs ss → IsRoundedPairBound arcs ss p z m y →
    KeepsPairNear arcs ss p z m (hundredths_of_mm y)
rounded_near arcs ss p z m y entries is = wider_distance arcs ss (p ∷ []) z m (move_units is.units) (hundredths_of_mm y) (rounded_hundredths is.units y is.rounded.0)
    (pair_near arcs ss p z m is.units entries is.bound)
