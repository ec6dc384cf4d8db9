-- How far the range changes over a displacement.
use Rattle.std.proofs.Common.{pos}
use Rattle.whole_math.specs.Rational.{Rational, ◌≤ʳ◌, of_whole, ◌+ʳ◌, ◌-ʳ◌, ◌*ʳ◌, neg_r, IsNearRoot}
use Rattle.orbit_model.proofs.Orders.{root_r}
use Rattle.orbit_model.specs.SeenPlaces.{Position, difference, dot, square, IsDisplacement}
use Rattle.orbit_model.proofs.NearRoots.{root_nn, near_high, near_low}
use Rattle.orbit_model.proofs.ChangeCertificates.{product_square, range_square, after_square, before_square, times_nn, twice_nn, sum_nn, neg_square}

-- over a displacement the range changes by at most 33/2 m
pub range_change : (d move : Position) (u v : Rational) → of_whole (pos 100000000000000) ≤ʳ square d → square d ≤ʳ of_whole (pos 2251799813685248) → IsDisplacement move →
    IsNearRoot u (square d) → IsNearRoot v (square (difference d move)) →
    (of_whole (pos 2) *ʳ v ≤ʳ of_whole (pos 2) *ʳ u +ʳ of_whole (pos 33)) × (of_whole (pos 2) *ʳ u -ʳ of_whole (pos 33) ≤ʳ of_whole (pos 2) *ʳ v)
range_change d move u v far near m hu hv =
    let left_high = near_high u (square d) hu in
    let left_low = near_low u (square d) hu in
    let right_high = near_high v (square (difference d move)) hv in
    let right_low = near_low v (square (difference d move)) hv in
    let left_not_negative = root_nn u (square d) hu in
    let right_not_negative = root_nn v (square (difference d move)) hv in
    let p : Rational = of_whole (pos 1000) *ʳ dot d move in
    let bound : Rational = of_whole (pos 16001) *ʳ u in
    let bound_not_negative = times_nn u left_not_negative in
    let square_at_most = product_square d.x d.y d.z move.x move.y move.z u m left_low in
    let product_at_most = root_r p bound bound_not_negative square_at_most in
    let down = root_r (neg_r p) bound bound_not_negative (neg_square p bound square_at_most) in
    let least = root_r (of_whole (pos 1000000)) u left_not_negative (range_square d.x d.y d.z u far left_low) in (
      root_r (of_whole (pos 2) *ʳ v) (of_whole (pos 2) *ʳ u +ʳ of_whole (pos 33)) (sum_nn u left_not_negative) (after_square d.x d.y d.z move.x move.y move.z u v near m left_high left_low right_high right_low product_at_most down least),
      root_r (of_whole (pos 2) *ʳ u -ʳ of_whole (pos 33)) (of_whole (pos 2) *ʳ v) (twice_nn v right_not_negative)
          (before_square d.x d.y d.z move.x move.y move.z u v near m left_high left_low right_high right_low product_at_most down least),
    )
