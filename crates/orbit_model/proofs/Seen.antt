-- What holds of every seen place.
use Rattle.std.proofs.Common.{pos, refl, lit≤}
use Rattle.whole_math.specs.Rational.{Rational, ◌≈◌, ◌≤ʳ◌, of_whole, ◌+ʳ◌, ◌-ʳ◌, ◌*ʳ◌, neg_r}
use Rattle.whole_math.proofs.RationalLaws.{≈_sym, ≈_trans, ≤ʳ_trans, ≤ʳ_along, add_r-same, add_r-comm, mul_r-same, mul_r-comm, sub_r-is}
use Rattle.orbit_model.proofs.Orders.{root_r}
use Rattle.orbit_model.specs.SeenPlaces.{Position, difference, square, turned_back, AreSamePlace, IsSeenPlace, over_light_speed_squared, range_of}
use Rattle.orbit_model.specs.Places.{IsSentPlace, IsReceiverPlace, HasLengthBetween}
use Rattle.orbit_model.proofs.Apart.{IsBetween, turned_square, loosely, vector_square, whole_le}
use Rattle.orbit_model.proofs.NearRoots.{range_root, near_high, root_nn}
use Rattle.orbit_model.proofs.DistanceCertificates.{time_square}

-- ---- equal places have equal lengths
add_both : (p q r s : Rational) → p ≈ q → r ≈ s → p +ʳ r ≈ q +ʳ s
add_both p q r s e f = ≈_trans (p +ʳ r) (q +ʳ r) (q +ʳ s) (add_r-same p q r e)
    (≈_trans (q +ʳ r) (r +ʳ q) (q +ʳ s) (add_r-comm q r) (≈_trans (r +ʳ q) (s +ʳ q) (q +ʳ s) (add_r-same r s q f) (add_r-comm s q)))

mul_both : (p q r s : Rational) → p ≈ q → r ≈ s → p *ʳ r ≈ q *ʳ s
mul_both p q r s e f = ≈_trans (p *ʳ r) (q *ʳ r) (q *ʳ s) (mul_r-same p q r e)
    (≈_trans (q *ʳ r) (r *ʳ q) (q *ʳ s) (mul_r-comm q r) (≈_trans (r *ʳ q) (s *ʳ q) (q *ʳ s) (mul_r-same r s q f) (mul_r-comm s q)))

less_same : (p q r : Rational) → p ≈ q → p -ʳ r ≈ q -ʳ r
less_same p q r e = ≈_trans (p -ʳ r) (p +ʳ neg_r r) (q -ʳ r) (sub_r-is p r)
    (≈_trans (p +ʳ neg_r r) (q +ʳ neg_r r) (q -ʳ r) (add_r-same p q (neg_r r) e) (≈_sym (q -ʳ r) (q +ʳ neg_r r) (sub_r-is q r)))

pub square_same : (p q : Position) → AreSamePlace p q → square p ≈ square q
square_same p q e = add_both (p.x *ʳ p.x +ʳ p.y *ʳ p.y) (q.x *ʳ q.x +ʳ q.y *ʳ q.y) (p.z *ʳ p.z) (q.z *ʳ q.z)
    (add_both (p.x *ʳ p.x) (q.x *ʳ q.x) (p.y *ʳ p.y) (q.y *ʳ q.y) (mul_both p.x q.x p.x q.x e.0 e.0) (mul_both p.y q.y p.y q.y e.1 e.1)) (mul_both p.z q.z p.z q.z e.2 e.2)

pub difference_same : (p q r : Position) → AreSamePlace p q → AreSamePlace (difference p r) (difference q r)
difference_same p q r e = (less_same p.x q.x r.x e.0, less_same p.y q.y r.y e.1, less_same p.z q.z r.z e.2)

-- ---- distances
pub seen_vector : (sent point seen : Position) (t : Rational) → IsSentPlace sent → IsReceiverPlace point → IsSeenPlace sent point t seen → HasLengthBetween 11800000 45200000 (difference seen point)
seen_vector sent point seen t s r h =
    let turned : Position = turned_back h.turn sent in
    let square_between = vector_square turned point (loosely (square turned) (turned_square sent _ h.turn s h.turn_is)) r in
    let same_square = ≈_sym (square (difference seen point)) (square (difference turned point)) (square_same (difference seen point) (difference turned point) (difference_same seen turned point h.seen_is)) in
    along (square (difference turned point)) (square (difference seen point)) same_square square_between
  where
    along : (p q : Rational) → p ≈ q → IsBetween 141000000000000 2040000000000000 p → (of_whole (pos 139240000000000) ≤ʳ q) × (q ≤ʳ of_whole (pos 2043040000000000))
    along p q e b = (
      ≤ʳ_along (of_whole (pos 139240000000000)) (of_whole (pos 139240000000000)) p q refl e
          (≤ʳ_trans (of_whole (pos 139240000000000)) (of_whole (pos 141000000000000)) p (whole_le 139240000000000 141000000000000 (lit≤ tt)) b.low),
      ≤ʳ_along p q (of_whole (pos 2043040000000000)) (of_whole (pos 2043040000000000)) e refl
          (≤ʳ_trans p (of_whole (pos 2040000000000000)) (of_whole (pos 2043040000000000)) b.high (whole_le 2040000000000000 2043040000000000 (lit≤ tt))),
    )

pub seen_distance : (sent point seen : Position) (t : Rational) → IsSentPlace sent → IsSeenPlace sent point t seen → HasLengthBetween 18900000 38100000 seen
seen_distance sent point seen t s h =
    let turned : Position = turned_back h.turn sent in
    let square_between = loosely (square turned) (turned_square sent _ h.turn s h.turn_is) in
    let same_square = ≈_sym (square seen) (square turned) (square_same seen turned h.seen_is) in (
      ≤ʳ_along (of_whole (pos 357210000000000)) (of_whole (pos 357210000000000)) (square turned) (square seen) refl same_square square_between.low,
      ≤ʳ_along (square turned) (square seen) (of_whole (pos 1451610000000000)) (of_whole (pos 1451610000000000)) same_square refl square_between.high,
    )

-- ---- the travel time
pub travel_nn : (sent point seen : Position) (t : Rational) → IsSeenPlace sent point t seen → of_whole (pos 0) ≤ʳ t
travel_nn sent point seen t h = root_nn t (over_light_speed_squared (square (difference seen point))) h.travel_is

pub travel_most : (sent point seen : Position) (t : Rational) → IsSentPlace sent → IsReceiverPlace point → IsSeenPlace sent point t seen → of_whole (pos 6) *ʳ t ≤ʳ of_whole (pos 1)
travel_most sent point seen t s r h =
    let squared : Rational = square (difference seen point) in
    let length_between = seen_vector sent point seen t s r h in
    root_r (of_whole (pos 6) *ʳ t) (of_whole (pos 1)) (whole_le 0 1 (lit≤ tt)) (time_square t squared (near_high (range_of t) squared (range_root t squared h.travel_is)) length_between.1)
