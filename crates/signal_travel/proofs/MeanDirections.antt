-- The sum of two ranges, a move less twice a vector, and their quotient, in whole numbers; and the vector to a seen place.
use Rattle.std.proofs.Common.{◌≡◌, ℕ, ◌<◌, ◌^◌, [], ◌∷◌, ℤ, pos, ◌+ℤ◌, ◌*ℤ◌, neg_ℤ, ◌≤ℤ◌, ◌<ℤ◌, unsigned_abs, arith, lit≤, ap, refl}
use Rattle.std.proofs.lemmas.Int.{ints}
use Rattle.whole_math.specs.Rounding.{floor_div, ceil_div}
use Rattle.whole_math.proofs.Ring.{◌⊗◌, ng}
use Rattle.whole_math.proofs.Order.{lins, mul_le_left}
use Rattle.whole_math.proofs.Inequalities.{pos_nn, same_by}
use Rattle.whole_math.proofs.Rounding.{floor_greatest, ceil_least}
use Rattle.whole_math.proofs.Extremes.{min_case, max_case}
use Rattle.whole_math.specs.Rational.{Rational, ◌≤ʳ◌, of_whole, ◌+ʳ◌, ◌*ʳ◌, IsAtMostInSize}
use Rattle.whole_math.proofs.RationalLaws.{≤ʳ_trans}
use Rattle.iv_core.specs.Boxes.{least_ratio, most_ratio}
use Rattle.iv_core.proofs.QuotientLaws.{positive_is}
use Rattle.orbit_model.specs.Places.{IsBetweenDistances}
use Rattle.orbit_model.specs.SeenPlaces.{Position, difference, square, point_of, IsDisplacement}
use Rattle.orbit_model.proofs.Apart.{IsBetween, vector_square, whole_le}
use Rattle.orbit_model.proofs.Exists.{coordinates, turned_round, turned_about}
use Rattle.signal_travel.specs.declared.places.VectorBox.{VectorBox}
use Rattle.signal_travel.specs.declared.sent.Point.{Point}
use Rattle.signal_travel.specs.VectorBoxes.{HoldsVector, HasVectorBetween}
use Rattle.signal_travel.proofs.Sights.{lowest, lowest_held, point_place}

-- ---- quotients of a to b, times p, that are at most t times the least divisor in size
pub ratio_size : (a b c d : ℤ) (p t : ℕ) → pos 0 <ℤ c → c ≤ℤ d → neg_ℤ (pos t *ℤ c) ≤ℤ (a *ℤ pos p) → (b *ℤ pos p) ≤ℤ (pos t *ℤ c) →
    (neg_ℤ (pos t) ≤ℤ least_ratio a b c d p) × (most_ratio a b c d p ≤ℤ pos t)
ratio_size a b c d p t c0 cd l u =
    rw (positive_is c c0) (
      min_case (λ z. neg_ℤ (pos t) ≤ℤ z) (floor_div (a *ℤ pos p) (unsigned_abs c)) (floor_div (a *ℤ pos p) (unsigned_abs d)) (low c c0 cc) (low d d0 cd),
      max_case (λ z. z ≤ℤ pos t) (ceil_div (b *ℤ pos p) (unsigned_abs c)) (ceil_div (b *ℤ pos p) (unsigned_abs d)) (high c c0 cc) (high d d0 cd),
    )
  where
    cc : c ≤ℤ c
    cc = omega (arith, lins)

    d0 : pos 0 <ℤ d
    d0 = omega (arith, lins)

    plain : (y : ℤ) → pos 0 <ℤ y → (0 < unsigned_abs y) × (pos (unsigned_abs y) ≡ y)
    plain y h = (omega (arith, ints), omega (arith, ints))

    low : (y : ℤ) → pos 0 <ℤ y → c ≤ℤ y → neg_ℤ (pos t) ≤ℤ floor_div (a *ℤ pos p) (unsigned_abs y)
    low y h k =
        let size_is_plain = plain y h in
        let negative_product_is : neg_ℤ (pos t) *ℤ pos (unsigned_abs y) ≡ neg_ℤ (pos t *ℤ pos (unsigned_abs y)) = same_by (pos t ∷ pos (unsigned_abs y) ∷ []) (λ t y. (ng t ⊗ y, ng (t ⊗ y))) refl in
        let same_product : pos t *ℤ pos (unsigned_abs y) ≡ pos t *ℤ y = ap (λ z. pos t *ℤ z) size_is_plain.1 in
        let product_at_most : (pos t *ℤ c) ≤ℤ (pos t *ℤ y) = mul_le_left (pos t) c y (pos_nn t) k in
        floor_greatest (a *ℤ pos p) (neg_ℤ (pos t)) (unsigned_abs y) size_is_plain.0 (omega (arith, lins, negative_product_is, same_product, product_at_most, l))

    high : (y : ℤ) → pos 0 <ℤ y → c ≤ℤ y → ceil_div (b *ℤ pos p) (unsigned_abs y) ≤ℤ pos t
    high y h k =
        let size_is_plain = plain y h in
        let same_product : pos t *ℤ pos (unsigned_abs y) ≡ pos t *ℤ y = ap (λ z. pos t *ℤ z) size_is_plain.1 in
        let product_at_most : (pos t *ℤ c) ≤ℤ (pos t *ℤ y) = mul_le_left (pos t) c y (pos_nn t) k in
        ceil_least (b *ℤ pos p) (pos t) (unsigned_abs y) size_is_plain.0 (omega (arith, lins, same_product, product_at_most, u))

-- ---- the vectors from the point to the places of a box
pub seen_square : (b : VectorBox) (p : Point) (q : Position) → IsBetweenDistances 18900000 38100000 b.x b.y b.z → HoldsVector b q
    → IsBetween 141000000000000 2040000000000000 (square (difference q (point_of p.x p.y p.z)))
seen_square b p q away h =
    let is_away = away q.x q.y q.z h.0 h.1 h.2 in
    vector_square q (point_of p.x p.y p.z) (record { low = is_away.0; high = is_away.1 }) (point_place p)

pub seen_between : (b v : VectorBox) (p : Point) → IsBetweenDistances 18900000 38100000 b.x b.y b.z
    → ((q : Position) → HoldsVector b q → HoldsVector v (difference q (point_of p.x p.y p.z))) → HasVectorBetween 141000000000000 2040000000000000 v
seen_between b v p away holds =
    let square_between = seen_square b p (lowest b) away (lowest_held b) in
    record { vector = difference (lowest b) (point_of p.x p.y p.z); held = holds (lowest b) (lowest_held b); far = square_between.low; near = square_between.high }

-- within the limits of the law on the change of the range
pub far_enough : (q : Rational) → IsBetween 141000000000000 2040000000000000 q → of_whole (pos 100000000000000) ≤ʳ q
far_enough q h = ≤ʳ_trans (of_whole (pos 100000000000000)) (of_whole (pos 141000000000000)) q (whole_le 100000000000000 141000000000000 (lit≤ tt)) h.low

pub near_enough : (q : Rational) → IsBetween 141000000000000 2040000000000000 q → q ≤ʳ of_whole (pos 2251799813685248)
near_enough q h = ≤ʳ_trans q (of_whole (pos 2040000000000000)) (of_whole (pos 2251799813685248)) h.high (whole_le 2040000000000000 2251799813685248 (lit≤ tt))

-- the coordinates of a displacement
pub move_x : (m : Position) → IsDisplacement m → IsAtMostInSize (of_whole (pos 16)) m.x
move_x m h = coordinates m.x m.y m.z 16 h

pub move_y : (m : Position) → IsDisplacement m → IsAtMostInSize (of_whole (pos 16)) m.y
move_y m h = coordinates m.y m.x m.z 16 (≤ʳ_trans (m.y *ʳ m.y +ʳ m.x *ʳ m.x +ʳ m.z *ʳ m.z) (square m) (of_whole (pos 256)) (turned_round m.x m.y m.z) h)

pub move_z : (m : Position) → IsDisplacement m → IsAtMostInSize (of_whole (pos 16)) m.z
move_z m h = coordinates m.z m.y m.x 16 (≤ʳ_trans (m.z *ʳ m.z +ʳ m.y *ʳ m.y +ʳ m.x *ʳ m.x) (square m) (of_whole (pos 256)) (turned_about m.x m.y m.z) h)

-- what an end of a coordinate is at most, in plain powers
pub wider : (l x : ℤ) → neg_ℤ ((l +ℤ pos 80) +ℤ pos 524289) ≤ℤ x → neg_ℤ (l +ℤ pos (2 ^ 20)) ≤ℤ x
wider l x h = omega (arith, ints)
