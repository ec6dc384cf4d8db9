-- What a receiver sees after a travel time of a box, and the place in the boxes from which their sizes follow.
use Rattle.std.proofs.Common.{◌*◌, ◌^◌, ◌≤◌, [], ◌∷◌, ℤ, pos, ◌+ℤ◌, ◌-ℤ◌, ◌*ℤ◌, ◌≤ℤ◌, unsigned_abs, arith, refl}
use Rattle.std.proofs.lemmas.Int.{ints}
use Rattle.whole_math.proofs.Ring.{va, ko, ◌⊖◌}
use Rattle.whole_math.proofs.Certificates.{◌≼◌, hy, ◌⊞◌}
use Rattle.whole_math.proofs.Inequalities.{le_refl_ℤ}
use Rattle.whole_math.specs.Rational.{Rational, ◌≤ʳ◌, of_whole, ◌*ʳ◌, ◌-ʳ◌, InBox}
use Rattle.whole_math.specs.Boxes.{of_scale}
use Rattle.whole_math.proofs.Boxes.{InBox-along, end_in}
use Rattle.whole_math.proofs.RationalLaws.{≈_sym}
use Rattle.orbit_model.proofs.Orders.{cert_r}
use Rattle.iv_core.specs.declared.Iv.{Iv}
use Rattle.iv_core.specs.Intervals.{Holds, width_of}
use Rattle.iv_core.proofs.BoxLaws.{low_held}
use Rattle.trig_box.specs.AnglePairs.{Pair, IsAnglePair}
use Rattle.trig_box.proofs.PairLaws.{canonical_exists, canonical_is_pair}
use Rattle.orbit_model.specs.Elements.{earth_rate}
use Rattle.orbit_model.specs.Places.{IsBetweenDistances, IsSentPlace, IsReceiverPlace}
use Rattle.orbit_model.specs.SeenPlaces.{Position, difference, square, turned_back, point_of, AreSamePlace}
use Rattle.orbit_model.proofs.Apart.{IsBetween, turned_square, loosely, vector_square}
use Rattle.orbit_model.proofs.DistanceCertificates.{place_far, place_near}
use Rattle.obs_rows.specs.ReceiverPoints.{IsReceiverPoint}
use Rattle.signal_travel.specs.declared.places.VectorBox.{VectorBox}
use Rattle.signal_travel.specs.declared.sent.Point.{Point}
use Rattle.signal_travel.specs.VectorBoxes.{HoldsVector, IsVectorAtMostWide, HasVectorBetween}

-- equal places lie in the same boxes
pub held_along : (b : VectorBox) (p q : Position) → AreSamePlace p q → HoldsVector b q → HoldsVector b p
held_along b p q e h = (
  InBox-along 36 b.x.lo b.x.hi q.x p.x (≈_sym p.x q.x e.0) h.0,
  InBox-along 36 b.y.lo b.y.hi q.y p.y (≈_sym p.y q.y e.1) h.1,
  InBox-along 36 b.z.lo b.z.hi q.z p.z (≈_sym p.z q.z e.2) h.2,
)

-- the place of the lower ends
pub lowest : VectorBox → Position
lowest b = record { x = of_scale 36 b.x.lo; y = of_scale 36 b.y.lo; z = of_scale 36 b.z.lo }

pub lowest_held : (b : VectorBox) → HoldsVector b (lowest b)
unfolding lowest
lowest_held b = (low_held b.x, low_held b.y, low_held b.z)

pub lowest_sent : (b : VectorBox) → IsBetweenDistances 19000000 38000000 b.x b.y b.z → IsSentPlace (lowest b)
unfolding lowest
lowest_sent b away = away (of_scale 36 b.x.lo) (of_scale 36 b.y.lo) (of_scale 36 b.z.lo) (low_held b.x) (low_held b.y) (low_held b.z)

-- a point is a receiver's place
pub receiver_place : (x y z : ℤ) → IsReceiverPoint (x ∷ y ∷ z ∷ []) → IsReceiverPlace (point_of x y z)
receiver_place x y z receiver = go (x *ℤ x) (y *ℤ y) (z *ℤ z) receiver
  where
    -- squared_norm of the list of the coordinates, in units of 0.1 mm, and in metres
    go : (a b c : ℤ) → (pos (60000000000 * 60000000000) ≤ℤ (a +ℤ (b +ℤ (c +ℤ pos 0)))) × ((a +ℤ (b +ℤ (c +ℤ pos 0))) ≤ℤ pos (70000000000 * 70000000000)) →
        ((pos 36000000000000 *ℤ pos 1000000000000000000000000) ≤ℤ (((((a *ℤ pos 100000000) +ℤ (b *ℤ pos 100000000)) *ℤ pos 100000000) +ℤ (c *ℤ pos 10000000000000000)) *ℤ pos 1))
        × ((((((a *ℤ pos 100000000) +ℤ (b *ℤ pos 100000000)) *ℤ pos 100000000) +ℤ (c *ℤ pos 10000000000000000)) *ℤ pos 1) ≤ℤ (pos 49000000000000 *ℤ pos 1000000000000000000000000))
    go a b c receiver = (omega (arith, ints, receiver.0), omega (arith, ints, receiver.1))

pub point_place : (p : Point) → IsReceiverPlace (point_of p.x p.y p.z)
point_place p = receiver_place p.x p.y p.z p.receiver

-- a travel time of the box has a pair of the Earth's turn
pub record IsSomeTurn (t : Rational) : Type 0 where
  pub turn : Pair
  pub is_pair : IsAnglePair 5 (earth_rate *ʳ t) turn.cos turn.sin

pub some_turn : (l : ℤ) → pos 0 ≤ℤ l → l ≤ℤ pos 192153584101141163 → IsSomeTurn (of_scale 60 l)
some_turn l h k =
    let canonical_pair = canonical_exists 5 (earth_rate *ʳ of_scale 60 l) (go l h k) in
    record { turn = record { cos = canonical_pair.0; sin = canonical_pair.1 }; is_pair = canonical_is_pair 5 (earth_rate *ʳ of_scale 60 l) canonical_pair.0 canonical_pair.1 canonical_pair.2 }
  where
    go : (l : ℤ) → pos 0 ≤ℤ l → l ≤ℤ pos 192153584101141163 → 2 * unsigned_abs (pos 72921151467 *ℤ l) ≤ 2 ^ 5 * (10 ^ 15 * 2 ^ 60)
    go l h k = omega (arith, ints)

-- a place in the box of turned places, with its distance from the Earth's centre
pub record HasTurned (b : VectorBox) : Type 0 where
  pub place : Position
  pub held : HoldsVector b place
  pub bounds : IsBetween 360990000000000 1444030000000000 (square place)

pub turned_in : (sent b : VectorBox) (tl th : ℤ) → IsBetweenDistances 19000000 38000000 sent.x sent.y sent.z → pos 0 ≤ℤ tl → tl ≤ℤ th → th ≤ℤ pos 192153584101141163 →
    ((t : Rational) (pair : Pair) → InBox 60 tl th t → IsAnglePair 5 (earth_rate *ʳ t) pair.cos pair.sin → (p : Position) → HoldsVector sent p → HoldsVector b (turned_back pair p)) → HasTurned b
turned_in sent b tl th away t0 o t1 holds =
    let some_turn_exists = some_turn tl t0 (through tl th o t1) in
    let lowest_place : Position = lowest sent in
    record {
      place = turned_back some_turn_exists.turn lowest_place;
      held = holds (of_scale 60 tl) some_turn_exists.turn (end_in 60 tl th tl (le_refl_ℤ tl) o) some_turn_exists.is_pair lowest_place (lowest_held sent);
      bounds = turned_square lowest_place (earth_rate *ʳ of_scale 60 tl) some_turn_exists.turn (lowest_sent sent away) some_turn_exists.is_pair;
    }
  where
    through : (a b : ℤ) → a ≤ℤ b → b ≤ℤ pos 192153584101141163 → a ≤ℤ pos 192153584101141163
    through a b h k = omega (arith, ints)

-- the vector from the point to it
pub between : (b v : VectorBox) (p : Point) → HasTurned b → ((q : Position) → HoldsVector b q → HoldsVector v (difference q (point_of p.x p.y p.z))) → HasVectorBetween 141000000000000 2040000000000000 v
between b v p h holds =
    let square_between = vector_square h.place (point_of p.x p.y p.z) (loosely (square h.place) h.bounds) (point_place p) in
    record { vector = difference h.place (point_of p.x p.y p.z); held = holds h.place h.held; far = square_between.low; near = square_between.high }

-- ---- two places in a narrow box are near each other
apart : (a x h l : Rational) → a ≤ʳ h → l ≤ʳ x → h -ʳ l ≤ʳ of_whole (pos 1) → a -ʳ x ≤ʳ of_whole (pos 1)
apart a x h l i j k = cert_r (a ∷ x ∷ h ∷ l ∷ []) ((va 0 ≼ va 2) ∷ (va 3 ≼ va 1) ∷ (va 2 ⊖ va 3 ≼ ko (pos 1)) ∷ []) (va 0 ⊖ va 1) (ko (pos 1)) (hy 0 ⊞ hy 1 ⊞ hy 2) refl (i, (j, (k, tt)))

near : (b : Iv 36) (p q : Rational) → width_of b ≤ℤ pos (2 ^ 19) → Holds b p → Holds b q → p -ʳ q ≤ʳ of_whole (pos 1)
near b p q w h k = apart p q (of_scale 36 b.hi) (of_scale 36 b.lo) h.1 k.0 (go b.lo b.hi w)
  where
    go : (l h : ℤ) → (h -ℤ l) ≤ℤ pos 524288 → (((h *ℤ pos 68719476736) -ℤ (l *ℤ pos 68719476736)) *ℤ pos 1) ≤ℤ (pos 1 *ℤ pos (68719476736 * 68719476736))
    go l h w = omega (arith, ints)

pub all_away : (b : VectorBox) → HasTurned b → IsVectorAtMostWide (pos (2 ^ 19)) b → IsBetweenDistances 18900000 38100000 b.x b.y b.z
all_away b r n x y z ix iy iz =
    let place : Position = r.place in
    let is_held = r.held in (
      place_far place.x place.y place.z x y z r.bounds.low r.bounds.high (near b.x x place.x n.0 ix is_held.0) (near b.x place.x x n.0 is_held.0 ix) (near b.y y place.y n.1 iy is_held.1)
          (near b.y place.y y n.1 is_held.1 iy) (near b.z z place.z n.2 iz is_held.2) (near b.z place.z z n.2 is_held.2 iz),
      place_near place.x place.y place.z x y z r.bounds.low r.bounds.high (near b.x x place.x n.0 ix is_held.0) (near b.x place.x x n.0 is_held.0 ix) (near b.y y place.y n.1 iy is_held.1)
          (near b.y place.y y n.1 is_held.1 iy) (near b.z z place.z n.2 iz is_held.2) (near b.z place.z z n.2 is_held.2 iz),
    )
