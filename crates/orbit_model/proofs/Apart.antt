-- The distances of seen places, from the laws of pairs.
use Rattle.std.proofs.Common.{ℕ, ◌≤◌, pos, ◌*ℤ◌, ◌≤ℤ◌, arith, lit≤}
use Rattle.std.proofs.lemmas.Int.{ints}
use Rattle.whole_math.proofs.Order.{le_pos}
use Rattle.whole_math.specs.Rational.{Rational, ◌≤ʳ◌, of_whole, ◌*ʳ◌, two_to_minus}
use Rattle.whole_math.proofs.RationalLaws.{≤ʳ_trans}
use Rattle.trig_box.specs.AnglePairs.{Pair, IsAnglePair}
use Rattle.trig_box.proofs.PairLaws.{norm_law_5}
use Rattle.orbit_model.specs.SeenPlaces.{Position, difference, square, turned_back}
use Rattle.orbit_model.specs.Places.{IsSentPlace, IsReceiverPlace}
use Rattle.orbit_model.proofs.DistanceCertificates.{turned_far, turned_near, vector_far, vector_near}

pub record IsBetween (least most : ℕ) (q : Rational) : Type 0 where
  pub low : of_whole (pos least) ≤ʳ q
  pub high : q ≤ʳ of_whole (pos most)

pub whole_le : (a b : ℕ) → a ≤ b → of_whole (pos a) ≤ʳ of_whole (pos b)
whole_le a b h = go a b h
  where
    go : (a b : ℕ) → a ≤ b → (pos a *ℤ pos 1) ≤ℤ (pos b *ℤ pos 1)
    go a b h = omega (arith, ints)

small : of_whole (pos 65536) *ʳ two_to_minus 16 ≤ʳ of_whole (pos 1)
small = le_pos 65536 65536 (lit≤ tt)

-- a place that the Earth has turned
pub turned_square : (sent : Position) (x : Rational) (turn : Pair) → IsSentPlace sent → IsAnglePair 5 x turn.cos turn.sin → IsBetween 360990000000000 1444030000000000 (square (turned_back turn sent))
turned_square sent x turn h p =
    let near_norm = norm_law_5 x turn.cos turn.sin p in
    record {
      low = turned_far sent.x sent.y sent.z turn.cos turn.sin (two_to_minus 16) h.0 h.1 near_norm.0 near_norm.1 small;
      high = turned_near sent.x sent.y sent.z turn.cos turn.sin (two_to_minus 16) h.0 h.1 near_norm.0 near_norm.1 small;
    }

pub loosely : (q : Rational) → IsBetween 360990000000000 1444030000000000 q → IsBetween 357210000000000 1451610000000000 q
loosely q h = record {
  low = ≤ʳ_trans (of_whole (pos 357210000000000)) (of_whole (pos 360990000000000)) q (whole_le 357210000000000 360990000000000 (lit≤ tt)) h.low;
  high = ≤ʳ_trans q (of_whole (pos 1444030000000000)) (of_whole (pos 1451610000000000)) h.high (whole_le 1444030000000000 1451610000000000 (lit≤ tt));
}

-- the vector from a receiver to a place
pub vector_square : (place point : Position) → IsBetween 357210000000000 1451610000000000 (square place) → IsReceiverPlace point
    → IsBetween 141000000000000 2040000000000000 (square (difference place point))
vector_square place point h r = record {
  low = vector_far place.x place.y place.z point.x point.y point.z h.low h.high r.1;
  high = vector_near place.x place.y place.z point.x point.y point.z h.low h.high r.1;
}
