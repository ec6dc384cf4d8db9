-- Arrays of three as lists.
use Rattle.std.proofs.Common.{◌≡◌, ℕ, ◌<◌, ◌≤◌, lit<, List, [], ◌∷◌, length, get_or, ℤ, pos, unsigned_abs, arith, sym, to_z, of_z}
use Rattle.std.specs.Int.{w64}
use Rattle.whole_math.proofs.Lists.{three_items}
use Rattle.obs_rows.specs.ReceiverPoints.{IsReceiverPoint}
use Rattle.obs_rows.specs.declared.limits.TheConstants.{MOST_COORDINATE}
use Rattle.obs_rows.proofs.ReceiverPointLaws.{plain}
use Rattle.signal_travel.specs.declared.sent.Point.{Point}
use Rattle.signal_travel.proofs.AboveLaws.{coordinate}

-- a point as the code reads it
pub read_point : (s : List ℤ) → length s ≡ 3 → IsReceiverPoint s →
    to_z w64 (of_z w64 (get_or s 0 (pos 0))) ∷ to_z w64 (of_z w64 (get_or s 1 (pos 0))) ∷ to_z w64 (of_z w64 (get_or s 2 (pos 0))) ∷ [] ≡ s
read_point s three point = rw (read 0 (omega (arith, three)), read 1 (omega (arith, three)), read 2 (omega (arith, three))) (sym (three_items s (pos 0) (pos 0) (pos 0) three))
  where
    read : (i : ℕ) → i < length s → to_z w64 (of_z w64 (get_or s i (pos 0))) ≡ get_or s i (pos 0)
    read i inside = plain (get_or s i (pos 0)) (coordinate s i inside point)

-- the sizes of a point's coordinates
pub record AreCoordinates (x y z : ℤ) : Type 0 where
  pub x_size : unsigned_abs x ≤ MOST_COORDINATE
  pub y_size : unsigned_abs y ≤ MOST_COORDINATE
  pub z_size : unsigned_abs z ≤ MOST_COORDINATE

pub coordinates : (p : Point) → AreCoordinates p.x p.y p.z
coordinates p = let coordinates_of_place : List ℤ = p.x ∷ p.y ∷ p.z ∷ [] in record {
  x_size = coordinate coordinates_of_place 0 (lit< tt) p.receiver;
  y_size = coordinate coordinates_of_place 1 (lit< tt) p.receiver;
  z_size = coordinate coordinates_of_place 2 (lit< tt) p.receiver;
}
