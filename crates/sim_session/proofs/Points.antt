-- The rover is on the Earth.
use Rattle.std.proofs.Common.{◌≡◌, ◌*◌, ◌≤◌, [], ◌∷◌, ℤ, pos, ◌+ℤ◌, ◌*ℤ◌, ◌≤ℤ◌, neg_ℤ, unsigned_abs, w64, to_z, of_z, arith, refl}
use Rattle.std.proofs.lemmas.Int.{ints}
use Rattle.whole_math.proofs.Ring.{va, ko, ng, ◌⊕◌, ◌⊖◌, ◌⊗◌}
use Rattle.whole_math.proofs.Certificates.{cert, ◌≼◌, hy, nm, sq, ◌⊞◌, ◌⊠◌}
use Rattle.obs_rows.specs.ReceiverPoints.{IsReceiverPoint}
use Rattle.sim_session.specs.declared.drawn.TheConstants.{MOST_OFFSET}

-- x from 6,377,137 m to 6,379,137 m, y and z at most 1 km in size, in units of 0.1 mm
pub near_equator : (x y z : ℤ) → pos 63771370000 ≤ℤ x → x ≤ℤ pos 63791370000 → neg_ℤ y ≤ℤ pos 10000000 → y ≤ℤ pos 10000000 → neg_ℤ z ≤ℤ pos 10000000 → z ≤ℤ pos 10000000 →
    IsReceiverPoint (x ∷ y ∷ z ∷ [])
near_equator x y z a b c d e f = (
  cert (x ∷ y ∷ z ∷ []) ((ko (pos 63771370000) ≼ va 0) ∷ []) (ko (pos (60000000000 * 60000000000))) (va 0 ⊗ va 0 ⊕ (va 1 ⊗ va 1 ⊕ (va 2 ⊗ va 2 ⊕ ko (pos 0))))
      (sq (va 0 ⊖ ko (pos 63771370000)) ⊞ nm 127542740000 ⊠ hy 0 ⊞ sq (va 1) ⊞ sq (va 2) ⊞ nm 466787631676900000000) refl (a, tt),
  cert (x ∷ y ∷ z ∷ []) ((ko (pos 63771370000) ≼ va 0) ∷ (va 0 ≼ ko (pos 63791370000)) ∷ (ng (va 1) ≼ ko (pos 10000000)) ∷ (va 1 ≼ ko (pos 10000000))
      ∷ (ng (va 2) ≼ ko (pos 10000000)) ∷ (va 2 ≼ ko (pos 10000000)) ∷ [])
      (va 0 ⊗ va 0 ⊕ (va 1 ⊗ va 1 ⊕ (va 2 ⊗ va 2 ⊕ ko (pos 0)))) (ko (pos (70000000000 * 70000000000)))
      (hy 1 ⊠ (hy 0 ⊞ nm 127562740000) ⊞ hy 3 ⊠ hy 2 ⊞ hy 5 ⊠ hy 4 ⊞ nm 830660913523100000000) refl (a, (b, (c, (d, (e, (f, tt)))))),
)

pub earth_along : (a b c x y z : ℤ) → a ≡ x → b ≡ y → c ≡ z → IsReceiverPoint (x ∷ y ∷ z ∷ []) → IsReceiverPoint (a ∷ b ∷ c ∷ [])
earth_along a b c x y z e f g h = rw (e, f, g) h

-- the coordinates as the code makes them
pub first_is : (x : ℤ) → unsigned_abs x ≤ MOST_OFFSET → to_z w64 (of_z w64 (pos 63781370000 +ℤ to_z w64 (of_z w64 (pos 10 *ℤ to_z w64 (of_z w64 x))))) ≡ pos 63781370000 +ℤ (pos 10 *ℤ x)
first_is x h = omega (arith, ints)

pub further_is : (y : ℤ) → unsigned_abs y ≤ MOST_OFFSET → to_z w64 (of_z w64 (pos 10 *ℤ to_z w64 (of_z w64 y))) ≡ pos 10 *ℤ y
further_is y h = omega (arith, ints)

pub rover_point : (x y z : ℤ) → unsigned_abs x ≤ MOST_OFFSET → unsigned_abs y ≤ MOST_OFFSET → unsigned_abs z ≤ MOST_OFFSET →
    IsReceiverPoint ((pos 63781370000 +ℤ (pos 10 *ℤ x)) ∷ (pos 10 *ℤ y) ∷ (pos 10 *ℤ z) ∷ [])
rover_point x y z a b c = near_equator (pos 63781370000 +ℤ (pos 10 *ℤ x)) (pos 10 *ℤ y) (pos 10 *ℤ z) (low x a) (high x a) (below y b) (above y b) (below z c) (above z c)
  where
    low : (x : ℤ) → unsigned_abs x ≤ MOST_OFFSET → pos 63771370000 ≤ℤ (pos 63781370000 +ℤ (pos 10 *ℤ x))
    low x h = omega (arith, ints)

    high : (x : ℤ) → unsigned_abs x ≤ MOST_OFFSET → (pos 63781370000 +ℤ (pos 10 *ℤ x)) ≤ℤ pos 63791370000
    high x h = omega (arith, ints)

    below : (y : ℤ) → unsigned_abs y ≤ MOST_OFFSET → neg_ℤ (pos 10 *ℤ y) ≤ℤ pos 10000000
    below y h = omega (arith, ints)

    above : (y : ℤ) → unsigned_abs y ≤ MOST_OFFSET → (pos 10 *ℤ y) ≤ℤ pos 10000000
    above y h = omega (arith, ints)

pub point_along : (x y z a b c : ℤ) → x ≡ a → y ≡ b → z ≡ c →
    (pos 63781370000 +ℤ (pos 10 *ℤ x)) ∷ (pos 10 *ℤ y) ∷ (pos 10 *ℤ z) ∷ [] ≡ (pos 63781370000 +ℤ (pos 10 *ℤ a)) ∷ (pos 10 *ℤ b) ∷ (pos 10 *ℤ c) ∷ []
point_along x y z a b c e f g = rw (e, f, g) refl
