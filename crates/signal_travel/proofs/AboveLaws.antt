-- From what the code reads of the boxes and the point to places.
use Rattle.std.proofs.Common.{◌≡◌, ℕ, ◌^◌, ◌<◌, ◌≤◌, ◌↔◌, List, [], ◌∷◌, length, ℤ, pos, ◌≤ℤ◌, neg_ℤ, unsigned_abs, get_or, All, lit<, arith, to_z, of_z, sym, subst}
use Rattle.std.proofs.lemmas.Int.{ints, to_z-of_z}
use Rattle.std.specs.Int.{w64}
use mir.Val.{SFits}
use Rattle.obs_rows.specs.ReceiverPoints.{IsReceiverPoint}
use Rattle.obs_rows.proofs.ReceiverPointLaws.{receiver_is_point, plain}
use Rattle.obs_rows.specs.declared.limits.TheConstants.{MOST_COORDINATE}
use Rattle.whole_math.specs.Rational.{Rational, AreWithin, two_to_minus}
use Rattle.whole_math.specs.Boxes.{of_scale}
use Rattle.iv_core.specs.declared.Iv.{Iv}
use Rattle.iv_core.specs.Intervals.{Holds, width_of}
use Rattle.orbit_model.specs.SeenPlaces.{point_of, IsAboveMask, IsBelowMask}
use Rattle.signal_travel.specs.Boxes.{IsNearPlaces, HasNearPlace}
use Rattle.signal_travel.specs.Grid.{grid, offset, dot3, IsAboveWhole}
use Rattle.signal_travel.proofs.GridPlaces.{grid_place, grid_near, sides, is_above, decided_place}

-- ---- a coordinate of a point
pub coordinate : (s : List ℤ) (i : ℕ) → i < length s → IsReceiverPoint s → unsigned_abs (get_or s i (pos 0)) ≤ MOST_COORDINATE
coordinate s i inside point = receiver_is_point s point i (pos 0) inside

pub cast_size : (z : ℤ) (n : ℕ) → MOST_COORDINATE ≤ n → unsigned_abs z ≤ MOST_COORDINATE → unsigned_abs (to_z w64 (of_z w64 z)) ≤ n
cast_size z n room small = subst (λ (y : ℤ). unsigned_abs y ≤ n) (sym (plain z small)) (omega (arith, room, small))

-- ---- the place on the grid is near every place of the boxes
pub near_places : (boxes : List (Iv 36)) (x y z : Iv 36) → x ≡ get_or boxes 0 x → y ≡ get_or boxes 1 y → z ≡ get_or boxes 2 z → All (λ b. width_of b ≤ℤ pos (2 ^ 19)) boxes →
    IsNearPlaces boxes (grid_place x.lo y.lo z.lo)
near_places [] x y z ex ey ez w q h = absurd h
near_places (a ∷ []) x y z ex ey ez w q h = absurd h.1
near_places (a ∷ b ∷ []) x y z ex ey ez w q h = absurd h.1.1
near_places (a ∷ b ∷ c ∷ []) x y z ex ey ez w q h = (
  near_one a x q.x ex (w 0 a (lit< tt)) h.0,
  near_one b y q.y ey (w 1 b (lit< tt)) h.1.0,
  near_one c z q.z ez (w 2 c (lit< tt)) h.1.1.0,
)
  where
    near_one : (a x : Iv 36) (q : Rational) → x ≡ a → width_of a ≤ℤ pos (2 ^ 19) → Holds a q → AreWithin (two_to_minus 17) (of_scale 17 (grid x.lo)) q
    near_one a x q e w h = subst (λ (b : Iv 36). AreWithin (two_to_minus 17) (of_scale 17 (grid b.lo)) q) (sym e) (grid_near a.lo a.hi q w h)
near_places (a ∷ b ∷ c ∷ d ∷ rest) x y z ex ey ez w q h = absurd h.1.1.1

-- ---- the answer
pub plain_answer : (t : Type 0) (mask : ℕ) (a b c p q r a' b' c' p' q' r' : ℤ) → a' ≡ a → b' ≡ b → c' ≡ c → p' ≡ p → q' ≡ q → r' ≡ r
    → (t ↔ IsAboveWhole mask a' b' c' p' q' r') → (t ↔ IsAboveWhole mask a b c p q r)
plain_answer t mask a b c p q r a' b' c' p' q' r' ea eb ec ep eq er h = rw (ea, eb, ec, ep, eq, er) at h

pub lo_fits : (x : Iv 36) → to_z w64 (of_z w64 x.lo) ≡ x.lo
lo_fits x = to_z-of_z w64 x.lo (go x.lo x.hi x.low x.ordered x.high)
  where
    go : (l h : ℤ) → neg_ℤ (pos (2 ^ 62)) ≤ℤ l → l ≤ℤ h → h ≤ℤ pos (2 ^ 62) → SFits w64 l
    go l h a b c = omega (arith, ints)

pub has_above : (boxes : List (Iv 36)) (x y z : Iv 36) (mask : ℕ) (p q r : ℤ) → IsNearPlaces boxes (grid_place x.lo y.lo z.lo) →
    IsAboveWhole mask (offset x.lo p) (offset y.lo q) (offset z.lo r) p q r →
    HasNearPlace boxes (λ g. IsAboveMask mask g (point_of p q r))
has_above boxes x y z mask p q r n h = record {
  place = grid_place x.lo y.lo z.lo;
  near = n;
  has = is_above mask (dot3 (offset x.lo p) (offset y.lo q) (offset z.lo r) p q r)
      (dot3 (offset x.lo p) (offset y.lo q) (offset z.lo r) (offset x.lo p) (offset y.lo q) (offset z.lo r)) (dot3 p q r p q r)
      (grid_place x.lo y.lo z.lo) (point_of p q r) (sides mask x.lo y.lo z.lo p q r) h.0 h.1;
}

pub has_below : (boxes : List (Iv 36)) (x y z : Iv 36) (mask : ℕ) (p q r : ℤ) (t : Type 0) → IsNearPlaces boxes (grid_place x.lo y.lo z.lo) →
    (t → ⊥) → (IsAboveWhole mask (offset x.lo p) (offset y.lo q) (offset z.lo r) p q r → t) →
    HasNearPlace boxes (λ g. IsBelowMask mask g (point_of p q r))
has_below boxes x y z mask p q r t n untrue up = record { place = grid_place x.lo y.lo z.lo; near = n; has = decided_place t mask x.lo y.lo z.lo p q r untrue up }
