-- From a point and boxes in lists to those by name, and back.
use Rattle.std.proofs.Common.{◌≡◌, ℕ, zero, suc, List, [], ◌∷◌, ℤ, ◌≤ℤ◌, All, arith, subst, refl}
use Rattle.iv_core.specs.declared.Iv.{Iv}
use Rattle.iv_core.specs.Intervals.{width_of}
use Rattle.orbit_model.specs.Places.{IsBetweenDistances, HoldsPlace}
use Rattle.orbit_model.specs.SeenPlaces.{Position, point_of}
use Rattle.signal_travel.specs.declared.places.VectorBox.{VectorBox}
use Rattle.signal_travel.specs.VectorBoxes.{HoldsVector}

pub same_point : (s : List ℤ) (a b c x y z : ℤ) → s ≡ a ∷ b ∷ c ∷ [] → s ≡ x ∷ y ∷ z ∷ [] → point_of x y z ≡ point_of a b c
same_point s a b c x y z e f = same a b c x y z (cc) (cc) (cc)
  where
    same : (a b c x y z : ℤ) → x ≡ a → y ≡ b → z ≡ c → point_of x y z ≡ point_of a b c
    same a b c x y z e f g = rw (e, f, g) refl

pub held : (s : List (Iv 36)) (b : VectorBox) (p : Position) → s ≡ b.x ∷ b.y ∷ b.z ∷ [] → HoldsPlace s p → HoldsVector b p
held s b p e h = let holds_place : HoldsPlace (b.x ∷ b.y ∷ b.z ∷ []) p = subst (λ (t : List (Iv 36)). HoldsPlace t p) e h in (holds_place.0, holds_place.1.0, holds_place.1.1.0)

pub all_narrow : (x y z : Iv 36) (w : ℤ) → (width_of x ≤ℤ w) × (width_of y ≤ℤ w) × (width_of z ≤ℤ w) → All (λ (b : Iv 36). width_of b ≤ℤ w) (x ∷ y ∷ z ∷ [])
all_narrow x y z w h zero d k = h.0
all_narrow x y z w h (suc zero) d k = h.1
all_narrow x y z w h (suc (suc zero)) d k = h.2
all_narrow x y z w h (suc (suc (suc n))) d k = absurd (omega arith)

pub all_between : (m n : ℕ) (x y z a b c : Iv 36) → x ∷ y ∷ z ∷ [] ≡ a ∷ b ∷ c ∷ [] → IsBetweenDistances m n x y z → IsBetweenDistances m n a b c
all_between m n x y z a b c e h = same a b c x y z (cc) (cc) (cc) h
  where
    same : (a b c x y z : Iv 36) → a ≡ x → b ≡ y → c ≡ z → IsBetweenDistances m n x y z → IsBetweenDistances m n a b c
    same a b c x y z e f g h = rw (e, f, g) h
