-- The mask's rule as the code decides it, over whole numbers.
use Rattle.std.proofs.Common.{false, ◌≡◌, ℕ, ◌*◌, ◌≤◌, ◌↔◌, ℤ, pos, ◌*ℤ◌, ◌≤ℤ◌, arith, ap, ap₂, refl}
use lib.Signed.{lt_z}
use Rattle.std.proofs.lemmas.Int.{ints}
use Rattle.whole_math.proofs.Order.{lins}
use Rattle.signal_travel.specs.Grid.{dot3}

pub decided : (T : Type 0) (mask m h s : ℕ) (d q p : ℤ) → (T ↔ (m * s ≤ h * h)) → pos 0 ≤ℤ d → pos h ≡ pos 1000 *ℤ d → pos m ≡ pos (mask * mask) *ℤ q → pos s ≡ p →
    T ↔ ((pos 0 ≤ℤ d) × (((pos (mask * mask) *ℤ q) *ℤ p) ≤ℤ ((pos 1000 *ℤ d) *ℤ (pos 1000 *ℤ d))))
decided T mask m h s d q p e d0 eh em es =
    let left : pos (m * s) ≡ (pos (mask * mask) *ℤ q) *ℤ p = ap₂ (λ (x y : ℤ). x *ℤ y) em es in
    let right : pos (h * h) ≡ (pos 1000 *ℤ d) *ℤ (pos 1000 *ℤ d) = ap (λ (x : ℤ). x *ℤ x) eh in (
      λ t. (d0, up (m * s) (h * h) ((pos (mask * mask) *ℤ q) *ℤ p) ((pos 1000 *ℤ d) *ℤ (pos 1000 *ℤ d)) left right (e.0 t)),
      λ k. e.1 (down (m * s) (h * h) ((pos (mask * mask) *ℤ q) *ℤ p) ((pos 1000 *ℤ d) *ℤ (pos 1000 *ℤ d)) left right k.1),
    )
  where
    up : (a b : ℕ) (x y : ℤ) → pos a ≡ x → pos b ≡ y → a ≤ b → x ≤ℤ y
    up a b x y e f h = omega (arith, ints)

    down : (a b : ℕ) (x y : ℤ) → pos a ≡ x → pos b ≡ y → x ≤ℤ y → a ≤ b
    down a b x y e f h = omega (arith, ints)

pub same_dot : (a b c p q r a' b' c' p' q' r' : ℤ) → a' ≡ a → b' ≡ b → c' ≡ c → p' ≡ p → q' ≡ q → r' ≡ r → dot3 a' b' c' p' q' r' ≡ dot3 a b c p q r
same_dot a b c p q r a' b' c' p' q' r' e f g h i j = rw (e, f, g, h, i, j) refl

pub not_below : (z : ℤ) → lt_z z (pos 0) ≡ false → pos 0 ≤ℤ z
not_below z h = omega (arith, lins, h)
