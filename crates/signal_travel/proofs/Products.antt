-- Products by limbs of 64 bits.
use Rattle.std.proofs.Common.{◌≡◌, ℕ, ◌+◌, ◌*◌, ◌/◌, ◌%◌, ◌^◌, [], ◌∷◌, pos, unsigned_abs, arith, ap, ap₂, ◌∙◌, refl}
use Rattle.whole_math.proofs.Ring.{◌⊕◌, ◌⊗◌}
use Rattle.whole_math.proofs.Inequalities.{same_by}

-- (x n + y)(z n + w), with n n = m
product : (x y z w n : ℕ) → ((x * z) * (n * n) + (y * z + x * w) * n) + y * w ≡ (x * n + y) * (z * n + w)
product x y z w n = ap unsigned_abs (same_by (pos x ∷ pos y ∷ pos z ∷ pos w ∷ pos n ∷ []) (λ x y z w n. (x ⊗ z ⊗ (n ⊗ n) ⊕ (y ⊗ z ⊕ x ⊗ w) ⊗ n ⊕ y ⊗ w, (x ⊗ n ⊕ y) ⊗ (z ⊗ n ⊕ w))) refl)

parts : (a : ℕ) → a / 2 ^ 64 * 2 ^ 64 + a % 2 ^ 64 ≡ a
parts a = omega arith

pub by_limbs : (a b low left right high : ℕ) → low ≡ (a % 2 ^ 64) * (b % 2 ^ 64) → left ≡ (a % 2 ^ 64) * (b / 2 ^ 64) → right ≡ (a / 2 ^ 64) * (b % 2 ^ 64) → high ≡ (a / 2 ^ 64) * (b / 2 ^ 64) →
    high * 2 ^ 128 + (left + right) * 2 ^ 64 + low ≡ a * b
by_limbs a b low left right high e f g h =
    ap₂ (λ (x y : ℕ). x * 2 ^ 128 + (y + right) * 2 ^ 64 + low) h f
    ∙ ap₂ (λ (x y : ℕ). ((a / 2 ^ 64) * (b / 2 ^ 64)) * 2 ^ 128 + ((a % 2 ^ 64) * (b / 2 ^ 64) + x) * 2 ^ 64 + y) g e
    ∙ product (a / 2 ^ 64) (a % 2 ^ 64) (b / 2 ^ 64) (b % 2 ^ 64) (2 ^ 64)
    ∙ ap₂ (λ (x y : ℕ). x * y) (parts a) (parts b)
