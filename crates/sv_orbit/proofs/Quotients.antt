-- The ends of a box of a quotient whose size is known.
use Rattle.std.proofs.Common.{◌≡◌, ℕ, ◌+◌, ◌-◌, ◌*◌, ◌^◌, ◌<◌, ◌≤◌, [], ◌∷◌, ℤ, pos, ◌*ℤ◌, neg_ℤ, ◌≤ℤ◌, ◌<ℤ◌, unsigned_abs, inl, inr, arith, refl, sym, ap, ◌∙◌, pow_pos}
use Rattle.std.proofs.lemmas.Int.{ints, unsigned_abs-mul}
use Rattle.std.proofs.lemmas.Nat.{pow-add}
use Rattle.whole_math.specs.Rounding.{floor_div, ceil_div}
use Rattle.whole_math.specs.Bounds.{Within}
use Rattle.whole_math.proofs.Ring.{◌⊗◌, ng}
use Rattle.whole_math.proofs.Order.{lins, mul_lt_cancel, mul_le_left}
use Rattle.whole_math.proofs.Inequalities.{same_by, weak, pos_nn}
use Rattle.whole_math.proofs.Rounding.{floor_greatest, ceil_least}
use Rattle.whole_math.proofs.Absolute.{abs_pos, pos_abs}
use Rattle.iv_core.specs.Boxes.{Past}

pub quotient_ends : (z d : ℤ) (size : ℕ) → pos 0 <ℤ d → Within (pos size *ℤ d) z → (neg_ℤ (pos size) ≤ℤ floor_div z (unsigned_abs d)) × (ceil_div z (unsigned_abs d) ≤ℤ pos size)
quotient_ends z d size h w = (
  floor_greatest z (neg_ℤ (pos size)) (unsigned_abs d) (abs_pos d h) (low (pos (unsigned_abs d)) (pos_abs d (weak h))),
  ceil_least z (pos size) (unsigned_abs d) (abs_pos d h) (high (pos (unsigned_abs d)) (pos_abs d (weak h))),
)
  where
    low : (e : ℤ) → e ≡ d → (neg_ℤ (pos size) *ℤ e) ≤ℤ z
    low e f = rw f (omega (arith, lins, w.0, same_by (pos size ∷ d ∷ []) (λ s d. (ng s ⊗ d, ng (s ⊗ d))) refl))

    high : (e : ℤ) → e ≡ d → z ≤ℤ (pos size *ℤ e)
    high e f = rw f w.1

pub quotient_room : (n d : ℤ) (k size : ℕ) → k ≤ 60 → size ≤ 2 ^ 62 → pos 0 <ℤ d → d <ℤ pos (2 ^ 64) → Within (pos size *ℤ d) (n *ℤ pos (2 ^ k)) → unsigned_abs n < 2 ^ (126 - k)
quotient_room n d k size h l d0 d1 w =
    let powers_join : 2 ^ (126 - k) * 2 ^ k ≡ 2 ^ 126 = sym (pow-add 2 (126 - k) k) ∙ ap (λ (i : ℕ). 2 ^ i) (whole k h) in
    let product_below : (pos size *ℤ d) <ℤ pos (2 ^ 126) = product size l in
    let scaled_below : unsigned_abs (n *ℤ pos (2 ^ k)) < 2 ^ 126 = small (n *ℤ pos (2 ^ k)) (pos size *ℤ d) w.0 w.1 product_below in
    let scaled_size : unsigned_abs (n *ℤ pos (2 ^ k)) ≡ unsigned_abs n * 2 ^ k = unsigned_abs-mul n (pos (2 ^ k)) in
    below (unsigned_abs n) (2 ^ (126 - k)) (mul_lt_cancel (pos (unsigned_abs n)) (pos (2 ^ (126 - k))) (2 ^ k) (pow_pos k)
    (scaled (unsigned_abs n * 2 ^ k) (2 ^ (126 - k) * 2 ^ k) (unsigned_abs (n *ℤ pos (2 ^ k))) scaled_size powers_join scaled_below))
  where
    whole : (k : ℕ) → k ≤ 60 → (126 - k) + k ≡ 126
    whole k h = omega arith

    product : (size : ℕ) → size ≤ 2 ^ 62 → (pos size *ℤ d) <ℤ pos (2 ^ 126)
    product size l = step (mul_le_left (pos size) d (pos (2 ^ 64 - 1)) (pos_nn size) (omega (arith, ints)))
      where
        step : (pos size *ℤ d) ≤ℤ (pos size *ℤ pos (2 ^ 64 - 1)) → (pos size *ℤ d) <ℤ pos (2 ^ 126)
        step g = omega (arith, ints)

    small : (z b : ℤ) → neg_ℤ b ≤ℤ z → z ≤ℤ b → b <ℤ pos (2 ^ 126) → unsigned_abs z < 2 ^ 126
    small z b f g i = omega (arith, ints)

    scaled : (a b z : ℕ) → z ≡ a → b ≡ 2 ^ 126 → z < 2 ^ 126 → pos a <ℤ pos b
    scaled a b z f g i = omega (arith, ints)

    below : (a b : ℕ) → pos a <ℤ pos b → a < b
    below a b f = omega (arith, ints)

pub not_past : (lo hi : ℤ) (size : ℕ) → size ≤ 2 ^ 62 → (neg_ℤ (pos size) ≤ℤ lo) × (hi ≤ℤ pos size) → Past lo hi → ⊥
not_past lo hi size l h (inl p) = omega (arith, ints, h.0, p)
not_past lo hi size l h (inr p) = omega (arith, ints, h.1, p)

-- the same, with the numbers that the code has
pub same_ends : (n d m e : ℤ) (k size : ℕ) → m ≡ n → e ≡ d → pos 0 <ℤ d → Within (pos size *ℤ d) (n *ℤ pos (2 ^ k)) →
    (neg_ℤ (pos size) ≤ℤ floor_div (m *ℤ pos (2 ^ k)) (unsigned_abs e)) × (ceil_div (m *ℤ pos (2 ^ k)) (unsigned_abs e) ≤ℤ pos size)
same_ends n d m e k size f g h w = rw (f, g) (quotient_ends (n *ℤ pos (2 ^ k)) d size h w)
