-- The least and the greatest product of ends, by the signs of boxes that have no 0 inside.
use Rattle.std.proofs.Common.{◌≡◌, [], ◌∷◌, ℤ, pos, ◌*ℤ◌, ◌≤ℤ◌, ◌<ℤ◌, arith, refl, ap₂, ◌∙◌}
use Rattle.std.proofs.lemmas.Int.{by_lt_z, clamps}
use Rattle.std.specs.Int.{int_min, int_max}
use Rattle.whole_math.proofs.Ring.{◌⊖◌, ◌⊗◌, ng}
use Rattle.whole_math.proofs.Order.{lins, mul_le_left, mul_le_right}
use Rattle.whole_math.proofs.Inequalities.{le_by, prod_nn, less_nn}
use Rattle.iv_core.specs.Boxes.{least_corner, most_corner}

-- a factor that is not above 0 turns an order
turned_left : (c a b : ℤ) → c ≤ℤ pos 0 → a ≤ℤ b → (c *ℤ b) ≤ℤ (c *ℤ a)
turned_left c a b h k = le_by (c ∷ a ∷ b ∷ []) (λ c a b. (c ⊗ b, c ⊗ a, ng c ⊗ (b ⊖ a))) refl (prod_nn (omega (arith, lins)) (less_nn k))

turned_right : (c a b : ℤ) → c ≤ℤ pos 0 → a ≤ℤ b → (b *ℤ c) ≤ℤ (a *ℤ c)
turned_right c a b h k = le_by (c ∷ a ∷ b ∷ []) (λ c a b. (b ⊗ c, a ⊗ c, ng c ⊗ (b ⊖ a))) refl (prod_nn (omega (arith, lins)) (less_nn k))

-- ---- of four numbers, where the order of each two neighbours is known
first_and_last : (x y z w : ℤ) → x ≤ℤ y → z ≤ℤ w → x ≤ℤ z → y ≤ℤ w → (x ≡ int_min (int_min x y) (int_min z w)) × (w ≡ int_max (int_max x y) (int_max z w))
first_and_last x y z w h₁ h₂ h₃ h₄ = (omega (arith, lins, clamps), omega (arith, lins, clamps))

third_and_second : (x y z w : ℤ) → x ≤ℤ y → z ≤ℤ w → z ≤ℤ x → w ≤ℤ y → (z ≡ int_min (int_min x y) (int_min z w)) × (y ≡ int_max (int_max x y) (int_max z w))
third_and_second x y z w h₁ h₂ h₃ h₄ = (omega (arith, lins, clamps), omega (arith, lins, clamps))

second_and_third : (x y z w : ℤ) → y ≤ℤ x → w ≤ℤ z → x ≤ℤ z → y ≤ℤ w → (y ≡ int_min (int_min x y) (int_min z w)) × (z ≡ int_max (int_max x y) (int_max z w))
second_and_third x y z w h₁ h₂ h₃ h₄ = (omega (arith, lins, clamps), omega (arith, lins, clamps))

last_and_first : (x y z w : ℤ) → y ≤ℤ x → w ≤ℤ z → z ≤ℤ x → w ≤ℤ y → (w ≡ int_min (int_min x y) (int_min z w)) × (x ≡ int_max (int_max x y) (int_max z w))
last_and_first x y z w h₁ h₂ h₃ h₄ = (omega (arith, lins, clamps), omega (arith, lins, clamps))

-- ---- the four cases of signs
above_above : (a b c d : ℤ) → a ≤ℤ b → c ≤ℤ d → pos 0 ≤ℤ a → pos 0 ≤ℤ c → (a *ℤ c ≡ least_corner a b c d) × (b *ℤ d ≡ most_corner a b c d)
above_above a b c d ab cd a0 c0 =
    let b_not_negative : pos 0 ≤ℤ b = omega (arith, lins) in
    let d_not_negative : pos 0 ≤ℤ d = omega (arith, lins) in
    first_and_last (a *ℤ c) (a *ℤ d) (b *ℤ c) (b *ℤ d) (mul_le_left a c d a0 cd) (mul_le_left b c d b_not_negative cd) (mul_le_right c a b c0 ab) (mul_le_right d a b d_not_negative ab)

above_below : (a b c d : ℤ) → a ≤ℤ b → c ≤ℤ d → pos 0 ≤ℤ a → d ≤ℤ pos 0 → (b *ℤ c ≡ least_corner a b c d) × (a *ℤ d ≡ most_corner a b c d)
above_below a b c d ab cd a0 d0 =
    let b_not_negative : pos 0 ≤ℤ b = omega (arith, lins) in
    let c_not_positive : c ≤ℤ pos 0 = omega (arith, lins) in
    third_and_second (a *ℤ c) (a *ℤ d) (b *ℤ c) (b *ℤ d) (mul_le_left a c d a0 cd) (mul_le_left b c d b_not_negative cd) (turned_right c a b c_not_positive ab) (turned_right d a b d0 ab)

below_above : (a b c d : ℤ) → a ≤ℤ b → c ≤ℤ d → b ≤ℤ pos 0 → pos 0 ≤ℤ c → (a *ℤ d ≡ least_corner a b c d) × (b *ℤ c ≡ most_corner a b c d)
below_above a b c d ab cd b0 c0 =
    let a_not_positive : a ≤ℤ pos 0 = omega (arith, lins) in
    let d_not_negative : pos 0 ≤ℤ d = omega (arith, lins) in
    second_and_third (a *ℤ c) (a *ℤ d) (b *ℤ c) (b *ℤ d) (turned_left a c d a_not_positive cd) (turned_left b c d b0 cd) (mul_le_right c a b c0 ab) (mul_le_right d a b d_not_negative ab)

below_below : (a b c d : ℤ) → a ≤ℤ b → c ≤ℤ d → b ≤ℤ pos 0 → d ≤ℤ pos 0 → (b *ℤ d ≡ least_corner a b c d) × (a *ℤ c ≡ most_corner a b c d)
below_below a b c d ab cd b0 d0 =
    let a_not_positive : a ≤ℤ pos 0 = omega (arith, lins) in
    let c_not_positive : c ≤ℤ pos 0 = omega (arith, lins) in
    last_and_first (a *ℤ c) (a *ℤ d) (b *ℤ c) (b *ℤ d) (turned_left a c d a_not_positive cd) (turned_left b c d b0 cd) (turned_right c a b c_not_positive ab) (turned_right d a b d0 ab)

-- x and y, or where the other box is below 0, y and x
pub record InOrder (end x y first last : ℤ) : Type 0 where
  pub kept : pos 0 ≤ℤ end → (first ≡ x) × (last ≡ y)
  pub turned : end <ℤ pos 0 → (first ≡ y) × (last ≡ x)

pub by_signs : (a b c d near far first last : ℤ) → a ≤ℤ b → c ≤ℤ d → (a <ℤ pos 0 → b ≤ℤ pos 0) → (c <ℤ pos 0 → d ≤ℤ pos 0) →
    InOrder c a b near far → InOrder a c d first last →
    (near *ℤ first ≡ least_corner a b c d) × (far *ℤ last ≡ most_corner a b c d)
by_signs a b c d near far first last ab cd below other_below n f = by_lt_z a (pos 0)
    (λ a0. by_lt_z c (pos 0)
    (λ c0. joined (n.turned c0) (f.turned a0) (below_below a b c d ab cd (below a0) (other_below c0)))
    (λ c0. joined (n.kept c0) (f.turned a0) (below_above a b c d ab cd (below a0) c0)))
    (λ a0. by_lt_z c (pos 0)
    (λ c0. joined (n.turned c0) (f.kept a0) (above_below a b c d ab cd a0 (other_below c0)))
    (λ c0. joined (n.kept c0) (f.kept a0) (above_above a b c d ab cd a0 c0)))
  where
    joined : {x y z w l m : ℤ} → (near ≡ x) × (far ≡ y) → (first ≡ z) × (last ≡ w) → (x *ℤ z ≡ l) × (y *ℤ w ≡ m) → (near *ℤ first ≡ l) × (far *ℤ last ≡ m)
    joined e g h = (ap₂ (λ x z. x *ℤ z) e.0 g.0 ∙ h.0, ap₂ (λ y w. y *ℤ w) e.1 g.1 ∙ h.1)
