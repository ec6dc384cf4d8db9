-- The box of the near-roots of μ: how far it reaches and how wide it is.
use Rattle.std.proofs.Common.{◌≡◌, ◌-◌, ◌*◌, ◌^◌, ℤ, pos, ◌+ℤ◌, ◌-ℤ◌, ◌*ℤ◌, neg_ℤ, ◌≤ℤ◌, ◌<ℤ◌, inl, inr, arith, subst, to_z, of_z}
use Rattle.std.proofs.Math.Logic.{∥∥₁_elim}
use Rattle.std.proofs.Props.{props}
use Rattle.std.specs.Int.{w64}
use Rattle.std.proofs.lemmas.Int.{ints, by_lt_z}
use Rattle.whole_math.proofs.Order.{lins, mul_le_right}
use Rattle.whole_math.proofs.Certificates.{weak, square_root}
use Rattle.whole_math.specs.Rational.{InBox, of_whole}
use Rattle.sv_orbit.specs.ClockWorlds.{IsWorld}
use Rattle.sv_orbit.proofs.RootOfMuCertificates.{not_high, not_wide}

-- ---- the two systems
pub record AreBounded (mu rel : ℤ) : Type 0 where
  pub mu_low : pos 398600441800000 ≤ℤ mu
  pub mu_high : mu ≤ℤ pos 398600500000000
  pub rel_low : neg_ℤ (pos 4442807633) ≤ℤ rel
  pub rel_high : rel ≤ℤ neg_ℤ (pos 4442807309)

world_bounds : (mu rel : ℤ) → IsWorld mu rel → AreBounded mu rel
world_bounds mu rel (inl h) = record { mu_low = omega (arith, ints, h.0); mu_high = omega (arith, ints, h.0); rel_low = omega (arith, ints, h.1); rel_high = omega (arith, ints, h.1) }
world_bounds mu rel (inr h) = record { mu_low = omega (arith, ints, h.0); mu_high = omega (arith, ints, h.0); rel_low = omega (arith, ints, h.1); rel_high = omega (arith, ints, h.1) }

pub bounded : (mu rel : ℤ) → ∥ IsWorld mu rel ∥₁ → AreBounded mu rel
bounded mu rel h = ∥∥₁_elim h (hlevel props) (world_bounds mu rel)

-- ---- the box, from l to h, of the near-roots of n
pub record IsRootBox (n l h : ℤ) : Type 0 where
  pub low : pos 0 ≤ℤ l
  pub ordered : l ≤ℤ h
  pub near_low : (n *ℤ (pos (2 ^ 60) -ℤ pos 1)) <ℤ (((l +ℤ pos 1) *ℤ (l +ℤ pos 1)) *ℤ pos (2 ^ 60))
  pub near_high : pos 0 <ℤ h → (((h -ℤ pos 1) *ℤ (h -ℤ pos 1)) *ℤ pos (2 ^ 60)) <ℤ (n *ℤ (pos (2 ^ 60) +ℤ pos 1))

pub root_high : (n l h : ℤ) → IsRootBox n l h → n ≤ℤ pos (398600500000000 * 2 ^ 72) → h ≤ℤ pos (19965300 * 2 ^ 36)
root_high n l h b m = by_lt_z (pos 0) h
    (λ g. up (square_root (h -ℤ pos 1) (pos (19965300 * 2 ^ 36 - 1)) (omega (arith, ints)) (not_high n (h -ℤ pos 1) (weak _ _ (b.near_high g)) m)))
    (λ g. omega (arith, ints, g))
  where
    up : (h -ℤ pos 1) ≤ℤ pos (19965300 * 2 ^ 36 - 1) → h ≤ℤ pos (19965300 * 2 ^ 36)
    up g = omega (arith, ints)

pub root_low : (n l h : ℤ) → IsRootBox n l h → neg_ℤ (pos (19965300 * 2 ^ 36)) ≤ℤ l
root_low n l h b = let low_enough = b.low in omega (arith, ints, low_enough)

pub root_narrow : (n l h : ℤ) → IsRootBox n l h → h ≤ℤ pos (19965300 * 2 ^ 36) → (h -ℤ l) ≤ℤ pos 3
root_narrow n l h b m = by_lt_z (pos 3) (h -ℤ l)
    (λ g. absurd (no (not_wide n (l +ℤ pos 1) (h -ℤ pos 1) (weak _ _ (b.near_high (above g b.low))) (weak _ _ b.near_low) (apart g) (from b.low) (small m b.ordered))))
    (λ g. g)
  where
    above : pos 3 <ℤ (h -ℤ l) → pos 0 ≤ℤ l → pos 0 <ℤ h
    above g k = omega (arith, lins)

    apart : pos 3 <ℤ (h -ℤ l) → (l +ℤ pos 1 +ℤ pos 2) ≤ℤ (h -ℤ pos 1)
    apart g = omega (arith, lins)

    from : pos 0 ≤ℤ l → pos 0 ≤ℤ (l +ℤ pos 1)
    from g = omega (arith, lins)

    small : h ≤ℤ pos (19965300 * 2 ^ 36) → l ≤ℤ h → (l +ℤ pos 1) ≤ℤ pos 2305843009213693950
    small g k = omega (arith, ints)

    no : pos 5316911983139663487003542222693990400 ≤ℤ pos 0 → ⊥
    no g = omega (arith, ints)

-- ---- what the code takes: s = 2^12 μ, and the box of a point
scaled_root : (s l h : ℤ) → pos 0 ≤ℤ l → l ≤ℤ h → (s *ℤ pos (2 ^ 60) *ℤ (pos (2 ^ 60) -ℤ pos 1)) <ℤ (((l +ℤ pos 1) *ℤ (l +ℤ pos 1)) *ℤ pos (2 ^ 60)) →
    (pos 0 <ℤ h → (((h -ℤ pos 1) *ℤ (h -ℤ pos 1)) *ℤ pos (2 ^ 60)) <ℤ (s *ℤ pos (2 ^ 60) *ℤ (pos (2 ^ 60) +ℤ pos 1))) → IsRootBox (s *ℤ pos (2 ^ 60)) l h
scaled_root s l h a b c d = record { low = a; ordered = b; near_low = c; near_high = d }

pub root_box : (s a b l h : ℤ) → a ≡ s → b ≡ s → s ≤ℤ pos (398600500000000 * 2 ^ 12) → pos 0 ≤ℤ l → l ≤ℤ h →
    (a *ℤ pos (2 ^ 60) *ℤ (pos (2 ^ 60) -ℤ pos 1)) <ℤ (((l +ℤ pos 1) *ℤ (l +ℤ pos 1)) *ℤ pos (2 ^ 60)) →
    (pos 0 <ℤ h → (((h -ℤ pos 1) *ℤ (h -ℤ pos 1)) *ℤ pos (2 ^ 60)) <ℤ (b *ℤ pos (2 ^ 60) *ℤ (pos (2 ^ 60) +ℤ pos 1))) →
    (neg_ℤ (pos (19965300 * 2 ^ 36)) ≤ℤ l) × (h ≤ℤ pos (19965300 * 2 ^ 36)) × ((h -ℤ l) ≤ℤ pos 3)
root_box s a b l h e f m lo o near_low near_high =
    let is_root : IsRootBox (s *ℤ pos (2 ^ 60)) l h =
    scaled_root s l h lo o
    (subst (λ (z : ℤ). (z *ℤ pos (2 ^ 60) *ℤ (pos (2 ^ 60) -ℤ pos 1)) <ℤ (((l +ℤ pos 1) *ℤ (l +ℤ pos 1)) *ℤ pos (2 ^ 60))) e near_low)
    (λ g. subst (λ (z : ℤ). (((h -ℤ pos 1) *ℤ (h -ℤ pos 1)) *ℤ pos (2 ^ 60)) <ℤ (z *ℤ pos (2 ^ 60) *ℤ (pos (2 ^ 60) +ℤ pos 1))) f (near_high g)) in
    let high : h ≤ℤ pos (19965300 * 2 ^ 36) = root_high (s *ℤ pos (2 ^ 60)) l h is_root (mul_le_right (pos (2 ^ 60)) s (pos (398600500000000 * 2 ^ 12)) (omega (arith, ints)) m) in
    (root_low (s *ℤ pos (2 ^ 60)) l h is_root, high, root_narrow (s *ℤ pos (2 ^ 60)) l h is_root high)

-- μ lies in the box of the point
pub point_of_mu : (mu s a b : ℤ) → s ≡ mu *ℤ pos 4096 → a ≡ s → b ≡ s → InBox 12 a b (of_whole mu)
point_of_mu mu s a b e f g = (step a f, turned b g)
  where
    step : (a : ℤ) → a ≡ s → (a *ℤ pos 1) ≤ℤ (mu *ℤ pos 4096)
    step a f = omega (arith, ints, e, f)

    turned : (b : ℤ) → b ≡ s → (mu *ℤ pos 4096) ≤ℤ (b *ℤ pos 1)
    turned b g = omega (arith, ints, e, g)

pub record IsScaled (mu s : ℤ) : Type 0 where
  pub value : s ≡ mu *ℤ pos 4096
  pub low : pos 0 ≤ℤ s
  pub high : s ≤ℤ pos (398600500000000 * 2 ^ 12)

pub product_is : (mu : ℤ) → pos 398600441800000 ≤ℤ mu → mu ≤ℤ pos 398600500000000 → IsScaled mu (to_z w64 (of_z w64 (to_z w64 (of_z w64 mu) *ℤ pos 4096)))
product_is mu h g = record { value = omega (arith, ints); low = omega (arith, ints); high = omega (arith, ints) }
