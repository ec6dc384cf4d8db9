-- How far the boxes of a rotation reach.
use Rattle.std.proofs.Common.{ℕ, ◌*◌, ◌^◌, ◌≤◌, [], ◌∷◌, pos, ◌+ℤ◌, ◌-ℤ◌, neg_ℤ, ◌≤ℤ◌, arith, refl, lit≤}
use Rattle.std.proofs.lemmas.Int.{ints}
use Rattle.std.proofs.Math.Logic.{∥∥₁_elim}
use Rattle.std.proofs.Props.{props}
use Rattle.whole_math.proofs.Ring.{va, ko, ◌⊕◌, ◌⊖◌, ◌⊗◌, ng}
use Rattle.whole_math.proofs.Order.{le_pos}
use Rattle.whole_math.specs.Rational.{Rational, ◌≤ʳ◌, of_whole, ◌+ʳ◌, neg_r, ◌-ʳ◌, ◌*ʳ◌, IsAtMostInSize}
use Rattle.whole_math.specs.Boxes.{of_scale}
use Rattle.whole_math.proofs.RationalLaws.{≤ʳ_trans, square_r-nonneg}
use Rattle.whole_math.proofs.RationalOrders.{order_r}
use Rattle.whole_math.proofs.Ends.{low_end, high_end}
use Rattle.whole_math.proofs.Certificates.{◌≼◌, hy, ◌⊞◌}
use Rattle.iv_core.specs.declared.Iv.{Iv}
use Rattle.iv_core.specs.Intervals.{Holds, width_of, IsWithin}
use Rattle.orbit_model.specs.Solution.{one}
use Rattle.orbit_place.specs.Rotations.{HasPairNearCircle}
use Rattle.orbit_place.proofs.Circle.{part_limit, part_size}

-- 1 + 2^-11 in units of 2^-60
abbrev pub part_units : Rational
part_units = of_scale 60 (pos (2049 * 2 ^ 49))

high_units : part_limit ≤ʳ part_units
high_units = le_pos _ _ (lit≤ tt)

low_units : (q : Rational) → neg_r q ≤ʳ part_limit → of_scale 60 (neg_ℤ (pos (2049 * 2 ^ 49))) ≤ʳ q
low_units q h =
    order_r (q ∷ part_limit ∷ part_units ∷ of_scale 60 (neg_ℤ (pos (2049 * 2 ^ 49))) ∷ []) ((va 3 ⊕ va 2 ≼ ko (pos 0)) ∷ (ko (pos 0) ⊖ va 0 ≼ va 1) ∷ (va 1 ≼ va 2) ∷ []) []
    (va 3) (va 0) (hy 0 ⊞ hy 1 ⊞ hy 2) [] refl (none, (turned q h, (high_units, tt))) tt
  where
    none : of_scale 60 (neg_ℤ (pos (2049 * 2 ^ 49))) +ʳ part_units ≤ʳ of_whole (pos 0)
    none = omega (arith, ints)

    turned : (q : Rational) → neg_r q ≤ʳ part_limit → of_whole (pos 0) -ʳ q ≤ʳ part_limit
    turned q h = order_r (q ∷ part_limit ∷ []) ((ng (va 0) ≼ va 1) ∷ []) [] (ko (pos 0) ⊖ va 0) (va 1) (hy 0) [] refl (h, tt) tt

pub part_within : (w : ℕ) (b : Iv 60) (q : Rational) → IsAtMostInSize part_limit q → Holds b q → width_of b ≤ℤ pos w → w ≤ 2 ^ 40 → IsWithin (1025 * 2 ^ 50) b
part_within w b q s h n f =
    let low = low_end 60 b.lo b.hi (pos w) (neg_ℤ (pos (2049 * 2 ^ 49))) q n (low_units q s.1) h in
    let high = high_end 60 b.lo b.hi (pos w) (pos (2049 * 2 ^ 49)) q n (≤ʳ_trans q part_limit part_units s.0 high_units) h in
    (down low, up high)
  where
    down : (neg_ℤ (pos (2049 * 2 ^ 49)) -ℤ pos w) ≤ℤ b.lo → neg_ℤ (pos (1025 * 2 ^ 50)) ≤ℤ b.lo
    down l = omega (arith, ints)

    up : b.hi ≤ℤ (pos (2049 * 2 ^ 49) +ℤ pos w) → b.hi ≤ℤ pos (1025 * 2 ^ 50)
    up l = omega (arith, ints)

pub both_within : (off w : ℕ) (cos sin : Iv 60) → ∥ HasPairNearCircle off cos sin ∥₁ → off ≤ 32 → width_of cos ≤ℤ pos w → width_of sin ≤ℤ pos w → w ≤ 2 ^ 40 →
    IsWithin (1025 * 2 ^ 50) cos × IsWithin (1025 * 2 ^ 50) sin
both_within off w cos sin has close cn sn f = ∥∥₁_elim has (hlevel props) go
  where
    go : HasPairNearCircle off cos sin → IsWithin (1025 * 2 ^ 50) cos × IsWithin (1025 * 2 ^ 50) sin
    go h =
        let c : Rational = h.pair.cos in
        let s : Rational = h.pair.sin in
        let rest_at_most : s *ʳ s +ʳ c *ʳ c -ʳ one ≤ʳ of_scale 16 (pos off) =
        order_r (c ∷ s ∷ of_scale 16 (pos off) ∷ []) ((va 0 ⊗ va 0 ⊕ va 1 ⊗ va 1 ⊖ ko (pos 1) ≼ va 2) ∷ []) [] (va 1 ⊗ va 1 ⊕ va 0 ⊗ va 0 ⊖ ko (pos 1)) (va 2) (hy 0) [] refl (h.near.0, tt) tt in (
          part_within w cos c (part_size off (s *ʳ s) c close h.near.0 (square_r-nonneg s)) h.held.0 cn f,
          part_within w sin s (part_size off (c *ʳ c) s close rest_at_most (square_r-nonneg c)) h.held.1 sn f,
        )
