-- How large the radius is at least, from one radius in its box.
use Rattle.std.proofs.Common.{◌-◌, ◌*◌, ◌^◌, [], ◌∷◌, ℤ, pos, ◌-ℤ◌, ◌≤ℤ◌, arith, refl, lit≤}
use Rattle.std.proofs.lemmas.Int.{ints}
use Rattle.whole_math.proofs.Ring.{va, ◌⊕◌, ◌⊗◌, ng}
use Rattle.whole_math.proofs.Order.{le_pos}
use Rattle.whole_math.proofs.Inequalities.{nat}
use Rattle.whole_math.proofs.Certificates.{◌≼◌, hy, ◌⊞◌, ◌⊠◌}
use Rattle.whole_math.specs.Rational.{Rational, ◌≤ʳ◌, of_whole, ◌+ʳ◌, ◌*ʳ◌}
use Rattle.whole_math.specs.Boxes.{of_scale}
use Rattle.whole_math.proofs.RationalOrders.{order_r}
use Rattle.whole_math.proofs.Ends.{size_of_box, low_end}
use Rattle.iv_core.specs.declared.Iv.{Iv}
use Rattle.iv_core.specs.Intervals.{Holds, width_of, IsWithin}
use Rattle.iv_core.proofs.BoxLaws.{low_held}

-- A of at least 20249999 m times a share of at least 1 - 1025/32768, less a correction of at most 20020 m
pub radius_least : (axis : Iv 36) (share : Iv 60) (change radius : Iv 36) → pos (20249999 * 2 ^ 36) ≤ℤ axis.lo → pos (2 ^ 60 - 1025 * 2 ^ 45) ≤ℤ share.lo → IsWithin (20020 * 2 ^ 36) change →
    width_of radius ≤ℤ pos 143 → ((x y z : Rational) → Holds axis x → Holds share y → Holds change z → Holds radius (x *ʳ y +ʳ z)) → pos (19590000 * 2 ^ 36) ≤ℤ radius.lo
radius_least axis share change radius h k s w holds = down radius.lo (low_end 36 radius.lo radius.hi (pos 143)
    (pos (19590001 * 2 ^ 36)) (x *ʳ y +ʳ z) w above (holds x y z (low_held axis) (low_held share) (low_held change)))
  where
    x : Rational
    x = of_scale 36 axis.lo

    y : Rational
    y = of_scale 60 share.lo

    z : Rational
    z = of_scale 36 change.lo

    -- the least of each
    a : Rational
    a = of_whole (pos 20249999)

    b : Rational
    b = of_scale 60 (pos (2 ^ 60 - 1025 * 2 ^ 45))

    c : Rational
    c = of_scale 36 (pos (20020 * 2 ^ 36))

    least : Rational
    least = of_scale 36 (pos (19590001 * 2 ^ 36))

    axis_high : (lo : ℤ) → pos (20249999 * 2 ^ 36) ≤ℤ lo → of_whole (pos 20249999) ≤ʳ of_scale 36 lo
    axis_high lo h = omega (arith, ints)

    share_high : (lo : ℤ) → pos (2 ^ 60 - 1025 * 2 ^ 45) ≤ℤ lo → of_scale 60 (pos (2 ^ 60 - 1025 * 2 ^ 45)) ≤ʳ of_scale 60 lo
    share_high lo h = omega (arith, ints)

    above : least ≤ʳ x *ʳ y +ʳ z
    above = order_r (x ∷ y ∷ z ∷ a ∷ b ∷ c ∷ least ∷ [])
        ((va 3 ≼ va 0) ∷ (va 4 ≼ va 1) ∷ (ng (va 2) ≼ va 5) ∷ (nat 0 ≼ va 3) ∷ (nat 0 ≼ va 4) ∷ (va 6 ⊕ va 5 ≼ va 3 ⊗ va 4) ∷ []) []
        (va 6) (va 0 ⊗ va 1 ⊕ va 2) (hy 5 ⊞ hy 2 ⊞ hy 0 ⊠ hy 1 ⊞ hy 0 ⊠ hy 4 ⊞ hy 3 ⊠ hy 1) [] refl (
          axis_high axis.lo h,
          (
            share_high share.lo k,
            (
              (size_of_box 36 (20020 * 2 ^ 36) change.lo change.hi z s.0 s.1 (low_held change)).1,
              (le_pos _ _ (lit≤ tt), (le_pos _ _ (lit≤ tt), (le_pos _ _ (lit≤ tt), tt))),
            ),
          ),
        ) tt

    down : (lo : ℤ) → (pos (19590001 * 2 ^ 36) -ℤ pos 143) ≤ℤ lo → pos (19590000 * 2 ^ 36) ≤ℤ lo
    down lo h = omega (arith, ints)
