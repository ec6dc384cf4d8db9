-- Directions near the sphere: how large their coordinates are, and that the direction of pairs near the circle is one.
use Rattle.std.proofs.Common.{ℕ, ◌*◌, ◌^◌, ◌≤◌, List, [], ◌∷◌, pos, ◌≤ℤ◌, refl, lit≤}
use Rattle.std.proofs.Math.Logic.{∥∥₁_elim, ∥∥₁_map, ∥∥₁_prop}
use Rattle.std.proofs.Props.{props}
use Rattle.whole_math.proofs.Ring.{Ex, va, ◌⊕◌, ◌⊖◌, ◌⊗◌}
use Rattle.whole_math.proofs.Order.{le_pos}
use Rattle.whole_math.proofs.Inequalities.{nat}
use Rattle.whole_math.proofs.Certificates.{Hy, Ce, ◌≼◌, hy, nm, sq, ◌⊞◌, ◌⊠◌}
use Rattle.whole_math.specs.Rational.{Rational, ◌≤ʳ◌, of_whole, ◌+ʳ◌, ◌-ʳ◌, ◌*ʳ◌}
use Rattle.whole_math.specs.Boxes.{of_scale}
use Rattle.whole_math.proofs.RationalOrders.{order_r, AreGiven}
use Rattle.iv_core.specs.declared.Iv.{Iv}
use Rattle.iv_core.specs.Intervals.{width_of, IsWithin}
use Rattle.trig_box.specs.AnglePairs.{Pair}
use Rattle.orbit_model.specs.Solution.{one}
use Rattle.orbit_place.specs.Rotations.{HasPairNearCircle, HoldsBoth, IsNearCircle}
use Rattle.orbit_place.proofs.Circle.{part_size}
use Rattle.orbit_place.proofs.Reaches.{part_within}
use Rattle.orbit_place.specs.Directions.{direction, HoldsPoint, IsNearSphere, HasPointNearSphere}

-- ---- how far the boxes reach
-- x² with what is left of the sum of squares
rests : (a b c bound : Rational) → a *ʳ a +ʳ b *ʳ b +ʳ c *ʳ c -ʳ one ≤ʳ bound →
    (a *ʳ a +ʳ (b *ʳ b +ʳ c *ʳ c) -ʳ one ≤ʳ bound) × (b *ʳ b +ʳ (a *ʳ a +ʳ c *ʳ c) -ʳ one ≤ʳ bound)
    × (c *ʳ c +ʳ (a *ʳ a +ʳ b *ʳ b) -ʳ one ≤ʳ bound)
rests a b c bound h =
    let values : List Rational = a ∷ b ∷ c ∷ bound ∷ [] in
    let x : Ex = va 0 ⊗ va 0 in
    let y : Ex = va 1 ⊗ va 1 in
    let z : Ex = va 2 ⊗ va 2 in
    let hypotheses : List Hy = (x ⊕ y ⊕ z ⊖ nat 1 ≼ va 3) ∷ [] in (
      order_r values hypotheses [] (x ⊕ (y ⊕ z) ⊖ nat 1) (va 3) (hy 0) [] refl (h, tt) tt,
      order_r values hypotheses [] (y ⊕ (x ⊕ z) ⊖ nat 1) (va 3) (hy 0) [] refl (h, tt) tt,
      order_r values hypotheses [] (z ⊕ (x ⊕ y) ⊖ nat 1) (va 3) (hy 0) [] refl (h, tt) tt,
    )

nonneg : (a b : Rational) → of_whole (pos 0) ≤ʳ a *ʳ a +ʳ b *ʳ b
nonneg a b = order_r (a ∷ b ∷ []) [] [] (nat 0) (va 0 ⊗ va 0 ⊕ va 1 ⊗ va 1) (sq (va 0) ⊞ sq (va 1)) [] refl tt tt

pub all_within : (off w : ℕ) (a b c : Iv 60) → ∥ HasPointNearSphere off a b c ∥₁ → off ≤ 32 → width_of a ≤ℤ pos w → width_of b ≤ℤ pos w → width_of c ≤ℤ pos w → w ≤ 2 ^ 40 →
    IsWithin (1025 * 2 ^ 50) a × IsWithin (1025 * 2 ^ 50) b × IsWithin (1025 * 2 ^ 50) c
all_within off w a b c has close an bn cn f = ∥∥₁_elim has (hlevel props) go
  where
    go : HasPointNearSphere off a b c → IsWithin (1025 * 2 ^ 50) a × IsWithin (1025 * 2 ^ 50) b × IsWithin (1025 * 2 ^ 50) c
    go h =
        let x : Rational = h.point.x in
        let y : Rational = h.point.y in
        let z : Rational = h.point.z in
        let both_rests = rests x y z (of_scale 16 (pos off)) h.near.0 in (
          part_within w a x (part_size off (y *ʳ y +ʳ z *ʳ z) x close both_rests.0 (nonneg y z)) h.held.0 an f,
          part_within w b y (part_size off (x *ʳ x +ʳ z *ʳ z) y close both_rests.1 (nonneg x z)) h.held.1 bn f,
          part_within w c z (part_size off (x *ʳ x +ʳ y *ʳ y) z close both_rests.2 (nonneg x y)) h.held.2 cn f,
        )

-- ---- with P = cos²u + sin²u cos²i the squared length is P (cos²Ω + sin²Ω) + sin²u sin²i
pub direction_near : (u i n : Pair) → IsNearCircle 6 u → IsNearCircle 1 i → IsNearCircle 4 n → IsNearSphere 12 (direction u i n)
direction_near u i n hu hi hn = (
  order_r numbers orders [] (length ⊖ nat 1) (va 9) (apart (hy 0) (hy 3) (hy 6)) [] refl known tt,
  order_r numbers orders [] (nat 1 ⊖ length) (va 9) (apart (hy 1) (hy 4) (hy 7)) [] refl known tt,
)
  where
    unit : Rational
    unit = of_scale 16 (pos 1)

    numbers : List Rational
    numbers = u.cos ∷ u.sin ∷ i.cos ∷ i.sin ∷ n.cos ∷ n.sin ∷ unit ∷ of_scale 16 (pos 4) ∷ of_scale 16 (pos 6) ∷ of_scale 16 (pos 12) ∷ []

    -- cos u, sin u cos i, sin u sin i
    ahead : Ex
    ahead = va 0

    across : Ex
    across = va 1 ⊗ va 2

    up : Ex
    up = va 1 ⊗ va 3

    length : Ex
    length = (ahead ⊗ va 4 ⊖ across ⊗ va 5) ⊗ (ahead ⊗ va 4 ⊖ across ⊗ va 5) ⊕ (ahead ⊗ va 5 ⊕ across ⊗ va 4) ⊗ (ahead ⊗ va 5 ⊕ across ⊗ va 4) ⊕ up ⊗ up

    norm : Ex → Ex → Ex
    norm c s = c ⊗ c ⊕ s ⊗ s

    orders : List Hy
    orders =
        (norm (va 4) (va 5) ⊖ nat 1 ≼ va 7) ∷ (nat 1 ⊖ norm (va 4) (va 5) ≼ va 7) ∷ (va 7 ≼ nat 4 ⊗ va 6)
        ∷ (norm (va 0) (va 1) ⊖ nat 1 ≼ va 8) ∷ (nat 1 ⊖ norm (va 0) (va 1) ≼ va 8) ∷ (va 8 ≼ nat 6 ⊗ va 6)
        ∷ (norm (va 2) (va 3) ⊖ nat 1 ≼ va 6) ∷ (nat 1 ⊖ norm (va 2) (va 3) ≼ va 6)
        ∷ (nat 12 ⊗ va 6 ≼ va 9) ∷ (nat 58 ⊗ va 6 ≼ nat 1) ∷ (va 6 ≼ nat 1) ∷ (nat 0 ≼ va 6) ∷ []

    known : AreGiven numbers orders
    known = (
      hn.0,
      (
        hn.1,
        (
          le_pos _ _ (lit≤ tt),
          (
            hu.0,
            (
              hu.1,
              (
                le_pos _ _ (lit≤ tt),
                (hi.0, (hi.1, (le_pos _ _ (lit≤ tt), (le_pos _ _ (lit≤ tt), (le_pos _ _ (lit≤ tt), (le_pos _ _ (lit≤ tt), tt)))))),
              ),
            ),
          ),
        ),
      ),
    )

    -- 6 - 4 P - sin²u
    room : Ce
    room = nm 4 ⊠ sq (va 1) ⊠ hy 6 ⊞ nm 4 ⊠ sq up ⊞ sq ahead ⊠ (nm 1 ⊞ nm 4 ⊠ hy 11) ⊞ (hy 3 ⊞ hy 5) ⊠ (nm 5 ⊞ nm 4 ⊠ hy 11) ⊞ hy 9 ⊞ nm 24 ⊠ hy 11 ⊠ hy 10

    apart : Ce → Ce → Ce → Ce
    apart turn along tilt = hy 8 ⊞ (sq ahead ⊞ sq across) ⊠ (turn ⊞ hy 2) ⊞ along ⊞ hy 5 ⊞ sq (va 1) ⊠ tilt ⊞ hy 11 ⊠ room

pub has_direction : (uc us ic is nc ns a b c : Iv 60) → ((u i n : Pair) → HoldsBoth uc us u → HoldsBoth ic is i → HoldsBoth nc ns n → HoldsPoint a b c (direction u i n)) →
    ∥ HasPairNearCircle 6 uc us ∥₁ → ∥ HasPairNearCircle 1 ic is ∥₁ → ∥ HasPairNearCircle 4 nc ns ∥₁ → ∥ HasPointNearSphere 12 a b c ∥₁
has_direction uc us ic is nc ns a b c holds hu hi hn =
    ∥∥₁_elim hu ∥∥₁_prop (λ x. ∥∥₁_elim hi ∥∥₁_prop (λ y. ∥∥₁_map hn (λ z. record {
      point = direction x.pair y.pair z.pair;
      held = holds x.pair y.pair z.pair x.held y.held z.held;
      near = direction_near x.pair y.pair z.pair x.near y.near z.near;
    })))
