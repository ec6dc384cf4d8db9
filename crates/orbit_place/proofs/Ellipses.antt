-- The boxes of the pair of the true anomaly hold every one, and one near the circle.
use Rattle.std.proofs.Common.{◌≡◌, ◌-◌, ◌*◌, ◌^◌, [], ◌∷◌, ℤ, pos, ◌*ℤ◌, ◌≤ℤ◌, ◌<ℤ◌, arith, refl, List, lit≤}
use Rattle.std.proofs.lemmas.Int.{ints}
use Rattle.std.proofs.Math.Logic.{∥∥₁_map}
use Rattle.whole_math.proofs.Ring.{Ex, va, ◌⊕◌, ◌⊖◌, ◌⊗◌, ng}
use Rattle.whole_math.proofs.Order.{le_pos}
use Rattle.whole_math.proofs.Inequalities.{nat}
use Rattle.whole_math.proofs.Certificates.{Hy, Ce, mul_positive, ◌≼◌, hy, nm, sq, ◌⊞◌, ◌⊠◌}
use Rattle.whole_math.specs.Rational.{Rational, ◌≈◌, ◌≤ʳ◌, of_whole, two_to_minus, ◌+ʳ◌, neg_r, ◌-ʳ◌, ◌*ʳ◌, AreWithin}
use Rattle.whole_math.specs.Boxes.{of_scale}
use Rattle.whole_math.proofs.RationalLaws.{≤ʳ_trans}
use Rattle.whole_math.proofs.RationalOrders.{order_r, cancel_r, AreGiven, Equation, ◌≐◌}
use Rattle.whole_math.proofs.RationalSizes.{positive_above}
use Rattle.whole_math.proofs.Ends.{size_of_box}
use Rattle.whole_math.proofs.RationalQuotients.{HasQuotient, quotient_exists}
use Rattle.iv_core.specs.declared.Iv.{Iv}
use Rattle.iv_core.specs.Intervals.{Holds, IsWithin}
use Rattle.iv_core.proofs.BoxLaws.{low_held}
use Rattle.trig_box.specs.AnglePairs.{Pair}
use Rattle.orbit_model.specs.Solution.{one}
use Rattle.orbit_place.specs.Rotations.{HasPairNearCircle, HoldsBoth, IsNearCircle}
use Rattle.orbit_place.proofs.Turns.{both_along}
use Rattle.orbit_place.specs.Ellipses.{IsTrueAnomaly}

-- ---- the norm: with q = 1 - e c, q² (N - 1) = (c² + s² - 1)(1 - e²) + (w² - 1 + e²) s²
abbrev pub radius_at : Rational → Pair → Rational
radius_at e p = one -ʳ e *ʳ p.cos

-- 15/16
abbrev pub least_radius : Rational
least_radius = of_scale 4 (pos 15)

-- what is known of e, of a pair p near the circle, of w near the root of 1 - e², and of the pair v of the true anomaly
pub record IsOnEllipse (e w : Rational) (p v : Pair) : Type 0 where
  pub near_circle : IsNearCircle 1 p
  pub near_root : AreWithin (two_to_minus 50) (w *ʳ w) (one -ʳ e *ʳ e)
  pub high : e ≤ʳ one
  pub low : neg_r e ≤ʳ one
  pub far : least_radius ≤ʳ radius_at e p
  pub anomaly : IsTrueAnomaly e w p v

pub true_near : (e w : Rational) (p v : Pair) → IsOnEllipse e w p v → IsNearCircle 2 v
true_near e w p v h = (
  cancel_r factor (norm -ʳ one) bound above (order_r numbers orders equations (f ⊗ (k ⊗ k ⊕ l ⊗ l ⊖ nat 1)) (f ⊗ va 8) (apart (hy 0) (hy 2))
      (ng first ∷ ng second ∷ []) refl known (h.anomaly.0, (h.anomaly.1, tt))),
  cancel_r factor (one -ʳ norm) bound above (order_r numbers orders equations (f ⊗ (nat 1 ⊖ (k ⊗ k ⊕ l ⊗ l))) (f ⊗ va 8) (apart (hy 1) (hy 3))
      (first ∷ second ∷ []) refl known (h.anomaly.0, (h.anomaly.1, tt))),
)
  where
    norm : Rational
    norm = v.cos *ʳ v.cos +ʳ v.sin *ʳ v.sin

    bound : Rational
    bound = of_scale 16 (pos 2)

    -- the off of p, and that of w
    unit : Rational
    unit = of_scale 16 (pos 1)

    slack : Rational
    slack = two_to_minus 50

    numbers : List Rational
    numbers = e ∷ p.cos ∷ p.sin ∷ w ∷ v.cos ∷ v.sin ∷ unit ∷ slack ∷ bound ∷ least_radius ∷ []

    -- e, the pairs (c, s) of p and (k, l) of v, q = 1 - e c
    c : Ex
    c = va 1

    k : Ex
    k = va 4

    l : Ex
    l = va 5

    q : Ex
    q = nat 1 ⊖ va 0 ⊗ c

    f : Ex
    f = nat 256 ⊗ q ⊗ q

    factor : Rational
    factor = of_whole (pos 256) *ʳ radius_at e p *ʳ radius_at e p

    above : pos 0 <ℤ factor.num
    above = let radius_positive = positive_above least_radius (radius_at e p) (omega (arith, ints)) h.far in
        mul_positive (pos 256 *ℤ (radius_at e p).num) (radius_at e p).num (mul_positive (pos 256) (radius_at e p).num (omega (arith, ints)) radius_positive) radius_positive

    orders : List Hy
    orders =
        (c ⊗ c ⊕ va 2 ⊗ va 2 ⊖ nat 1 ≼ va 6) ∷ (nat 1 ⊖ (c ⊗ c ⊕ va 2 ⊗ va 2) ≼ va 6) ∷ (va 3 ⊗ va 3 ⊖ (nat 1 ⊖ va 0 ⊗ va 0) ≼ va 7) ∷ (nat 1 ⊖ va 0 ⊗ va 0 ⊖ va 3 ⊗ va 3 ≼ va 7)
        ∷ (va 0 ≼ nat 1) ∷ (ng (va 0) ≼ nat 1) ∷ (va 6 ≼ nat 1) ∷ (nat 4 ⊗ va 7 ≼ va 6) ∷ (nat 0 ≼ va 7) ∷ (va 9 ≼ q) ∷ (nat 15 ≼ nat 16 ⊗ va 9) ∷ (va 6 ⊕ va 6 ≼ va 8) ∷ []

    known : AreGiven numbers orders
    known = (
      h.near_circle.0,
      (
        h.near_circle.1,
        (
          h.near_root.0,
          (
            h.near_root.1,
            (
              h.high,
              (
                h.low,
                (le_pos _ _ (lit≤ tt), (le_pos _ _ (lit≤ tt), (le_pos _ _ (lit≤ tt), (h.far, (le_pos _ _ (lit≤ tt), (le_pos _ _ (lit≤ tt), tt)))))),
              ),
            ),
          ),
        ),
      ),
    )

    equations : List Equation
    equations = (k ⊗ q ≐ c ⊖ va 0) ∷ (l ⊗ q ≐ va 3 ⊗ va 2) ∷ []

    first : Ex
    first = nat 256 ⊗ (k ⊗ q ⊕ (c ⊖ va 0))

    second : Ex
    second = nat 256 ⊗ (l ⊗ q ⊕ va 3 ⊗ va 2)

    -- 16 q - 15, and the off of p
    radius : Ce
    radius = nm 16 ⊠ hy 9 ⊞ hy 10

    off : Ce
    off = hy 7 ⊞ nm 4 ⊠ hy 8

    apart : Ce → Ce → Ce
    apart a b = nm 256 ⊠ (hy 4 ⊠ hy 5) ⊠ a ⊞ nm 256 ⊠ sq (va 2) ⊠ b ⊞ off ⊠ (nm 2 ⊠ radius ⊠ radius ⊞ nm 60 ⊠ radius) ⊞ nm 256 ⊠ off ⊠ sq (va 0)
        ⊞ nm 256 ⊠ hy 8 ⊠ (hy 0 ⊞ sq c ⊞ hy 6) ⊞ nm 128 ⊠ hy 7 ⊞ nm 66 ⊠ off ⊞ nm 256 ⊠ sq q ⊠ hy 11

-- ---- the boxes: of e, of the pair (c, s), of the root, of the radius, and of the pair of the true anomaly
pub record IsEllipseBox (ecc c s root radius cos sin : Iv 60) : Type 0 where
  pub small : IsWithin (2 ^ 55) ecc
  pub radius_holds : (e : Rational) (p : Pair) → Holds ecc e → HoldsBoth c s p → Holds radius (radius_at e p)
  pub radius_least : pos (2 ^ 60 - 1025 * 2 ^ 45) ≤ℤ radius.lo
  pub root_near : (e : Rational) → Holds ecc e → AreWithin (two_to_minus 50) (of_scale 60 root.lo *ʳ of_scale 60 root.lo) (one -ʳ e *ʳ e)
  pub quotients : (e w : Rational) (p v : Pair) → Holds ecc e → HoldsBoth c s p → Holds root w → IsTrueAnomaly e w p v → HoldsBoth cos sin v

far_out : (lo : ℤ) → pos (2 ^ 60 - 1025 * 2 ^ 45) ≤ℤ lo → least_radius ≤ʳ of_scale 60 lo
far_out lo h = omega (arith, ints)

pub has_true_pair : (ecc c s root radius cos sin : Iv 60) → IsEllipseBox ecc c s root radius cos sin → ∥ HasPairNearCircle 1 c s ∥₁ → ∥ HasPairNearCircle 2 cos sin ∥₁
has_true_pair ecc c s root radius cos sin b has = ∥∥₁_map has go
  where
    go : HasPairNearCircle 1 c s → HasPairNearCircle 2 cos sin
    go x =
        let e : Rational = of_scale 60 ecc.lo in
        let w : Rational = of_scale 60 root.lo in
        let p : Pair = x.pair in
        let far : least_radius ≤ʳ radius_at e p = ≤ʳ_trans least_radius (of_scale 60 radius.lo) (radius_at e p) (far_out radius.lo b.radius_least) (b.radius_holds e p (low_held ecc) x.held).0 in
        let above : pos 0 <ℤ (radius_at e p).num = positive_above least_radius (radius_at e p) (omega (arith, ints)) far in
        let cosine_quotient : HasQuotient (p.cos -ʳ e) (radius_at e p) = quotient_exists (p.cos -ʳ e) (radius_at e p) above in
        let sine_quotient : HasQuotient (w *ʳ p.sin) (radius_at e p) = quotient_exists (w *ʳ p.sin) (radius_at e p) above in
        let true_pair : Pair = record { cos = cosine_quotient.quotient; sin = sine_quotient.quotient } in
        let ecc_small = size_of_box 60 (2 ^ 55) ecc.lo ecc.hi e b.small.0 b.small.1 (low_held ecc) in
        record {
          pair = true_pair;
          held = b.quotients e w p true_pair (low_held ecc) x.held (low_held root) (cosine_quotient.is_quotient, sine_quotient.is_quotient);
          near = true_near e w p true_pair (record {
            near_circle = x.near;
            near_root = b.root_near e (low_held ecc);
            high = ≤ʳ_trans e limit one ecc_small.0 under_one;
            low = ≤ʳ_trans (neg_r e) limit one ecc_small.1 under_one;
            far = far;
            anomaly = (cosine_quotient.is_quotient, sine_quotient.is_quotient);
          });
        }
      where
        limit : Rational
        limit = of_scale 60 (pos (2 ^ 55))

        under_one : limit ≤ʳ one
        under_one = le_pos _ _ (lit≤ tt)

-- what the differences, products and quotients of the boxes give
pub quotients_held : (ecc c s c' s' root radius shifted shortened cos sin : Iv 60) → c' ≡ c → s' ≡ s →
    ((e : Rational) (p : Pair) → Holds ecc e → HoldsBoth c s p → Holds radius (radius_at e p)) →
    ((x y : Rational) → Holds c' x → Holds ecc y → Holds shifted (x -ʳ y)) → ((x y : Rational) → Holds root x → Holds s' y → Holds shortened (x *ʳ y)) →
    ((x y z : Rational) → Holds shifted x → Holds radius y → z *ʳ y ≈ x → Holds cos z) → ((x y z : Rational) → Holds shortened x → Holds radius y → z *ʳ y ≈ x → Holds sin z) →
    (e w : Rational) (p v : Pair) → Holds ecc e → HoldsBoth c s p → Holds root w → IsTrueAnomaly e w p v → HoldsBoth cos sin v
quotients_held ecc c s c' s' root radius shifted shortened cos sin ec es f g h i j e w p v ee pp ww a =
    let pair_held = both_along c' s' c s p ec es pp in
    let radius_held = f e p ee pp in
    (i (p.cos -ʳ e) (radius_at e p) v.cos (g p.cos e pair_held.0 ee) radius_held a.0, j (w *ʳ p.sin) (radius_at e p) v.sin (h w p.sin ww pair_held.1) radius_held a.1)

-- ---- the number 1 as a box
pub one_held : (b : Iv 60) → b.lo ≡ pos (2 ^ 60) → b.hi ≡ pos (2 ^ 60) → Holds b one
one_held b e f = (omega (arith, ints), omega (arith, ints))
