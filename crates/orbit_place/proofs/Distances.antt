-- How far the places in the boxes are from the Earth's centre, from one of them: a radius times a direction near the sphere.
use Rattle.std.proofs.Common.{◌≡◌, ℕ, zero, suc, ◌*◌, ◌^◌, ◌<◌, get_or, List, [], ◌∷◌, ℤ, pos, ◌-ℤ◌, ◌*ℤ◌, ◌≤ℤ◌, arith, refl, lit≤}
use Rattle.std.proofs.lemmas.Int.{ints}
use Rattle.std.proofs.Math.Logic.{∥∥₁_elim}
use Rattle.std.proofs.Props.{props}
use Rattle.whole_math.proofs.Ring.{Ex, va, ◌⊕◌, ◌⊖◌, ◌⊗◌}
use Rattle.whole_math.proofs.Order.{le_pos}
use Rattle.whole_math.proofs.Inequalities.{nat}
use Rattle.whole_math.proofs.Certificates.{Hy, Ce, ◌≼◌, hy, nm, sq, ◌⊞◌, ◌⊠◌}
use Rattle.whole_math.specs.Rational.{Rational, ◌≤ʳ◌, of_whole, ◌-ʳ◌, ◌*ʳ◌, AreWithin}
use Rattle.whole_math.specs.Boxes.{of_scale}
use Rattle.whole_math.proofs.RationalOrders.{order_r, cancel_r, AreGiven}
use Rattle.iv_core.specs.declared.Iv.{Iv}
use Rattle.iv_core.specs.Intervals.{Holds, width_of, IsWithin}
use Rattle.iv_core.proofs.BoxLaws.{low_held}
use Rattle.orbit_model.specs.Solution.{one}
use Rattle.orbit_model.specs.Places.{squared_distance, IsBetweenDistances}
use Rattle.orbit_place.specs.Directions.{Point, IsNearSphere, HasPointNearSphere, HoldsPoint}

-- ---- two numbers in one narrow box
pub near_in_box : (b : Iv 36) (x y : Rational) → width_of b ≤ℤ pos (2 ^ 18) → Holds b x → Holds b y → x -ʳ y ≤ʳ one
near_in_box b x y w h k =
    order_r (x ∷ y ∷ of_scale 36 b.lo ∷ of_scale 36 b.hi ∷ []) ((va 0 ≼ va 3) ∷ (va 2 ≼ va 1) ∷ (va 3 ⊖ va 2 ≼ nat 1) ∷ []) [] (va 0 ⊖ va 1) (nat 1)
    (hy 0 ⊞ hy 1 ⊞ hy 2) [] refl (h.1, (k.0, (ends b.lo b.hi w, tt))) tt
  where
    ends : (l h : ℤ) → (h -ℤ l) ≤ℤ pos (2 ^ 18) → of_scale 36 h -ʳ of_scale 36 l ≤ʳ one
    ends l h w = omega (arith, ints)

-- ---- a place within 1 m in each coordinate of r times d, with r from 19590 km to 37150 km and d near the sphere
pub record IsNearPlace (r x y z : Rational) (d : Point) : Type 0 where
  pub near_sphere : IsNearSphere 12 d
  pub low : of_whole (pos 19590000) ≤ʳ r
  pub high : r ≤ʳ of_whole (pos 37150000)
  pub x_near : AreWithin one x (r *ʳ d.x)
  pub y_near : AreWithin one y (r *ʳ d.y)
  pub z_near : AreWithin one z (r *ʳ d.z)

-- with e the difference of a coordinate from that of r d, 64 (r d + e)² is at least 63 (r d)² - 4032 e² and at most 65 (r d)² + 4160 e²
pub between : (r x y z : Rational) (d : Point) → IsNearPlace r x y z d →
    (of_whole (pos 19000000 *ℤ pos 19000000) ≤ʳ squared_distance x y z) × (squared_distance x y z ≤ʳ of_whole (pos 38000000 *ℤ pos 38000000))
between r x y z d h = (
  cancel_r (of_whole (pos 6400)) (of_whole (pos 361000000000000)) (squared_distance x y z) (omega (arith, ints))
      (order_r numbers orders [] (nat 6400 ⊗ nat 361000000000000) (nat 6400 ⊗ square) low [] refl known tt),
  cancel_r (of_whole (pos 6400)) (squared_distance x y z) (of_whole (pos 1444000000000000)) (omega (arith, ints))
      (order_r numbers orders [] (nat 6400 ⊗ square) (nat 6400 ⊗ nat 1444000000000000) high [] refl known tt),
)
  where
    numbers : List Rational
    numbers = r ∷ d.x ∷ d.y ∷ d.z ∷ x ∷ y ∷ z ∷ of_scale 16 (pos 12) ∷ []

    square : Ex
    square = va 4 ⊗ va 4 ⊕ va 5 ⊗ va 5 ⊕ va 6 ⊗ va 6

    norm : Ex
    norm = va 1 ⊗ va 1 ⊕ va 2 ⊗ va 2 ⊕ va 3 ⊗ va 3

    -- the coordinates of r d, and how far those of the place are from them
    a : Ex
    a = va 0 ⊗ va 1

    b : Ex
    b = va 0 ⊗ va 2

    c : Ex
    c = va 0 ⊗ va 3

    orders : List Hy
    orders =
        (norm ⊖ nat 1 ≼ va 7) ∷ (nat 1 ⊖ norm ≼ va 7) ∷ (nat 100 ⊗ va 7 ≼ nat 1) ∷ (nat 19590000 ≼ va 0) ∷ (va 0 ≼ nat 37150000)
        ∷ (va 4 ⊖ a ≼ nat 1) ∷ (a ⊖ va 4 ≼ nat 1) ∷ (va 5 ⊖ b ≼ nat 1) ∷ (b ⊖ va 5 ≼ nat 1) ∷ (va 6 ⊖ c ≼ nat 1) ∷ (c ⊖ va 6 ≼ nat 1) ∷ []

    known : AreGiven numbers orders
    known = (h.near_sphere.0, (h.near_sphere.1, (le_pos _ _ (lit≤ tt), (h.low, (h.high, (h.x_near.0, (h.x_near.1, (h.y_near.0, (h.y_near.1, (h.z_near.0, (h.z_near.1, tt)))))))))))

    -- 3 less the sum of the squares of the differences
    differences : Ce
    differences = hy 5 ⊠ hy 6 ⊞ hy 7 ⊠ hy 8 ⊞ hy 9 ⊠ hy 10

    low : Ce
    low =
        nm 100 ⊠ (sq (a ⊕ nat 64 ⊗ (va 4 ⊖ a)) ⊞ sq (b ⊕ nat 64 ⊗ (va 5 ⊖ b)) ⊞ sq (c ⊕ nat 64 ⊗ (va 6 ⊖ c))) ⊞ nm 403200 ⊠ differences
        ⊞ nm 6300 ⊠ sq (va 0) ⊠ hy 1 ⊞ nm 63 ⊠ sq (va 0) ⊠ hy 2 ⊞ nm 6237 ⊠ hy 3 ⊠ hy 3 ⊞ nm 244365660000 ⊠ hy 3 ⊞ nm 83161639698790400

    high : Ce
    high =
        nm 100 ⊠ (sq (a ⊖ nat 64 ⊗ (va 4 ⊖ a)) ⊞ sq (b ⊖ nat 64 ⊗ (va 5 ⊖ b)) ⊞ sq (c ⊖ nat 64 ⊗ (va 6 ⊖ c))) ⊞ nm 416000 ⊠ differences
        ⊞ nm 6500 ⊠ sq (va 0) ⊠ hy 0 ⊞ nm 65 ⊠ sq (va 0) ⊠ hy 2 ⊞ nm 6565 ⊠ hy 4 ⊠ (hy 4 ⊞ nm 2 ⊠ hy 3 ⊞ nm 39180000) ⊞ nm 181095787498752000

-- ---- the boxes: of the radius, of a direction and of the products
both_ways : (b : Iv 36) (x y : Rational) → width_of b ≤ℤ pos (2 ^ 18) → Holds b x → Holds b y → AreWithin one x y
both_ways b x y w h k = (near_in_box b x y w h k, near_in_box b y x w k h)

pub away : (radius : Iv 36) (dx dy dz : Iv 60) (a b c : Iv 36) → pos (19590000 * 2 ^ 36) ≤ℤ radius.lo → IsWithin (37150000 * 2 ^ 36) radius → ∥ HasPointNearSphere 12 dx dy dz ∥₁ →
    width_of a ≤ℤ pos (2 ^ 18) → width_of b ≤ℤ pos (2 ^ 18) → width_of c ≤ℤ pos (2 ^ 18) →
    ((r : Rational) (d : Point) → Holds radius r → HoldsPoint dx dy dz d → Holds a (r *ʳ d.x) × Holds b (r *ʳ d.y) × Holds c (r *ʳ d.z)) → IsBetweenDistances 19000000 38000000 a b c
away radius dx dy dz a b c least most has an bn cn holds = λ x y z hx hy hz. ∥∥₁_elim has (hlevel props) (λ p.
    let r : Rational = of_scale 36 radius.lo in
    let products_held = holds r p.point (low_held radius) p.held in
    between r x y z p.point (record {
      near_sphere = p.near;
      low = up radius.lo least;
      high = down radius.lo radius.hi radius.ordered most.1;
      x_near = both_ways a x (r *ʳ p.point.x) an hx products_held.0;
      y_near = both_ways b y (r *ʳ p.point.y) bn hy products_held.1;
      z_near = both_ways c z (r *ʳ p.point.z) cn hz products_held.2;
    }))
  where
    up : (l : ℤ) → pos (19590000 * 2 ^ 36) ≤ℤ l → of_whole (pos 19590000) ≤ʳ of_scale 36 l
    up l h = omega (arith, ints)

    down : (l h : ℤ) → l ≤ℤ h → h ≤ℤ pos (37150000 * 2 ^ 36) → of_scale 36 l ≤ʳ of_whole (pos 37150000)
    down l h o k = omega (arith, ints)

pub narrower : (w : ℤ) → w ≤ℤ pos 68155 → w ≤ℤ pos (2 ^ 18)
narrower w h = omega (arith, ints)

-- ---- a list of three
pub first_is : (a b c d e f : Iv 36) → d ∷ e ∷ f ∷ [] ≡ a ∷ b ∷ c ∷ [] → d ≡ a
first_is a b c d e f h = cc

pub second_is : (a b c d e f : Iv 36) → d ∷ e ∷ f ∷ [] ≡ a ∷ b ∷ c ∷ [] → e ≡ b
second_is a b c d e f h = cc

pub third_is : (a b c d e f : Iv 36) → d ∷ e ∷ f ∷ [] ≡ a ∷ b ∷ c ∷ [] → f ≡ c
third_is a b c d e f h = cc

pub all_narrow : (a b c : Iv 36) → width_of a ≤ℤ pos (2 ^ 18) → width_of b ≤ℤ pos (2 ^ 18) → width_of c ≤ℤ pos (2 ^ 18) → (k : ℕ) (d : Iv 36) → k < 3
    → width_of (get_or (a ∷ b ∷ c ∷ []) k d) ≤ℤ pos (2 ^ 18)
all_narrow a b c h i j zero d l = h
all_narrow a b c h i j (suc zero) d l = i
all_narrow a b c h i j (suc (suc zero)) d l = j
all_narrow a b c h i j (suc (suc (suc k))) d l = absurd (omega arith)
