-- The place on the grid: near every place of the boxes, and the mask's rule at it.
use Rattle.std.proofs.Common.{◌≡◌, ℕ, ◌*◌, ◌^◌, [], ◌∷◌, ℤ, pos, ◌+ℤ◌, ◌-ℤ◌, ◌*ℤ◌, ◌≤ℤ◌, ◌<ℤ◌, inl, inr, arith, lit<, refl, subst₂}
use Rattle.std.proofs.lemmas.Int.{ints, by_lt_z}
use Rattle.whole_math.specs.Rounding.{floor_div}
use Rattle.whole_math.proofs.Ring.{◌⊕◌, ◌⊖◌, ◌⊗◌}
use Rattle.whole_math.proofs.Order.{lins}
use Rattle.whole_math.proofs.Inequalities.{same_by, le_by, both_nn, prod_nn, less_nn, pos_nn, nat}
use Rattle.whole_math.proofs.Certificates.{cancel}
use Rattle.whole_math.proofs.Rounding.{floor_le, lt_floor}
use Rattle.whole_math.proofs.IntLaws.{mul_assoc_ℤ}
use Rattle.whole_math.specs.Rational.{Rational, of_whole, ◌-ʳ◌, ◌*ʳ◌, ◌+ʳ◌, divided, two_to_minus, AreWithin, InBox}
use Rattle.whole_math.specs.Boxes.{of_scale}
use Rattle.whole_math.specs.Over.{Over}
use Rattle.whole_math.proofs.Over.{over_add, over_mul, over_times, over_zero, over_le, over_lt}
use Rattle.orbit_model.specs.SeenPlaces.{Position, point_of, difference, dot, square, mask_side, height_side, IsAboveMask, IsBelowMask}
use Rattle.signal_travel.specs.Grid.{grid, offset, dot3, IsAboveWhole}

-- the place on the grid
abbrev pub grid_place : ℤ → ℤ → ℤ → Position
grid_place x y z = record { x = of_scale 17 (grid x); y = of_scale 17 (grid y); z = of_scale 17 (grid z) }

-- ---- near
grid_low : (lo : ℤ) → lo <ℤ (grid lo *ℤ pos 524288)
grid_low lo = let below_next_cell = lt_floor lo (2 ^ 19) (lit< tt) in go lo (floor_div lo (2 ^ 19)) below_next_cell
  where
    go : (lo f : ℤ) → lo <ℤ ((f *ℤ pos 524288) +ℤ pos 524288) → lo <ℤ ((f +ℤ pos 1) *ℤ pos 524288)
    go lo f h = omega (arith, ints)

grid_high : (lo : ℤ) → (grid lo *ℤ pos 524288) ≤ℤ (lo +ℤ pos 524288)
grid_high lo = let floor_at_most = floor_le lo (2 ^ 19) (lit< tt) in go lo (floor_div lo (2 ^ 19)) floor_at_most
  where
    go : (lo f : ℤ) → (f *ℤ pos 524288) ≤ℤ lo → ((f +ℤ pos 1) *ℤ pos 524288) ≤ℤ (lo +ℤ pos 524288)
    go lo f h = omega (arith, ints)

near_above : (g n m l : ℤ) → (g *ℤ pos 524288) ≤ℤ (l +ℤ pos 524288) → (l *ℤ m) ≤ℤ (n *ℤ pos 68719476736) → pos 0 ≤ℤ m → (((g *ℤ m) -ℤ (n *ℤ pos 131072)) *ℤ pos 131072) ≤ℤ (pos 1 *ℤ (pos 131072 *ℤ m))
near_above g n m l h k m0 = cancel (pos 524288) (((g *ℤ m) -ℤ (n *ℤ pos 131072)) *ℤ pos 131072) (pos 1 *ℤ (pos 131072 *ℤ m)) (omega (arith, ints))
    (le_by (g ∷ n ∷ m ∷ l ∷ []) (λ g n m l. (
      nat 524288 ⊗ ((g ⊗ m ⊖ n ⊗ nat 131072) ⊗ nat 131072),
      nat 524288 ⊗ (nat 1 ⊗ (nat 131072 ⊗ m)),
      nat 131072 ⊗ (m ⊗ (l ⊕ nat 524288 ⊖ g ⊗ nat 524288) ⊕ (n ⊗ nat 68719476736 ⊖ l ⊗ m)),
    )) refl
    (prod_nn (pos_nn 131072) (both_nn (prod_nn m0 (less_nn h)) (less_nn k))))

near_below : (g n m l h : ℤ) → l <ℤ (g *ℤ pos 524288) → (h -ℤ l) ≤ℤ pos 524288 → (n *ℤ pos 68719476736) ≤ℤ (h *ℤ m) → pos 0 ≤ℤ m
    → (((n *ℤ pos 131072) -ℤ (g *ℤ m)) *ℤ pos 131072) ≤ℤ (pos 1 *ℤ (m *ℤ pos 131072))
near_below g n m l h a w k m0 = cancel (pos 524288) (((n *ℤ pos 131072) -ℤ (g *ℤ m)) *ℤ pos 131072) (pos 1 *ℤ (m *ℤ pos 131072)) (omega (arith, ints))
    (le_by (g ∷ n ∷ m ∷ h ∷ []) (λ g n m h. (
      nat 524288 ⊗ ((n ⊗ nat 131072 ⊖ g ⊗ m) ⊗ nat 131072),
      nat 524288 ⊗ (nat 1 ⊗ (m ⊗ nat 131072)),
      nat 131072 ⊗ (m ⊗ (g ⊗ nat 524288 ⊕ nat 524288 ⊖ h) ⊕ (h ⊗ m ⊖ n ⊗ nat 68719476736)),
    )) refl
    (prod_nn (pos_nn 131072) (both_nn (prod_nn m0 (less_nn (reach g l h a w))) (less_nn k))))
  where
    reach : (g l h : ℤ) → l <ℤ (g *ℤ pos 524288) → (h -ℤ l) ≤ℤ pos 524288 → h ≤ℤ ((g *ℤ pos 524288) +ℤ pos 524288)
    reach g l h a w = omega (arith, lins)

pub grid_near : (lo hi : ℤ) (q : Rational) → (hi -ℤ lo) ≤ℤ pos (2 ^ 19) → InBox 36 lo hi q → AreWithin (two_to_minus 17) (of_scale 17 (grid lo)) q
grid_near lo hi q w b = (near_above (grid lo) q.num (pos q.den) lo (grid_high lo) b.0 (pos_nn q.den), near_below (grid lo) q.num (pos q.den) lo hi (grid_low lo) w b.1 (pos_nn q.den))

-- ---- the rule
-- x - p is the offset over 2^17 · 625
offset_over : (g p : ℤ) → Over (pos 81920000) ((pos 625 *ℤ g) -ℤ (pos 8192 *ℤ p)) (of_scale 17 g -ʳ divided (of_whole p) 10000 (lit< tt))
offset_over g p = same_by (g ∷ p ∷ []) (λ g p. ((g ⊗ nat 10000 ⊖ p ⊗ nat 131072) ⊗ nat 81920000, (nat 625 ⊗ g ⊖ nat 8192 ⊗ p) ⊗ nat 1310720000)) refl

point_over : (p : ℤ) → Over (pos 10000) p (divided (of_whole p) 10000 (lit< tt))
point_over p = refl

dot_over : (j k a b c p q r : ℤ) (v w : Position) → Over j a v.x → Over j b v.y → Over j c v.z → Over k p w.x → Over k q w.y → Over k r w.z → Over (j *ℤ k) (dot3 a b c p q r) (dot v w)
dot_over j k a b c p q r v w ea eb ec ep eq er =
    over_add (j *ℤ k) ((a *ℤ p) +ℤ (b *ℤ q)) (c *ℤ r) (v.x *ʳ w.x +ʳ v.y *ʳ w.y) (v.z *ʳ w.z)
    (over_add (j *ℤ k) (a *ℤ p) (b *ℤ q) (v.x *ʳ w.x) (v.y *ʳ w.y) (over_mul j k a p v.x w.x ea ep) (over_mul j k b q v.y w.y eb eq))
    (over_mul j k c r v.z w.z ec er)

-- both sides of the rule over one denominator
pub record AreSides (mask : ℕ) (d s t : ℤ) (seen point : Position) : Type 0 where
  pub rise : Over (pos 819200000000) d (dot (difference seen point) point)
  pub mask_is : Over (pos 671088640000000000000000) (pos (mask * mask) *ℤ (s *ℤ t)) (mask_side mask seen point)
  pub height_is : Over (pos 671088640000000000000000) (pos 1000000 *ℤ (d *ℤ d)) (height_side seen point)

pub sides : (mask : ℕ) (x y z p q r : ℤ) →
    AreSides mask (dot3 (offset x p) (offset y q) (offset z r) p q r)
    (dot3 (offset x p) (offset y q) (offset z r) (offset x p) (offset y q) (offset z r)) (dot3 p q r p q r) (grid_place x y z) (point_of p q r)
sides mask x y z p q r =
    let grid_point : Position = grid_place x y z in
    let point : Position = point_of p q r in
    let offset_vector : Position = difference grid_point point in
    let a : ℤ = offset x p in
    let b : ℤ = offset y q in
    let c : ℤ = offset z r in
    let first_over : Over (pos 81920000) a offset_vector.x = offset_over (grid x) p in
    let second_over : Over (pos 81920000) b offset_vector.y = offset_over (grid y) q in
    let third_over : Over (pos 81920000) c offset_vector.z = offset_over (grid z) r in
    let rise = dot_over (pos 81920000) (pos 10000) a b c p q r offset_vector point first_over second_over third_over (point_over p) (point_over q) (point_over r) in
    let offset_dot_over = dot_over (pos 81920000) (pos 81920000) a b c a b c offset_vector offset_vector first_over second_over third_over first_over second_over third_over in
    let point_dot_over = dot_over (pos 10000) (pos 10000) p q r p q r point point (point_over p) (point_over q) (point_over r) (point_over p) (point_over q) (point_over r) in
    let k : ℤ = dot3 a b c p q r in
    let m : ℤ = dot3 a b c a b c in
    let n : ℤ = dot3 p q r p q r in
    record {
      rise = rise;
      mask_is = over_times (pos 671088640000000000000000) (pos (mask * mask)) (m *ℤ n) (square offset_vector *ʳ square point) (over_mul (pos 6710886400000000) (pos 100000000) m n (square offset_vector) (square point) offset_dot_over point_dot_over);
      height_is = over_times (pos 671088640000000000000000) (pos 1000000) (k *ℤ k) (dot offset_vector point *ʳ dot offset_vector point) (over_mul (pos 819200000000) (pos 819200000000) k k (dot offset_vector point) (dot offset_vector point) rise rise);
    }

pub is_above : (mask : ℕ) (d s t : ℤ) (seen point : Position) → AreSides mask d s t seen point → pos 0 ≤ℤ d
    → ((pos (mask * mask) *ℤ s) *ℤ t) ≤ℤ ((pos 1000 *ℤ d) *ℤ (pos 1000 *ℤ d)) → IsAboveMask mask seen point
is_above mask d s t seen point e d0 h = (
  over_le 819200000000 819200000000 (pos 0) d (of_whole (pos 0)) (dot (difference seen point) point) (lit< tt) (lit< tt) (over_zero (pos 819200000000)) e.rise (positive d d0),
  over_le 671088640000000000000000 671088640000000000000000 (pos (mask * mask) *ℤ (s *ℤ t)) (pos 1000000 *ℤ (d *ℤ d)) (mask_side mask seen point)
      (height_side seen point) (lit< tt) (lit< tt) e.mask_is e.height_is (scaled (pos (mask * mask)) s t d h),
)
  where
    positive : (d : ℤ) → pos 0 ≤ℤ d → (pos 0 *ℤ pos 819200000000) ≤ℤ (d *ℤ pos 819200000000)
    positive d h = omega (arith, ints)

    scaled : (m s t d : ℤ) → ((m *ℤ s) *ℤ t) ≤ℤ ((pos 1000 *ℤ d) *ℤ (pos 1000 *ℤ d)) → ((m *ℤ (s *ℤ t)) *ℤ pos 671088640000000000000000) ≤ℤ ((pos 1000000 *ℤ (d *ℤ d)) *ℤ pos 671088640000000000000000)
    scaled m s t d h = le_by (m ∷ s ∷ t ∷ d ∷ []) (λ m s t d. (
      m ⊗ (s ⊗ t) ⊗ nat 671088640000000000000000,
      nat 1000000 ⊗ (d ⊗ d) ⊗ nat 671088640000000000000000,
      nat 671088640000000000000000 ⊗ (nat 1000 ⊗ d ⊗ (nat 1000 ⊗ d) ⊖ m ⊗ s ⊗ t),
    )) refl (prod_nn (pos_nn 671088640000000000000000) (less_nn h))

pub falls : (mask : ℕ) (d s t : ℤ) (seen point : Position) → AreSides mask d s t seen point → d <ℤ pos 0 → IsBelowMask mask seen point
falls mask d s t seen point e h = inl (over_lt 819200000000 819200000000 d (pos 0) (dot (difference seen point) point) (of_whole (pos 0)) (lit< tt)
    (lit< tt) e.rise (over_zero (pos 819200000000)) (negative d h))
  where
    negative : (d : ℤ) → d <ℤ pos 0 → (d *ℤ pos 819200000000) <ℤ (pos 0 *ℤ pos 819200000000)
    negative d h = omega (arith, ints)

pub is_low : (mask : ℕ) (d s t : ℤ) (seen point : Position) → AreSides mask d s t seen point → ((pos 1000 *ℤ d) *ℤ (pos 1000 *ℤ d)) <ℤ ((pos (mask * mask) *ℤ s) *ℤ t) → IsBelowMask mask seen point
is_low mask d s t seen point e h = inr (over_lt 671088640000000000000000 671088640000000000000000
    (pos 1000000 *ℤ (d *ℤ d)) (pos (mask * mask) *ℤ (s *ℤ t)) (height_side seen point) (mask_side mask seen point) (lit< tt) (lit< tt) e.height_is e.mask_is
    (subst₂ (λ (u v : ℤ). (u *ℤ pos 671088640000000000000000) <ℤ (v *ℤ pos 671088640000000000000000)) (left d) (mul_assoc_ℤ (pos (mask * mask)) s t)
    (wide ((pos 1000 *ℤ d) *ℤ (pos 1000 *ℤ d)) ((pos (mask * mask) *ℤ s) *ℤ t) h)))
  where
    wide : (u v : ℤ) → u <ℤ v → (u *ℤ pos 671088640000000000000000) <ℤ (v *ℤ pos 671088640000000000000000)
    wide u v h = omega (arith, ints)

    left : (d : ℤ) → (pos 1000 *ℤ d) *ℤ (pos 1000 *ℤ d) ≡ pos 1000000 *ℤ (d *ℤ d)
    left d = same_by (d ∷ []) (λ d. (nat 1000 ⊗ d ⊗ (nat 1000 ⊗ d), nat 1000000 ⊗ (d ⊗ d))) refl

-- one of the two
pub decided_place : (T : Type 0) (mask : ℕ) (x y z p q r : ℤ) → (T → ⊥) → (IsAboveWhole mask (offset x p) (offset y q) (offset z r) p q r → T) → IsBelowMask mask (grid_place x y z) (point_of p q r)
decided_place T mask x y z p q r untrue up =
    let d : ℤ = dot3 (offset x p) (offset y q) (offset z r) p q r in
    let s : ℤ = dot3 (offset x p) (offset y q) (offset z r) (offset x p) (offset y q) (offset z r) in
    let t : ℤ = dot3 p q r p q r in
    let are_sides = sides mask x y z p q r in
    by_lt_z d (pos 0)
    (λ l. falls mask d s t (grid_place x y z) (point_of p q r) are_sides l)
    (λ l. by_lt_z ((pos 1000 *ℤ d) *ℤ (pos 1000 *ℤ d)) ((pos (mask * mask) *ℤ s) *ℤ t)
    (λ k. is_low mask d s t (grid_place x y z) (point_of p q r) are_sides k)
    (λ k. absurd (untrue (up (l, k)))))
