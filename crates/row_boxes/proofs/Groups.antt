-- Groups and shifts: what follows from the nearest whole numbers.
use Rattle.std.proofs.Common.{◌≡◌, ℕ, ◌*◌, ◌^◌, ◌<◌, [], ◌∷◌, ℤ, pos, ◌+ℤ◌, ◌-ℤ◌, ◌*ℤ◌, neg_ℤ, ◌≤ℤ◌, arith, refl}
use Rattle.std.proofs.lemmas.Int.{ints}
use Rattle.whole_math.proofs.Ring.{va, ko, ng, ◌⊕◌, ◌⊖◌, ◌⊗◌}
use Rattle.whole_math.proofs.Order.{mul_le_right, mul_le_cancel}
use Rattle.whole_math.proofs.Inequalities.{same_by, pos_nn}
use Rattle.whole_math.proofs.IntLaws.{neg_mul_ℤ, mul_comm_ℤ}
use Rattle.whole_math.specs.Rational.{Rational, ◌≈◌, of_whole, ◌-ʳ◌, Near}
use Rattle.whole_math.proofs.RationalLaws.{≤ʳ_along}
use Rattle.whole_math.proofs.Boxes.{Near-along}
use Rattle.whole_math.proofs.RationalOrders.{equal_r, ◌≐◌}
use Rattle.obs_rows.specs.Signals.{wavelength}
use Rattle.row_boxes.specs.Terms.{prefit_width}
use Rattle.row_boxes.specs.Sightings.{observed, in_row_unit, row_unit, Sighting, computed, y_of, y_in_rows}
use Rattle.row_boxes.specs.YBoxes.{Pairing, AreSightings, HasSightings, MeetsOne, IsRowGroup, IsWithinHalf, IsWithinCycle, row_radius}
use Rattle.row_boxes.proofs.Ys.{group_moved, whole_sum}

-- what is within half an ι is at most this, in 2^-15 ι
abbrev half_more : ℤ
half_more = pos (2 ^ 14) +ℤ prefit_width

-- the far end of a row's box that meets that from -1 to 1 ι, in the unit of a fine row
abbrev reach : ℤ
reach = pos (2 ^ 13) +ℤ (pos 2 *ℤ row_radius 0)

-- both, in 2^-15 ι
abbrev both_reach : ℤ
both_reach = half_more +ℤ (pos 4 *ℤ reach)

-- ---- what is near 0 meets the box from -1 to 1 ι
low_meets : (x n : ℤ) (e d : ℕ) → 0 < d → (x *ℤ pos (e * d)) ≤ℤ ((pos 8192 *ℤ n) *ℤ pos 1) → (n *ℤ pos 32768) ≤ℤ (half_more *ℤ pos d) → (pos 4 *ℤ (x *ℤ pos e)) ≤ℤ half_more
low_meets x n e d h i j = mul_le_cancel (pos 4 *ℤ (x *ℤ pos e)) half_more d h
    (step (x *ℤ pos (e * d)) n (pos d) ((pos 4 *ℤ (x *ℤ pos e)) *ℤ pos d) i j (same_by (x ∷ pos e ∷ pos d ∷ []) (λ x e d. ((ko (pos 4) ⊗ (x ⊗ e)) ⊗ d, ko (pos 4) ⊗ (x ⊗ (e ⊗ d)))) refl))
  where
    step : (a n d z : ℤ) → a ≤ℤ ((pos 8192 *ℤ n) *ℤ pos 1) → (n *ℤ pos 32768) ≤ℤ (half_more *ℤ d) → z ≡ pos 4 *ℤ a → z ≤ℤ (half_more *ℤ d)
    step a n d z i j e = omega (arith, ints)

high_meets : (y n : ℤ) (e d : ℕ) → 0 < d → ((pos 8192 *ℤ n) *ℤ pos 1) ≤ℤ (y *ℤ pos (e * d)) → (neg_ℤ (pos 16384) *ℤ pos d) ≤ℤ (n *ℤ pos 32768) → neg_ℤ (pos 16384) ≤ℤ (pos 4 *ℤ (y *ℤ pos e))
high_meets y n e d h i j = mul_le_cancel (neg_ℤ (pos 16384)) (pos 4 *ℤ (y *ℤ pos e)) d h
    (step (y *ℤ pos (e * d)) n (pos d) ((pos 4 *ℤ (y *ℤ pos e)) *ℤ pos d) i j (same_by (y ∷ pos e ∷ pos d ∷ []) (λ x e d. ((ko (pos 4) ⊗ (x ⊗ e)) ⊗ d, ko (pos 4) ⊗ (x ⊗ (e ⊗ d)))) refl))
  where
    step : (a n d z : ℤ) → ((pos 8192 *ℤ n) *ℤ pos 1) ≤ℤ a → (neg_ℤ (pos 16384) *ℤ d) ≤ℤ (n *ℤ pos 32768) → z ≡ pos 4 *ℤ a → (neg_ℤ (pos 16384) *ℤ d) ≤ℤ z
    step a n d z i j e = omega (arith, ints)

pub meets_one : (scale : ℕ) (c r : ℤ) (q : Rational) → IsWithinHalf (pos 1) q → Near c r (in_row_unit scale q) → MeetsOne scale c r
meets_one scale c r q h n = (
  low (pos (2 ^ scale) *ℤ (c -ℤ r)) ((c -ℤ r) *ℤ pos (2 ^ scale)) (mul_comm_ℤ (pos (2 ^ scale)) (c -ℤ r)) (low_meets (c -ℤ r) q.num (2 ^ scale) q.den q.positive n.0 h.1),
  high (pos (2 ^ scale) *ℤ (c +ℤ r)) ((c +ℤ r) *ℤ pos (2 ^ scale)) (mul_comm_ℤ (pos (2 ^ scale)) (c +ℤ r)) (high_meets (c +ℤ r) q.num (2 ^ scale) q.den q.positive n.1 h.0),
)
  where
    low : (x z : ℤ) → x ≡ z → (pos 4 *ℤ z) ≤ℤ half_more → x ≤ℤ pos (2 ^ 13)
    low x z e h = omega (arith, ints)

    high : (x z : ℤ) → x ≡ z → neg_ℤ (pos 16384) ≤ℤ (pos 4 *ℤ z) → neg_ℤ (pos (2 ^ 13)) ≤ℤ x
    high x z e h = omega (arith, ints)

-- ---- another group of a row is at most 2 away
moved_in_rows : (scale s : ℕ) (amount group other shift : ℤ) (base rover : Sighting) → y_in_rows scale s amount other shift base rover ≈ in_row_unit scale
    (y_of s amount group shift base rover -ʳ of_whole (other -ℤ group))
moved_in_rows scale s amount group other shift base rover =
    equal_r (row_unit scale ∷ (observed s amount -ʳ computed base rover) ∷ of_whole group ∷ of_whole other ∷ of_whole (wavelength s *ℤ shift) ∷ of_whole (other -ℤ group) ∷ [])
    ((va 3 ≐ va 2 ⊕ va 5) ∷ []) (ng (va 0) ∷ []) (va 0 ⊗ ((va 1 ⊖ va 3) ⊖ va 4)) (va 0 ⊗ (((va 1 ⊖ va 2) ⊖ va 4) ⊖ va 5)) refl
    (whole_sum other group (other -ℤ group) (sum other group), tt)
  where
    sum : (a b : ℤ) → a ≡ b +ℤ (a -ℤ b)
    sum a b = omega (arith, ints)

close : (c r n k : ℤ) (d : ℕ) → 0 < d → r ≤ℤ row_radius 0 → (pos 1 *ℤ (c -ℤ r)) ≤ℤ pos 8192 → neg_ℤ (pos 8192) ≤ℤ (pos 1 *ℤ (c +ℤ r)) →
    ((c -ℤ r) *ℤ pos (1 * (d * 1))) ≤ℤ ((pos 8192 *ℤ ((n *ℤ pos 1) -ℤ (k *ℤ pos d))) *ℤ pos 1) → ((pos 8192 *ℤ ((n *ℤ pos 1) -ℤ (k *ℤ pos d))) *ℤ pos 1) ≤ℤ ((c +ℤ r) *ℤ pos (1 * (d * 1))) →
    (neg_ℤ (pos 16384) *ℤ pos d) ≤ℤ (n *ℤ pos 32768) → (n *ℤ pos 32768) ≤ℤ (half_more *ℤ pos d) → (neg_ℤ (pos 2) ≤ℤ k) × (k ≤ℤ pos 2)
close c r n k d h small low high l u nl nu =
    let top_at_most : ((c +ℤ r) *ℤ pos d) ≤ℤ (reach *ℤ pos d) = mul_le_right (pos d) (c +ℤ r) reach (pos_nn d) (top c r small low) in
    let down : (neg_ℤ reach *ℤ pos d) ≤ℤ ((c -ℤ r) *ℤ pos d) = mul_le_right (pos d) (neg_ℤ reach) (c -ℤ r) (pos_nn d) (bottom c r small high) in (
      low_of k (mul_le_cancel (neg_ℤ both_reach) (pos 32768 *ℤ k) d h
          (first ((c +ℤ r) *ℤ pos d) n (k *ℤ pos d) (pos d) ((pos 32768 *ℤ k) *ℤ pos d) (pos_nn d) top_at_most (rw (one d) at u) nl (product k (pos d)))),
      high_of k (mul_le_cancel (pos 32768 *ℤ k) both_reach d h (second ((c -ℤ r) *ℤ pos d) n (k *ℤ pos d) (pos d) ((pos 32768 *ℤ k) *ℤ pos d) down (rw (one d) at l) nu (product k (pos d)))),
    )
  where
    one : (d : ℕ) → 1 * (d * 1) ≡ d
    one d = omega arith

    top : (c r : ℤ) → r ≤ℤ row_radius 0 → (pos 1 *ℤ (c -ℤ r)) ≤ℤ pos 8192 → (c +ℤ r) ≤ℤ reach
    top c r h k = omega (arith, ints)

    bottom : (c r : ℤ) → r ≤ℤ row_radius 0 → neg_ℤ (pos 8192) ≤ℤ (pos 1 *ℤ (c +ℤ r)) → neg_ℤ reach ≤ℤ (c -ℤ r)
    bottom c r h k = omega (arith, ints)

    product : (k d : ℤ) → (pos 32768 *ℤ k) *ℤ d ≡ pos 32768 *ℤ (k *ℤ d)
    product k d = same_by (k ∷ d ∷ []) (λ k d. ((ko (pos 32768) ⊗ k) ⊗ d, ko (pos 32768) ⊗ (k ⊗ d))) refl

    first : (b n y d z : ℤ) → pos 0 ≤ℤ d → b ≤ℤ (reach *ℤ d) → ((pos 8192 *ℤ ((n *ℤ pos 1) -ℤ y)) *ℤ pos 1) ≤ℤ b → (neg_ℤ (pos 16384) *ℤ d) ≤ℤ (n *ℤ pos 32768) → z ≡ pos 32768 *ℤ y →
        (neg_ℤ both_reach *ℤ d) ≤ℤ z
    first b n y d z d0 h i j e = omega (arith, ints)

    second : (a n y d z : ℤ) → (neg_ℤ reach *ℤ d) ≤ℤ a → a ≤ℤ ((pos 8192 *ℤ ((n *ℤ pos 1) -ℤ y)) *ℤ pos 1) → (n *ℤ pos 32768) ≤ℤ (half_more *ℤ d) → z ≡ pos 32768 *ℤ y → z ≤ℤ (both_reach *ℤ d)
    second a n y d z h i j e = omega (arith, ints)

    low_of : (k : ℤ) → neg_ℤ both_reach ≤ℤ (pos 32768 *ℤ k) → neg_ℤ (pos 2) ≤ℤ k
    low_of k h = omega (arith, ints)

    high_of : (k : ℤ) → (pos 32768 *ℤ k) ≤ℤ both_reach → k ≤ℤ pos 2
    high_of k h = omega (arith, ints)

pub row_close : (p : Pairing) (amount group other : ℤ) → IsRowGroup p 0 amount other → HasSightings p →
    ((b r : Sighting) → AreSightings p b r → IsWithinHalf (pos 1) (y_of 2 amount group (pos 0) b r)) →
    (neg_ℤ (pos 2) ≤ℤ (other -ℤ group)) × ((other -ℤ group) ≤ℤ pos 2)
row_close p amount group other a has near =
    let base_sighting : Sighting = has.base.sighting in
    let rover_sighting : Sighting = has.rover.sighting in
    let are_sightings : AreSightings p base_sighting rover_sighting = record { base_is = has.base.is; rover_is = has.rover.is } in
    let q : Rational = y_of 2 amount group (pos 0) base_sighting rover_sighting in
    let within_half : IsWithinHalf (pos 1) q = near base_sighting rover_sighting are_sightings in
    let is_near : Near a.centre a.radius (in_row_unit 0 (q -ʳ of_whole (other -ℤ group))) = Near-along a.centre a.radius (y_in_rows 0 2 amount other (pos 0) base_sighting rover_sighting)
    (in_row_unit 0 (q -ʳ of_whole (other -ℤ group))) (moved_in_rows 0 2 amount group other (pos 0) base_sighting rover_sighting) (a.holds base_sighting rover_sighting are_sightings) in
    close a.centre a.radius q.num (other -ℤ group) q.den q.positive a.narrow a.meets.0 a.meets.1 is_near.0 is_near.1 within_half.0 within_half.1

-- ---- a first shift under another group of a row
within : (l n k : ℤ) (d : ℕ) → pos 1000 ≤ℤ l → neg_ℤ (pos 2) ≤ℤ k → k ≤ℤ pos 2 → (neg_ℤ (l *ℤ pos 16384) *ℤ pos d) ≤ℤ (n *ℤ pos 32768) →
    (n *ℤ pos 32768) ≤ℤ (((l *ℤ pos 16384) +ℤ prefit_width) *ℤ pos d) →
    ((neg_ℤ l *ℤ pos (d * 1)) ≤ℤ (((n *ℤ pos 1) -ℤ (k *ℤ pos d)) *ℤ pos 1)) × ((((n *ℤ pos 1) -ℤ (k *ℤ pos d)) *ℤ pos 1) ≤ℤ (l *ℤ pos (d * 1)))
within l n k d least k0 k1 lo hi =
    let least_at_most : (pos 1000 *ℤ pos d) ≤ℤ (l *ℤ pos d) = mul_le_right (pos d) (pos 1000) l (pos_nn d) least in
    let change_not_below : (neg_ℤ (pos 2) *ℤ pos d) ≤ℤ (k *ℤ pos d) = mul_le_right (pos d) (neg_ℤ (pos 2)) k (pos_nn d) k0 in
    let change_not_above : (k *ℤ pos d) ≤ℤ (pos 2 *ℤ pos d) = mul_le_right (pos d) k (pos 2) (pos_nn d) k1 in
    let den_nonnegative : pos 0 ≤ℤ pos d = pos_nn d in
    rw (one d) (low (l *ℤ pos d) n (k *ℤ pos d) (pos d) _ _ least_at_most change_not_above den_nonnegative (neg_mul_ℤ l (pos d)) (neg_half l (pos d)) lo, high (l *ℤ pos d) n (k *ℤ pos d) (pos d) _ least_at_most change_not_below den_nonnegative (half l (pos d)) hi)
  where
    one : (d : ℕ) → d * 1 ≡ d
    one d = omega arith

    neg_half : (l d : ℤ) → neg_ℤ (l *ℤ pos 16384) *ℤ d ≡ neg_ℤ (pos 16384 *ℤ (l *ℤ d))
    neg_half l d = same_by (l ∷ d ∷ []) (λ l d. (ng (l ⊗ ko (pos 16384)) ⊗ d, ng (ko (pos 16384) ⊗ (l ⊗ d)))) refl

    half : (l d : ℤ) → ((l *ℤ pos 16384) +ℤ prefit_width) *ℤ d ≡ (pos 16384 *ℤ (l *ℤ d)) +ℤ (prefit_width *ℤ d)
    half l d = same_by (l ∷ d ∷ []) (λ l d. (((l ⊗ ko (pos 16384)) ⊕ ko (prefit_width)) ⊗ d, (ko (pos 16384) ⊗ (l ⊗ d)) ⊕ (ko (prefit_width) ⊗ d))) refl

    low : (x n y d u v : ℤ) → (pos 1000 *ℤ d) ≤ℤ x → y ≤ℤ (pos 2 *ℤ d) → pos 0 ≤ℤ d → u ≡ neg_ℤ x → v ≡ neg_ℤ (pos 16384 *ℤ x) → v ≤ℤ (n *ℤ pos 32768) → u ≤ℤ (((n *ℤ pos 1) -ℤ y) *ℤ pos 1)
    low x n y d u v a b c e f g = omega (arith, ints)

    high : (x n y d v : ℤ) → (pos 1000 *ℤ d) ≤ℤ x → (neg_ℤ (pos 2) *ℤ d) ≤ℤ y → pos 0 ≤ℤ d → v ≡ (pos 16384 *ℤ x) +ℤ (prefit_width *ℤ d) → (n *ℤ pos 32768) ≤ℤ v → (((n *ℤ pos 1) -ℤ y) *ℤ pos 1) ≤ℤ x
    high x n y d v a b c e g = omega (arith, ints)

pub shift_within : (s : ℕ) (amount group other shift : ℤ) (b r : Sighting) → pos 1000 ≤ℤ wavelength s → (neg_ℤ (pos 2) ≤ℤ (other -ℤ group)) × ((other -ℤ group) ≤ℤ pos 2) →
    IsWithinHalf (wavelength s) (y_of s amount group shift b r) → IsWithinCycle s (y_of s amount other shift b r)
shift_within s amount group other shift b r l c h =
    let q : Rational = y_of s amount group shift b r in
    let k : ℤ = other -ℤ group in
    let shift_is_within = within (wavelength s) q.num k q.den l c.0 c.1 h.0 h.1 in
    let same_row_amount = group_moved s amount group other shift b r in (
      ≤ʳ_along (of_whole (neg_ℤ (wavelength s))) (of_whole (neg_ℤ (wavelength s))) (q -ʳ of_whole k) (y_of s amount other shift b r) refl same_row_amount shift_is_within.0,
      ≤ʳ_along (q -ʳ of_whole k) (y_of s amount other shift b r) (of_whole (wavelength s)) (of_whole (wavelength s)) same_row_amount refl shift_is_within.1,
    )
