-- What a near-root is, as two inequalities.
use Rattle.std.proofs.Common.{◌≡◌, ℕ, ◌*◌, ◌^◌, [], ◌∷◌, ℤ, pos, negsuc, ◌-ℤ◌, ◌*ℤ◌, neg_ℤ, ◌≤ℤ◌, unsigned_abs, arith, refl, sym, subst₂}
use Rattle.std.proofs.lemmas.Int.{ints}
use Rattle.whole_math.proofs.Ring.{◌⊖◌, ◌⊗◌}
use Rattle.whole_math.proofs.Order.{lt_pos}
use Rattle.whole_math.proofs.Inequalities.{same_by, nat, pos_nn}
use Rattle.whole_math.proofs.Absolute.{abs_times_le}
use Rattle.whole_math.specs.Rational.{Rational, ◌≤ʳ◌, of_whole, ◌-ʳ◌, ◌*ʳ◌, IsNearRoot}
use Rattle.orbit_model.specs.SeenPlaces.{over_light_speed_squared, range_of}
use Rattle.orbit_model.proofs.NearRootCertificates.{high, low, from_high, from_low}
use Rattle.whole_math.proofs.NearRoots.{near_root_whole, near_root_from_whole, times_abs}

pub root_nn : (r q : Rational) → IsNearRoot r q → of_whole (pos 0) ≤ʳ r
root_nn r q h = h.0

-- 2^60 (r² - q) ≤ q and 2^60 (q - r²) ≤ q
pub near_high : (r q : Rational) → IsNearRoot r q → of_whole (pos 1152921504606846976) *ʳ (r *ʳ r -ʳ q) ≤ʳ q
near_high r q h = high r.num (pos r.den) q.num (pos q.den) (pos_nn q.den)
    (abs_times_le (((r.num *ℤ r.num) *ℤ pos q.den) -ℤ (q.num *ℤ pos (r.den * r.den))) (q.num *ℤ pos (r.den * r.den)) (2 ^ 60) (near_root_whole r q h).1).0

pub near_low : (r q : Rational) → IsNearRoot r q → of_whole (pos 1152921504606846976) *ʳ (q -ʳ r *ʳ r) ≤ʳ q
near_low r q h = low r.num (pos r.den) q.num (pos q.den) (pos_nn q.den) (abs_times_le (((r.num *ℤ r.num) *ℤ pos q.den) -ℤ (q.num *ℤ pos (r.den * r.den))) (q.num *ℤ pos (r.den * r.den)) (2 ^ 60) (near_root_whole r q h).1).1

pub near_root : (r q : Rational) → of_whole (pos 0) ≤ʳ r → of_whole (pos 1152921504606846976) *ʳ (r *ʳ r -ʳ q) ≤ʳ q
    → of_whole (pos 1152921504606846976) *ʳ (q -ʳ r *ʳ r) ≤ʳ q → IsNearRoot r q
near_root r q n h k = near_root_from_whole r q (
  go r.num r.den n,
  times_abs (((r.num *ℤ r.num) *ℤ pos q.den) -ℤ (q.num *ℤ pos (r.den * r.den))) (q.num *ℤ pos (r.den * r.den)) (2 ^ 60)
      (from_high r.num (pos r.den) q.num (pos q.den) h (lt_pos 0 q.den q.positive)) (from_low r.num (pos r.den) q.num (pos q.den) k (lt_pos 0 q.den q.positive)),
)
  where
    go : (n : ℤ) (d : ℕ) → (pos 0 *ℤ pos d) ≤ℤ (n *ℤ pos 1) → pos 0 ≤ℤ n
    go n d h = omega (arith, ints)

gap : (t u n d : ℤ) → (t *ℤ t) *ℤ (pos 89875517873681764 *ℤ d) -ℤ n *ℤ (u *ℤ u) ≡ ((pos 299792458 *ℤ t) *ℤ (pos 299792458 *ℤ t)) *ℤ d -ℤ n *ℤ ((pos 1 *ℤ u) *ℤ (pos 1 *ℤ u))
gap t u n d = same_by (t ∷ u ∷ n ∷ d ∷ []) (λ t u n d. (t ⊗ t ⊗ (nat 89875517873681764 ⊗ d) ⊖ n ⊗ (u ⊗ u), nat 299792458 ⊗ t ⊗ (nat 299792458 ⊗ t) ⊗ d ⊖ n ⊗ (nat 1 ⊗ u ⊗ (nat 1 ⊗ u)))) refl

size : (n u : ℤ) → n *ℤ (u *ℤ u) ≡ n *ℤ ((pos 1 *ℤ u) *ℤ (pos 1 *ℤ u))
size n u = same_by (n ∷ u ∷ []) (λ n u. (n ⊗ (u ⊗ u), n ⊗ (nat 1 ⊗ u ⊗ (nat 1 ⊗ u)))) refl

-- the range, c times the travel time, is a near-root of the squared distance
pub range_root : (t q : Rational) → IsNearRoot t (over_light_speed_squared q) → IsNearRoot (range_of t) q
range_root t q near = let h = near_root_whole t (over_light_speed_squared q) near in near_root_from_whole (range_of t) q (
  go t.num h.0,
  subst₂ (λ (z w : ℤ). (pos (unsigned_abs z) *ℤ pos (2 ^ 60)) ≤ℤ w) (gap t.num (pos t.den) q.num (pos q.den)) (size q.num (pos t.den)) h.1,
)
  where
    go : (n : ℤ) → pos 0 ≤ℤ n → pos 0 ≤ℤ (pos 299792458 *ℤ n)
    go n h = omega (arith, ints)

pub travel_root : (t q : Rational) → IsNearRoot (range_of t) q → IsNearRoot t (over_light_speed_squared q)
travel_root t q near = let h = near_root_whole (range_of t) q near in near_root_from_whole t (over_light_speed_squared q) (
  go t.num h.0,
  subst₂ (λ (z w : ℤ). (pos (unsigned_abs z) *ℤ pos (2 ^ 60)) ≤ℤ w) (sym (gap t.num (pos t.den) q.num (pos q.den))) (sym (size q.num (pos t.den))) h.1,
)
  where
    go : (n : ℤ) → pos 0 ≤ℤ (pos 299792458 *ℤ n) → pos 0 ≤ℤ n
    go n h = omega (arith, ints)
