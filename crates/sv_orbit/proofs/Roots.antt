-- Near-roots and quotients exist.
use Rattle.std.proofs.Common.{◌≡◌, ℕ, zero, suc, ◌+◌, ◌*◌, ◌^◌, ◌≤◌, ◌<◌, [], ◌∷◌, ℤ, pos, negsuc, ◌-ℤ◌, ◌*ℤ◌, ◌+ℤ◌, neg_ℤ, ◌≤ℤ◌, ◌<ℤ◌, arith, refl, lit≤, lit<, mul-pos, subst}
use Rattle.std.proofs.lemmas.Int.{ints, by_lt_z}
use Rattle.whole_math.proofs.Ring.{◌⊗◌}
use Rattle.whole_math.proofs.Order.{le_pos}
use Rattle.whole_math.proofs.Inequalities.{same_by, nat, pos_nn}
use Rattle.whole_math.specs.Rational.{Rational, IsNearRoot}
use Rattle.sv_orbit.proofs.RootCerts.{root_little, root_large, root_scaled, root_below}
use Rattle.whole_math.proofs.NearRoots.{near_root_from_whole, times_abs}

-- ---- the root of a whole number, rounded down
record HasWholeRoot (n : ℕ) : Type 0 where
  root : ℕ
  low : root * root ≤ n
  high : n ≤ root * root + 2 * root

-- s² ≤ n ≤ s² + 2s, and n + 1 is the next square or not
more : (n s : ℕ) → s * s ≤ n → n ≤ s * s + 2 * s → HasWholeRoot (suc n)
more n s l h = by_lt_z (pos n) (pos (s * s + 2 * s))
    (λ k. record { root = s; low = longer (s * s) n l; high = within n (s * s + 2 * s) k })
    (λ k. let is_next_square : suc n ≡ suc s * suc s = next (s * s) (suc s * suc s) s n h k (square s) in record { root = suc s; low = same (suc n) (suc s * suc s) is_next_square; high = same_more (suc n) (suc s * suc s) (2 * suc s) is_next_square })
  where
    longer : (a n : ℕ) → a ≤ n → a ≤ suc n
    longer a n h = omega arith

    within : (n a : ℕ) → pos n <ℤ pos a → suc n ≤ a
    within n a h = omega (arith, ints)

    square : (s : ℕ) → suc s * suc s ≡ s * s + 2 * s + 1
    square s = omega arith

    next : (a b s n : ℕ) → n ≤ a + 2 * s → pos (a + 2 * s) ≤ℤ pos n → b ≡ a + 2 * s + 1 → suc n ≡ b
    next a b s n h k e = omega (arith, ints)

    same : (a b : ℕ) → a ≡ b → b ≤ a
    same a b e = omega arith

    same_more : (a b c : ℕ) → a ≡ b → a ≤ b + c
    same_more a b c e = omega arith

whole_root : (n : ℕ) → HasWholeRoot n
whole_root zero = record { root = 0; low = lit≤ tt; high = lit≤ tt }
whole_root (suc n) = let root_before = whole_root n in more n root_before.root root_before.low root_before.high

-- ---- a near-root of n/d: the whole root of n d 2^122, over d 2^61
pub record HasNearRoot (q : Rational) : Type 0 where
  pub root : Rational
  pub is_root : IsNearRoot root q

near_root_of : (n d : ℕ) (h : 0 < d) → 0 < n → HasNearRoot (record { num = pos n; den = d; positive = h })
near_root_of n d h k =
    let m : ℕ = n * d * 5316911983139663491615228241121378304 in
    let has_root = whole_root m in
    let root_found : ℕ = has_root.root in
    let low : (pos root_found *ℤ pos root_found) ≤ℤ pos m = le_pos (root_found * root_found) m has_root.low in
    let high : pos m ≤ℤ ((pos root_found *ℤ pos root_found) +ℤ (pos 2 *ℤ pos root_found)) = le_pos m (root_found * root_found + 2 * root_found) has_root.high in
    let near = by_lt_z (pos root_found) (pos 2305843009213693952) (λ l. root_little (pos root_found) (pos m) (pos_nn root_found) (weak (pos root_found) _ l) (large n d k h) high) (λ l. root_large (pos root_found) (pos m) (pos_nn root_found) l low high) in
    record {
      root = record { num = pos root_found; den = d * 2305843009213693952; positive = mul-pos h (lit< tt) };
      is_root = near_root_from_whole (record { num = pos root_found; den = d * 2305843009213693952; positive = mul-pos h (lit< tt) }) (record { num = pos n; den = d; positive = h }) (
        pos_nn root_found,
        times_abs (((pos root_found *ℤ pos root_found) *ℤ pos d) -ℤ (pos n *ℤ pos ((d * 2305843009213693952) * (d * 2305843009213693952)))) (pos n *ℤ pos ((d * 2305843009213693952) * (d * 2305843009213693952))) (2 ^ 60)
            (shaped (pos root_found) (pos n) (pos d) (root_below (pos root_found) (pos m) (pos d) (pos_nn d) low (pos_nn m)))
            (turned (pos root_found) (pos n) (pos d) (root_scaled (pos root_found) (pos m) (pos d) (pos_nn d) near)),
      );
    }
  where
    weak : (a b : ℤ) → a <ℤ b → a ≤ℤ b
    weak a b h = omega (arith, ints)

    large : (n d : ℕ) → 0 < n → 0 < d → pos 5316911983139663491615228241121378304 ≤ℤ pos (n * d * 5316911983139663491615228241121378304)
    large n d h k = le_pos _ _ (go (n * d) (mul-pos h k))
      where
        go : (p : ℕ) → 0 < p → 5316911983139663491615228241121378304 ≤ p * 5316911983139663491615228241121378304
        go p h = omega arith

    shaped : (s n d : ℤ) → ((((s *ℤ s) *ℤ d) -ℤ (((n *ℤ d) *ℤ pos 5316911983139663491615228241121378304) *ℤ d)) *ℤ pos 1152921504606846976) ≤ℤ (((n *ℤ d) *ℤ pos 5316911983139663491615228241121378304) *ℤ d)
        → ((((s *ℤ s) *ℤ d) -ℤ (n *ℤ ((d *ℤ pos 2305843009213693952) *ℤ (d *ℤ pos 2305843009213693952)))) *ℤ pos (2 ^ 60)) ≤ℤ (n *ℤ ((d *ℤ pos 2305843009213693952) *ℤ (d *ℤ pos 2305843009213693952)))
    shaped s n d h = subst (λ (z : ℤ). ((((s *ℤ s) *ℤ d) -ℤ z) *ℤ pos 1152921504606846976) ≤ℤ z) (same_by (n ∷ d ∷ []) (λ n d. (n ⊗ d ⊗ nat 5316911983139663491615228241121378304 ⊗ d, n ⊗ (d ⊗ nat 2305843009213693952 ⊗ (d ⊗ nat 2305843009213693952)))) refl) h

    turned : (s n d : ℤ) → (((((n *ℤ d) *ℤ pos 5316911983139663491615228241121378304) *ℤ d) -ℤ ((s *ℤ s) *ℤ d)) *ℤ pos 1152921504606846976) ≤ℤ (((n *ℤ d) *ℤ pos 5316911983139663491615228241121378304) *ℤ d)
        → (neg_ℤ (((s *ℤ s) *ℤ d) -ℤ (n *ℤ ((d *ℤ pos 2305843009213693952) *ℤ (d *ℤ pos 2305843009213693952)))) *ℤ pos (2 ^ 60)) ≤ℤ (n *ℤ ((d *ℤ pos 2305843009213693952) *ℤ (d *ℤ pos 2305843009213693952)))
    turned s n d h =
        let same_product : ((n *ℤ d) *ℤ pos 5316911983139663491615228241121378304) *ℤ d ≡ n *ℤ ((d *ℤ pos 2305843009213693952) *ℤ (d *ℤ pos 2305843009213693952)) =
        same_by (n ∷ d ∷ []) (λ n d. (n ⊗ d ⊗ nat 5316911983139663491615228241121378304 ⊗ d, n ⊗ (d ⊗ nat 2305843009213693952 ⊗ (d ⊗ nat 2305843009213693952)))) refl in
        let remainder_at_most = subst (λ (z : ℤ). ((z -ℤ ((s *ℤ s) *ℤ d)) *ℤ pos 1152921504606846976) ≤ℤ z) same_product h in
        back ((s *ℤ s) *ℤ d) (n *ℤ ((d *ℤ pos 2305843009213693952) *ℤ (d *ℤ pos 2305843009213693952))) remainder_at_most
      where
        back : (x y : ℤ) → ((y -ℤ x) *ℤ pos 1152921504606846976) ≤ℤ y → (neg_ℤ (x -ℤ y) *ℤ pos (2 ^ 60)) ≤ℤ y
        back x y h = omega (arith, ints)

above : (n : ℕ) → pos 0 <ℤ pos n → 0 < n
above n h = omega (arith, ints)

never : (n : ℕ) → pos 0 <ℤ negsuc n → ⊥
never n h = omega (arith, ints)

pub near_root_exists : (q : Rational) → pos 0 <ℤ q.num → HasNearRoot q
near_root_exists q h = go q.num q.den q.positive h
  where
    go : (z : ℤ) (d : ℕ) (p : 0 < d) → pos 0 <ℤ z → HasNearRoot (record { num = z; den = d; positive = p })
    go (pos n) d p h = near_root_of n d p (above n h)
    go (negsuc n) d p h = absurd (never n h)
