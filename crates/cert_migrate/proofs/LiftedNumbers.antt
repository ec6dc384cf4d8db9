-- What a number is lifted to: its range, and that its box holds 23/32 of all that the old one held.
use Rattle.std.proofs.Common.{◌≡◌, ◌<◌, ◌≤◌, ◌^◌, [], ◌∷◌, All, ℤ, pos, ◌+ℤ◌, ◌-ℤ◌, ◌*ℤ◌, ◌≤ℤ◌, ◌<ℤ◌, unsigned_abs, to_z, of_z, arith, refl, sym, subst, lit<}
use Rattle.std.specs.Int.{w64}
use Rattle.std.proofs.lemmas.List.Elements.{All-from_recursion}
use Rattle.std.proofs.lemmas.Int.{ints}
use Rattle.whole_math.proofs.Ring.{◌⊗◌}
use Rattle.whole_math.proofs.Order.{mul_le_right}
use Rattle.whole_math.proofs.Inequalities.{pos_nn, same_by, nat}
use Rattle.whole_math.proofs.Rounding.{nearest_is, ceil_is}
use Rattle.whole_math.specs.Rounding.{nearest_div, ceil_div, IsNearest, IsCeil}
use Rattle.whole_math.specs.Rational.{Rational, ◌*ʳ◌, Near}
use Rattle.obs_rows.specs.Ranges.{IsWithin, IsRadius}
use Rattle.cert_migrate.specs.Lifted.{lifted_y, lifted_radius, unit_ratio}

-- The nearest alone misses the scaled centre by up to 1/2, which the 1 of the radius takes up.
pub near_lifted : (y ry : ℤ) (q : Rational) → Near y ry q → Near (lifted_y y) (lifted_radius ry) (unit_ratio *ʳ q)
near_lifted y ry q h =
    let p : ℤ = nearest_div (pos 23 *ℤ y) 32 in
    let c : ℤ = ceil_div (pos 23 *ℤ ry) 32 in
    let is_nearest : IsNearest (pos 23 *ℤ y) 32 p = nearest_is (pos 23 *ℤ y) 32 (lit< tt) in
    let is_ceil : IsCeil (pos 23 *ℤ ry) 32 c = ceil_is (pos 23 *ℤ ry) 32 (lit< tt) in
    (low (p -ℤ (c +ℤ pos 1)) (y -ℤ ry) q.num (pos q.den) (pos_nn q.den) (tall p c is_nearest.0 is_ceil.0) h.0, high (p +ℤ (c +ℤ pos 1)) (y +ℤ ry) q.num (pos q.den) (pos_nn q.den) (wide p c is_nearest.1 is_ceil.0) h.1)
  where
    tall : (p c : ℤ) → (pos 2 *ℤ (p *ℤ pos 32)) ≤ℤ ((pos 2 *ℤ (pos 23 *ℤ y)) +ℤ pos 32) → (pos 23 *ℤ ry) ≤ℤ (c *ℤ pos 32) → (pos 32 *ℤ (p -ℤ (c +ℤ pos 1))) ≤ℤ (pos 23 *ℤ (y -ℤ ry))
    tall p c a b = omega (arith, ints)

    wide : (p c : ℤ) → ((pos 2 *ℤ (pos 23 *ℤ y)) +ℤ pos 32) <ℤ ((pos 2 *ℤ (p *ℤ pos 32)) +ℤ (pos 2 *ℤ pos 32)) → (pos 23 *ℤ ry) ≤ℤ (c *ℤ pos 32)
        → (pos 23 *ℤ (y +ℤ ry)) ≤ℤ (pos 32 *ℤ (p +ℤ (c +ℤ pos 1)))
    wide p c a b = omega (arith, ints)

    -- (l / 1) against (23 n) / (32 d)
    low : (l m n d : ℤ) → pos 0 ≤ℤ d → (pos 32 *ℤ l) ≤ℤ (pos 23 *ℤ m) → (m *ℤ d) ≤ℤ (n *ℤ pos 1) → (l *ℤ (pos 32 *ℤ d)) ≤ℤ ((pos 23 *ℤ n) *ℤ pos 1)
    low l m n d g a b = low_step ((pos 32 *ℤ l) *ℤ d) ((pos 23 *ℤ m) *ℤ d) (m *ℤ d) n (l *ℤ (pos 32 *ℤ d)) (mul_le_right d (pos 32 *ℤ l) (pos 23 *ℤ m) g a) b
        (same_by (m ∷ d ∷ []) (λ m d. ((nat 23 ⊗ m) ⊗ d, nat 23 ⊗ (m ⊗ d))) refl) (same_by (l ∷ d ∷ []) (λ l d. (l ⊗ (nat 32 ⊗ d), (nat 32 ⊗ l) ⊗ d)) refl)
      where
        low_step : (a b c n e : ℤ) → a ≤ℤ b → c ≤ℤ (n *ℤ pos 1) → b ≡ pos 23 *ℤ c → e ≡ a → e ≤ℤ ((pos 23 *ℤ n) *ℤ pos 1)
        low_step a b c n e h i f g = omega (arith, ints)

    high : (l m n d : ℤ) → pos 0 ≤ℤ d → (pos 23 *ℤ m) ≤ℤ (pos 32 *ℤ l) → (n *ℤ pos 1) ≤ℤ (m *ℤ d) → ((pos 23 *ℤ n) *ℤ pos 1) ≤ℤ (l *ℤ (pos 32 *ℤ d))
    high l m n d g a b = high_step ((pos 32 *ℤ l) *ℤ d) ((pos 23 *ℤ m) *ℤ d) (m *ℤ d) n (l *ℤ (pos 32 *ℤ d)) (mul_le_right d (pos 23 *ℤ m) (pos 32 *ℤ l) g a) b
        (same_by (m ∷ d ∷ []) (λ m d. ((nat 23 ⊗ m) ⊗ d, nat 23 ⊗ (m ⊗ d))) refl) (same_by (l ∷ d ∷ []) (λ l d. (l ⊗ (nat 32 ⊗ d), (nat 32 ⊗ l) ⊗ d)) refl)
      where
        high_step : (a b c n e : ℤ) → b ≤ℤ a → (n *ℤ pos 1) ≤ℤ c → b ≡ pos 23 *ℤ c → e ≡ a → ((pos 23 *ℤ n) *ℤ pos 1) ≤ℤ e
        high_step a b c n e h i f g = omega (arith, ints)

-- ---- ranges, as the numbers are written
word : (x : ℤ) → unsigned_abs x ≤ 2 ^ 34 → to_z w64 (of_z w64 x) ≡ x
word x h = omega (arith, ints)

word_within : (x : ℤ) → IsWithin (2 ^ 34) x → IsWithin (2 ^ 34) (to_z w64 (of_z w64 x))
word_within x h = subst (IsWithin (2 ^ 34)) (sym (word x h)) h

pub six_within : (a b c d : ℤ) → IsWithin (2 ^ 34) a → IsWithin (2 ^ 34) b → IsWithin (2 ^ 34) c → IsWithin (2 ^ 34) d
    → All (IsWithin (2 ^ 34)) (to_z w64 (of_z w64 a) ∷ to_z w64 (of_z w64 b) ∷ to_z w64 (of_z w64 c) ∷ to_z w64 (of_z w64 d) ∷ pos 0 ∷ pos 0 ∷ [])
six_within a b c d ha hb hc hd =
    let in_limit : ℤ → Type 0 = IsWithin (2 ^ 34) in
    let none : in_limit (pos 0) = omega arith in
    All-from_recursion in_limit (to_z w64 (of_z w64 a) ∷ to_z w64 (of_z w64 b) ∷ to_z w64 (of_z w64 c) ∷ to_z w64 (of_z w64 d) ∷ pos 0 ∷ pos 0 ∷ [])
    (word_within a ha, (word_within b hb, (word_within c hc, (word_within d hd, (none, (none, tt))))))

pub radius_kept : (x : ℤ) → IsRadius x → IsRadius (to_z w64 (of_z w64 x))
radius_kept x h = subst IsRadius (sym (radius_word x h.0 h.1)) h
  where
    radius_word : (x : ℤ) → pos 0 ≤ℤ x → x ≤ℤ pos (2 ^ 20) → to_z w64 (of_z w64 x) ≡ x
    radius_word x h g = omega (arith, ints)

pub group_below : (g : ℤ) → unsigned_abs g < 2 ^ 50 → unsigned_abs (to_z w64 (of_z w64 (pos 23 *ℤ to_z w64 (of_z w64 g)))) < 2 ^ 55
group_below g h = omega (arith, ints)

pub group_kept : (g : ℤ) → unsigned_abs g < 2 ^ 50 → unsigned_abs (to_z w64 (of_z w64 g)) < 2 ^ 50
group_kept g h = omega (arith, ints)
