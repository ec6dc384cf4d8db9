-- A near-root over whole numbers.
use Rattle.std.proofs.Common.{◌≡◌, ℕ, ◌*◌, ◌<◌, ◌^◌, [], ◌∷◌, ℤ, pos, negsuc, ◌-ℤ◌, ◌*ℤ◌, neg_ℤ, ◌≤ℤ◌, unsigned_abs, arith, refl, sym}
use Rattle.std.proofs.lemmas.Int.{ints}
use Rattle.whole_math.proofs.Ring.{◌⊖◌, ◌⊗◌, ng}
use Rattle.whole_math.proofs.Order.{mul_le_right, mul_le_cancel}
use Rattle.whole_math.proofs.Inequalities.{same_by, nat, pos_nn, le_trans_ℤ, le_eq}
use Rattle.whole_math.proofs.Absolute.{abs_times_le}
use Rattle.whole_math.specs.Rational.{Rational, IsNearRoot}

-- r ≥ 0 and 2^60 |r² - q| ≤ q, each side over one denominator
abbrev pub IsWholeNearRoot : Rational → Rational → Type 0
IsWholeNearRoot r q = (pos 0 ≤ℤ r.num) × ((pos (unsigned_abs (((r.num *ℤ r.num) *ℤ pos q.den) -ℤ (q.num *ℤ pos (r.den * r.den)))) *ℤ pos (2 ^ 60)) ≤ℤ (q.num *ℤ pos (r.den * r.den)))

pub times_abs : (z m : ℤ) (s : ℕ) → (z *ℤ pos s) ≤ℤ m → (neg_ℤ z *ℤ pos s) ≤ℤ m → (pos (unsigned_abs z) *ℤ pos s) ≤ℤ m
times_abs (pos n) m s h k = h
times_abs (negsuc n) m s h k = k

bound_is : (m : ℤ) (c e : ℕ) → (pos 1 *ℤ m) *ℤ pos (c * e) ≡ (m *ℤ pos c) *ℤ pos e
bound_is m c e = same_by (m ∷ pos c ∷ pos e ∷ []) (λ m c e. ((nat 1 ⊗ m) ⊗ (c ⊗ e), (m ⊗ c) ⊗ e)) refl

bound_turned : (m : ℤ) (c e : ℕ) → (pos 1 *ℤ m) *ℤ pos (e * c) ≡ (m *ℤ pos c) *ℤ pos e
bound_turned m c e = same_by (m ∷ pos c ∷ pos e ∷ []) (λ m c e. ((nat 1 ⊗ m) ⊗ (e ⊗ c), (m ⊗ c) ⊗ e)) refl

high_is : (x y : ℤ) (s e : ℕ) → (x -ℤ y) *ℤ pos (s * e) ≡ ((x -ℤ y) *ℤ pos s) *ℤ pos e
high_is x y s e = same_by (x ∷ y ∷ pos s ∷ pos e ∷ []) (λ x y s e. ((x ⊖ y) ⊗ (s ⊗ e), ((x ⊖ y) ⊗ s) ⊗ e)) refl

low_is : (x y : ℤ) (s e : ℕ) → (y -ℤ x) *ℤ pos (s * e) ≡ (neg_ℤ (x -ℤ y) *ℤ pos s) *ℤ pos e
low_is x y s e = same_by (x ∷ y ∷ pos s ∷ pos e ∷ []) (λ x y s e. ((y ⊖ x) ⊗ (s ⊗ e), (ng (x ⊖ y) ⊗ s) ⊗ e)) refl

pub near_root_whole : (r q : Rational) → IsNearRoot r q → IsWholeNearRoot r q
near_root_whole r q h = (sign r.num r.den h.0, both ((r.num *ℤ r.num) *ℤ pos q.den) q.num (r.den * r.den) q.den (2 ^ 60) q.positive h.1.0 h.1.1)
  where
    sign : (n : ℤ) (d : ℕ) → (pos 0 *ℤ pos d) ≤ℤ (n *ℤ pos 1) → pos 0 ≤ℤ n
    sign n d h = omega (arith, ints)

    both : (x m : ℤ) (c e s : ℕ) → 0 < e → ((x -ℤ (m *ℤ pos c)) *ℤ pos (s * e)) ≤ℤ ((pos 1 *ℤ m) *ℤ pos (c * e)) →
        (((m *ℤ pos c) -ℤ x) *ℤ pos (s * e)) ≤ℤ ((pos 1 *ℤ m) *ℤ pos (e * c)) → (pos (unsigned_abs (x -ℤ (m *ℤ pos c))) *ℤ pos s) ≤ℤ (m *ℤ pos c)
    both x m c e s p high low =
        let y : ℤ = m *ℤ pos c in
        times_abs (x -ℤ y) y s
        (mul_le_cancel ((x -ℤ y) *ℤ pos s) y e p (le_trans_ℤ (le_trans_ℤ (le_eq (sym (high_is x y s e))) high) (le_eq (bound_is m c e))))
        (mul_le_cancel (neg_ℤ (x -ℤ y) *ℤ pos s) y e p (le_trans_ℤ (le_trans_ℤ (le_eq (sym (low_is x y s e))) low) (le_eq (bound_turned m c e))))

pub near_root_from_whole : (r q : Rational) → IsWholeNearRoot r q → IsNearRoot r q
near_root_from_whole r q h = (sign r.num r.den h.0, both ((r.num *ℤ r.num) *ℤ pos q.den) q.num (r.den * r.den) q.den (2 ^ 60) h.1)
  where
    sign : (n : ℤ) (d : ℕ) → pos 0 ≤ℤ n → (pos 0 *ℤ pos d) ≤ℤ (n *ℤ pos 1)
    sign n d h = omega (arith, ints)

    both : (x m : ℤ) (c e s : ℕ) → (pos (unsigned_abs (x -ℤ (m *ℤ pos c))) *ℤ pos s) ≤ℤ (m *ℤ pos c) →
        (((x -ℤ (m *ℤ pos c)) *ℤ pos (s * e)) ≤ℤ ((pos 1 *ℤ m) *ℤ pos (c * e))) × ((((m *ℤ pos c) -ℤ x) *ℤ pos (s * e)) ≤ℤ ((pos 1 *ℤ m) *ℤ pos (e * c)))
    both x m c e s h =
        let y : ℤ = m *ℤ pos c in
        let bounds = abs_times_le (x -ℤ y) y s h in (
          le_trans_ℤ (le_eq (high_is x y s e)) (le_trans_ℤ (mul_le_right (pos e) ((x -ℤ y) *ℤ pos s) y (pos_nn e) bounds.0) (le_eq (sym (bound_is m c e)))),
          le_trans_ℤ (le_eq (low_is x y s e)) (le_trans_ℤ (mul_le_right (pos e) (neg_ℤ (x -ℤ y) *ℤ pos s) y (pos_nn e) bounds.1) (le_eq (sym (bound_turned m c e)))),
        )
