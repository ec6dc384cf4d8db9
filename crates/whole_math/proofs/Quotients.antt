-- Quotients by a whole number above 0, and what is left over.
use Rattle.std.proofs.Common.{◌≡◌, ℕ, ◌<◌, [], ◌∷◌, ℤ, pos, negsuc, ◌+ℤ◌, ◌-ℤ◌, ◌*ℤ◌, ◌≤ℤ◌, ◌<ℤ◌, unsigned_abs, arith, sym, ap, ap₂, ◌∙◌, refl, subst}
use Rattle.std.proofs.lemmas.Int.{ints, by_lt_z}
use Rattle.std.specs.Int.{int_rem_euclid}
use Rattle.whole_math.proofs.Ring.{ring, va, ko, ◌⊕◌, ◌⊗◌}
use Rattle.whole_math.proofs.Order.{lins, polys, mul_le_right}
use Rattle.whole_math.proofs.Inequalities.{pos_nn}
use Rattle.whole_math.proofs.Absolute.{pos_abs, abs_pos}
use Rattle.whole_math.proofs.Rounding.{floor_le, floor_greatest, ceil_le, ceil_unique, nearest_unique}
use Rattle.whole_math.specs.Rounding.{floor_div, ceil_div, nearest_div}

weak_of : (m : ℤ) → pos 0 <ℤ m → pos 0 ≤ℤ m
weak_of m h = omega (arith, lins)

-- n = ⌊n / m⌋ m + remainder
pub remainder_is : (n m : ℤ) → pos 0 <ℤ m → n ≡ (floor_div n (unsigned_abs m) *ℤ m) +ℤ int_rem_euclid n m
remainder_is (pos a) m h = subst (λ (k : ℤ). pos a ≡ (floor_div (pos a) (unsigned_abs m) *ℤ k) +ℤ int_rem_euclid (pos a) m) (pos_abs m (weak_of m h)) (omega (arith, ints))
remainder_is (negsuc a) m h = subst (λ (k : ℤ). negsuc a ≡ (floor_div (negsuc a) (unsigned_abs m) *ℤ k) +ℤ int_rem_euclid (negsuc a) m)
    (pos_abs m (weak_of m h)) (step a (unsigned_abs m) (abs_pos m h))
  where
    step : (a m : ℕ) → 0 < m → negsuc a ≡ (floor_div (negsuc a) m *ℤ pos m) +ℤ int_rem_euclid (negsuc a) (pos m)
    step a m h = omega (arith, ints)

-- ---- a whole number above 0 in place of a natural one
pub floor_at : (z c q : ℤ) → pos 0 <ℤ c → q ≤ℤ floor_div z (unsigned_abs c) → (q *ℤ c) ≤ℤ z
floor_at z c q h g =
    let n : ℕ = unsigned_abs c in
    let product_at_most : (q *ℤ pos n) ≤ℤ (floor_div z n *ℤ pos n) = mul_le_right (pos n) q (floor_div z n) (pos_nn n) g in
    let floor_at_most : (floor_div z n *ℤ pos n) ≤ℤ z = floor_le z n (abs_pos c h) in
    let same_product : q *ℤ pos n ≡ q *ℤ c = ap (λ x. q *ℤ x) (pos_abs c (weak_of c h)) in
    omega (arith, lins)

pub ceil_at : (z c q : ℤ) → pos 0 <ℤ c → ceil_div z (unsigned_abs c) ≤ℤ q → z ≤ℤ (q *ℤ c)
ceil_at z c q h g =
    let n : ℕ = unsigned_abs c in
    let product_at_most : (ceil_div z n *ℤ pos n) ≤ℤ (q *ℤ pos n) = mul_le_right (pos n) (ceil_div z n) q (pos_nn n) g in
    let ceil_at_least : z ≤ℤ (ceil_div z n *ℤ pos n) = ceil_le z n (abs_pos c h) in
    let same_product : q *ℤ pos n ≡ q *ℤ c = ap (λ x. q *ℤ x) (pos_abs c (weak_of c h)) in
    omega (arith, lins)

-- past the quotient, q c is past z
pub past_floor : (z c q : ℤ) → pos 0 <ℤ c → floor_div z (unsigned_abs c) <ℤ q → z <ℤ (q *ℤ c)
past_floor z c q h g = decide (z <ℤ (q *ℤ c)) z (q *ℤ c) (λ l. l) (λ l. absurd (less (floor_div z (unsigned_abs c)) q g
    (floor_greatest z q (unsigned_abs c) (abs_pos c h) (subst (λ (k : ℤ). (q *ℤ k) ≤ℤ z) (sym (pos_abs c (weak_of c h))) l))))
  where
    decide : (P : Type 0) (a b : ℤ) → (a <ℤ b → P) → (b ≤ℤ a → P) → P
    decide P a b f g = by_lt_z a b f g

    less : (a b : ℤ) → a <ℤ b → b ≤ℤ a → ⊥
    less a b h k = omega (arith, lins)

-- ---- from the quotient q rounded down and what is left, r
pub ceil_exact : (n m q r : ℤ) → pos 0 <ℤ m → n ≡ (q *ℤ m) +ℤ r → r ≡ pos 0 → q ≡ ceil_div n (unsigned_abs m)
ceil_exact n m q r h e z = ceil_unique n q (unsigned_abs m) (abs_pos m h) (subst (λ (k : ℤ). (n ≤ℤ (q *ℤ k)) × ((q *ℤ k) <ℤ (n +ℤ k))) (sym (pos_abs m (weak_of m h))) (step n m (q *ℤ m) r h e z))
  where
    step : (n m p r : ℤ) → pos 0 <ℤ m → n ≡ p +ℤ r → r ≡ pos 0 → (n ≤ℤ p) × (p <ℤ (n +ℤ m))
    step n m p r h e z = (omega (arith, lins), omega (arith, lins))

pub ceil_next : (n m q r : ℤ) → pos 0 <ℤ m → n ≡ (q *ℤ m) +ℤ r → pos 0 <ℤ r → r <ℤ m → q +ℤ pos 1 ≡ ceil_div n (unsigned_abs m)
ceil_next n m q r h e z l = ceil_unique n (q +ℤ pos 1) (unsigned_abs m) (abs_pos m h)
    (subst (λ (k : ℤ). (n ≤ℤ ((q +ℤ pos 1) *ℤ k)) × (((q +ℤ pos 1) *ℤ k) <ℤ (n +ℤ k))) (sym (pos_abs m (weak_of m h))) (rw (one_more q m) (step n m (q *ℤ m) r h e z l)))
  where
    step : (n m p r : ℤ) → pos 0 <ℤ m → n ≡ p +ℤ r → pos 0 <ℤ r → r <ℤ m → (n ≤ℤ (p +ℤ m)) × ((p +ℤ m) <ℤ (n +ℤ m))
    step n m p r h e z l = (omega (arith, lins), omega (arith, lins))

    one_more : (q m : ℤ) → (q +ℤ pos 1) *ℤ m ≡ (q *ℤ m) +ℤ m
    one_more q m = ring (q ∷ m ∷ []) ((va 0 ⊕ ko (pos 1)) ⊗ va 1) ((va 0 ⊗ va 1) ⊕ va 1) refl

pub nearest_down : (n m q r : ℤ) → pos 0 <ℤ m → n ≡ (q *ℤ m) +ℤ r → pos 0 ≤ℤ r → r <ℤ (m -ℤ r) → q ≡ nearest_div n (unsigned_abs m)
nearest_down n m q r h e z l = nearest_unique n q (unsigned_abs m) (abs_pos m h)
    (subst (λ (k : ℤ). ((pos 2 *ℤ (q *ℤ k)) ≤ℤ ((pos 2 *ℤ n) +ℤ k)) × (((pos 2 *ℤ n) +ℤ k) <ℤ ((pos 2 *ℤ (q *ℤ k)) +ℤ (pos 2 *ℤ k)))) (sym (pos_abs m (weak_of m h))) (step n m (q *ℤ m) r h e z l))
  where
    step : (n m p r : ℤ) → pos 0 <ℤ m → n ≡ p +ℤ r → pos 0 ≤ℤ r → r <ℤ (m -ℤ r) → ((pos 2 *ℤ p) ≤ℤ ((pos 2 *ℤ n) +ℤ m)) × (((pos 2 *ℤ n) +ℤ m) <ℤ ((pos 2 *ℤ p) +ℤ (pos 2 *ℤ m)))
    step n m p r h e z l = (omega (arith, polys), omega (arith, polys))

pub nearest_up : (n m q r : ℤ) → pos 0 <ℤ m → n ≡ (q *ℤ m) +ℤ r → r <ℤ m → (m -ℤ r) ≤ℤ r → q +ℤ pos 1 ≡ nearest_div n (unsigned_abs m)
nearest_up n m q r h e z l = nearest_unique n (q +ℤ pos 1) (unsigned_abs m) (abs_pos m h)
    (subst (λ (k : ℤ). ((pos 2 *ℤ ((q +ℤ pos 1) *ℤ k)) ≤ℤ ((pos 2 *ℤ n) +ℤ k)) × (((pos 2 *ℤ n) +ℤ k) <ℤ ((pos 2 *ℤ ((q +ℤ pos 1) *ℤ k)) +ℤ (pos 2 *ℤ k))))
    (sym (pos_abs m (weak_of m h))) (rw (one_more q m) (step n m (q *ℤ m) r h e z l)))
  where
    step : (n m p r : ℤ) → pos 0 <ℤ m → n ≡ p +ℤ r → r <ℤ m → (m -ℤ r) ≤ℤ r → ((pos 2 *ℤ (p +ℤ m)) ≤ℤ ((pos 2 *ℤ n) +ℤ m)) × (((pos 2 *ℤ n) +ℤ m) <ℤ ((pos 2 *ℤ (p +ℤ m)) +ℤ (pos 2 *ℤ m)))
    step n m p r h e z l = (omega (arith, polys), omega (arith, polys))

    one_more : (q m : ℤ) → (q +ℤ pos 1) *ℤ m ≡ (q *ℤ m) +ℤ m
    one_more q m = ring (q ∷ m ∷ []) ((va 0 ⊕ ko (pos 1)) ⊗ va 1) ((va 0 ⊗ va 1) ⊕ va 1) refl

-- the quotient and what is left, of numbers that are equal to n, q and m
pub taken_apart : (n' q' m' n q m r : ℤ) → n' ≡ n → q' ≡ q → m' ≡ m → n' ≡ (q' *ℤ m') +ℤ r → n ≡ (q *ℤ m) +ℤ r
taken_apart n' q' m' n q m r a b c v = sym a ∙ v ∙ ap₂ (λ x y. (x *ℤ y) +ℤ r) b c
