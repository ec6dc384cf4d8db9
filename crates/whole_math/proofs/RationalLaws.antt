-- The laws of rationals: equality, order, and the ring.
use Rattle.std.proofs.Common.{◌≡◌, ℕ, ◌*◌, ◌<◌, ◌⊎◌, inl, inr, [], ◌∷◌, ℤ, pos, ◌+ℤ◌, ◌*ℤ◌, ◌≤ℤ◌, arith, sym, refl}
use Rattle.std.proofs.lemmas.Int.{ints, by_lt_z}
use Rattle.whole_math.proofs.Ring.{ring, va, ◌⊕◌, ◌⊖◌, ◌⊗◌, ng}
use Rattle.whole_math.proofs.Inequalities.{same_by, nat, pos_nn}
use Rattle.whole_math.proofs.Order.{lins, mul_le_right, mul_le_cancel, eq_by, le_by_factor, mul_nn, square_nn}
use Rattle.whole_math.specs.Rational.{Rational, of_whole, ◌+ʳ◌, neg_r, ◌-ʳ◌, ◌*ʳ◌, ◌≈◌, ◌≤ʳ◌, ◌<ʳ◌}

-- ---- equality
pub ≈_sym : (p q : Rational) → p ≈ q → q ≈ p
≈_sym p q h = sym h

-- ---- order
trans : (a b c : ℤ) (d e f : ℕ) → 0 < e → (a *ℤ pos e) ≤ℤ (b *ℤ pos d) → (b *ℤ pos f) ≤ℤ (c *ℤ pos e) → (a *ℤ pos f) ≤ℤ (c *ℤ pos d)
trans a b c d e f h i j =
    let left_at_most : ((a *ℤ pos e) *ℤ pos f) ≤ℤ ((b *ℤ pos d) *ℤ pos f) = mul_le_right (pos f) (a *ℤ pos e) (b *ℤ pos d) (pos_nn f) i in
    let right_at_most : ((b *ℤ pos f) *ℤ pos d) ≤ℤ ((c *ℤ pos e) *ℤ pos d) = mul_le_right (pos d) (b *ℤ pos f) (c *ℤ pos e) (pos_nn d) j in
    mul_le_cancel (a *ℤ pos f) (c *ℤ pos d) e h (omega (arith, lins, turn a e f, turn b d f, turn c e d))
  where
    turn : (a : ℤ) (m n : ℕ) → (a *ℤ pos m) *ℤ pos n ≡ (a *ℤ pos n) *ℤ pos m
    turn a m n = ring (a ∷ (pos m) ∷ (pos n) ∷ []) ((va 0 ⊗ va 1) ⊗ va 2) ((va 0 ⊗ va 2) ⊗ va 1) refl

pub ≤ʳ_trans : (p q r : Rational) → p ≤ʳ q → q ≤ʳ r → p ≤ʳ r
≤ʳ_trans p q r h g = trans p.num q.num r.num p.den q.den r.den q.positive h g

pub ≤ʳ_total : (p q : Rational) → (p ≤ʳ q) ⊎ (q ≤ʳ p)
≤ʳ_total p q = by_lt_z (p.num *ℤ pos q.den) (q.num *ℤ pos p.den) (λ l. inl (omega (arith, lins))) (λ l. inr l)

pub ≤ʳ_from_same : (p q : Rational) → p ≈ q → p ≤ʳ q
≤ʳ_from_same p q h = omega (arith, lins, h)

pub ≤ʳ_antisym : (p q : Rational) → p ≤ʳ q → q ≤ʳ p → p ≈ q
≤ʳ_antisym p q h g = omega (arith, lins, h, g)

pub ≈_trans : (p q r : Rational) → p ≈ q → q ≈ r → p ≈ r
≈_trans p q r h g = ≤ʳ_antisym p r (≤ʳ_trans p q r (≤ʳ_from_same p q h) (≤ʳ_from_same q r g)) (≤ʳ_trans r q p (≤ʳ_from_same r q (≈_sym q r g)) (≤ʳ_from_same q p (≈_sym p q h)))

-- ---- the ring
pub add_r-comm : (p q : Rational) → p +ʳ q ≈ q +ʳ p
add_r-comm p q = ring (p.num ∷ (pos q.den) ∷ q.num ∷ (pos p.den) ∷ []) (((va 0 ⊗ va 1) ⊕ (va 2 ⊗ va 3)) ⊗ (va 1 ⊗ va 3)) (((va 2 ⊗ va 3) ⊕ (va 0 ⊗ va 1)) ⊗ (va 3 ⊗ va 1)) refl

pub add_r-assoc : (p q r : Rational) → p +ʳ q +ʳ r ≈ p +ʳ (q +ʳ r)
add_r-assoc p q r = ring (p.num ∷ (pos q.den) ∷ q.num ∷ (pos p.den) ∷ (pos r.den) ∷ r.num ∷ [])
    (((((va 0 ⊗ va 1) ⊕ (va 2 ⊗ va 3)) ⊗ va 4) ⊕ (va 5 ⊗ (va 3 ⊗ va 1))) ⊗ (va 3 ⊗ (va 1 ⊗ va 4)))
    (((va 0 ⊗ (va 1 ⊗ va 4)) ⊕ (((va 2 ⊗ va 4) ⊕ (va 5 ⊗ va 1)) ⊗ va 3)) ⊗ ((va 3 ⊗ va 1) ⊗ va 4)) refl

pub mul_r-comm : (p q : Rational) → p *ʳ q ≈ q *ʳ p
mul_r-comm p q = ring (p.num ∷ q.num ∷ (pos q.den) ∷ (pos p.den) ∷ []) ((va 0 ⊗ va 1) ⊗ (va 2 ⊗ va 3)) ((va 1 ⊗ va 0) ⊗ (va 3 ⊗ va 2)) refl

pub mul_r-assoc : (p q r : Rational) → p *ʳ q *ʳ r ≈ p *ʳ (q *ʳ r)
mul_r-assoc p q r = ring (p.num ∷ q.num ∷ r.num ∷ (pos p.den) ∷ (pos q.den) ∷ (pos r.den) ∷ []) (((va 0 ⊗ va 1) ⊗ va 2) ⊗ (va 3 ⊗ (va 4 ⊗ va 5))) ((va 0 ⊗ (va 1 ⊗ va 2)) ⊗ ((va 3 ⊗ va 4) ⊗ va 5)) refl

pub mul_r-add : (p q r : Rational) → p *ʳ (q +ʳ r) ≈ p *ʳ q +ʳ p *ʳ r
mul_r-add p q r = ring (p.num ∷ q.num ∷ (pos r.den) ∷ r.num ∷ (pos q.den) ∷ (pos p.den) ∷ []) ((va 0 ⊗ ((va 1 ⊗ va 2) ⊕ (va 3 ⊗ va 4)))
    ⊗ ((va 5 ⊗ va 4) ⊗ (va 5 ⊗ va 2))) ((((va 0 ⊗ va 1) ⊗ (va 5 ⊗ va 2)) ⊕ ((va 0 ⊗ va 3) ⊗ (va 5 ⊗ va 4))) ⊗ (va 5 ⊗ (va 4 ⊗ va 2))) refl

-- ---- equal operands
pub add_r-same : (p q r : Rational) → p ≈ q → p +ʳ r ≈ q +ʳ r
add_r-same p q r h = eq_by (((p.num *ℤ pos r.den) +ℤ (r.num *ℤ pos p.den)) *ℤ (pos q.den *ℤ pos r.den)) (((q.num *ℤ pos r.den) +ℤ (r.num *ℤ pos q.den)) *ℤ (pos p.den *ℤ pos r.den))
    (p.num *ℤ pos q.den) (q.num *ℤ pos p.den) (pos r.den *ℤ pos r.den) h
    (ring (p.num ∷ (pos r.den) ∷ r.num ∷ (pos p.den) ∷ (pos q.den) ∷ q.num ∷ []) ((((va 0 ⊗ va 1) ⊕ (va 2 ⊗ va 3)) ⊗ (va 4 ⊗ va 1))
    ⊖ (((va 5 ⊗ va 1) ⊕ (va 2 ⊗ va 4)) ⊗ (va 3 ⊗ va 1))) ((va 1 ⊗ va 1) ⊗ ((va 0 ⊗ va 4) ⊖ (va 5 ⊗ va 3))) refl)

pub mul_r-same : (p q r : Rational) → p ≈ q → p *ʳ r ≈ q *ʳ r
mul_r-same p q r h = eq_by ((p.num *ℤ r.num) *ℤ (pos q.den *ℤ pos r.den)) ((q.num *ℤ r.num) *ℤ (pos p.den *ℤ pos r.den))
    (p.num *ℤ pos q.den) (q.num *ℤ pos p.den) (r.num *ℤ pos r.den) h
    (ring (p.num ∷ r.num ∷ (pos q.den) ∷ (pos r.den) ∷ q.num ∷ (pos p.den) ∷ []) (((va 0 ⊗ va 1) ⊗ (va 2 ⊗ va 3)) ⊖ ((va 4 ⊗ va 1) ⊗ (va 5 ⊗ va 3)))
    ((va 1 ⊗ va 3) ⊗ ((va 0 ⊗ va 2) ⊖ (va 4 ⊗ va 5))) refl)

-- ---- order and the ring
pub add_r-mono : (p q r : Rational) → p ≤ʳ q → p +ʳ r ≤ʳ q +ʳ r
add_r-mono p q r h = le_by_factor (((p.num *ℤ pos r.den) +ℤ (r.num *ℤ pos p.den)) *ℤ (pos q.den *ℤ pos r.den)) (((q.num *ℤ pos r.den) +ℤ (r.num *ℤ pos q.den)) *ℤ (pos p.den *ℤ pos r.den))
    (p.num *ℤ pos q.den) (q.num *ℤ pos p.den) (pos r.den *ℤ pos r.den) h (pos_nn (r.den * r.den))
    (ring (q.num ∷ (pos r.den) ∷ r.num ∷ (pos q.den) ∷ (pos p.den) ∷ p.num ∷ []) ((((va 0 ⊗ va 1) ⊕ (va 2 ⊗ va 3)) ⊗ (va 4 ⊗ va 1))
    ⊖ (((va 5 ⊗ va 1) ⊕ (va 2 ⊗ va 4)) ⊗ (va 3 ⊗ va 1))) ((va 1 ⊗ va 1) ⊗ ((va 0 ⊗ va 4) ⊖ (va 5 ⊗ va 3))) refl)

pub mul_r-mono : (p q r : Rational) → pos 0 ≤ℤ r.num → p ≤ʳ q → p *ʳ r ≤ʳ q *ʳ r
mul_r-mono p q r k h = le_by_factor ((p.num *ℤ r.num) *ℤ (pos q.den *ℤ pos r.den)) ((q.num *ℤ r.num) *ℤ (pos p.den *ℤ pos r.den))
    (p.num *ℤ pos q.den) (q.num *ℤ pos p.den) (r.num *ℤ pos r.den) h (mul_nn r.num (pos r.den) k (pos_nn r.den))
    (ring (q.num ∷ r.num ∷ (pos p.den) ∷ (pos r.den) ∷ p.num ∷ (pos q.den) ∷ []) (((va 0 ⊗ va 1) ⊗ (va 2 ⊗ va 3)) ⊖ ((va 4 ⊗ va 1) ⊗ (va 5 ⊗ va 3)))
    ((va 1 ⊗ va 3) ⊗ ((va 0 ⊗ va 2) ⊖ (va 4 ⊗ va 5))) refl)

-- ---- the strict order
pub <ʳ_not : (p q : Rational) → p <ʳ q → q ≤ʳ p → ⊥
<ʳ_not p q h g = omega (arith, lins, h, g)

pub not_≤ʳ : (p q : Rational) → (p ≤ʳ q) ⊎ (q <ʳ p)
not_≤ʳ p q = by_lt_z (q.num *ℤ pos p.den) (p.num *ℤ pos q.den) (λ l. inr l) (λ l. inl l)

-- an order holds of equal rationals alike
pub ≤ʳ_along : (p p' q q' : Rational) → p ≈ p' → q ≈ q' → p ≤ʳ q → p' ≤ʳ q'
≤ʳ_along p p' q q' e f h = ≤ʳ_trans p' p q' (≤ʳ_from_same p' p (≈_sym p p' e)) (≤ʳ_trans p q q' h (≤ʳ_from_same q q' f))

-- ---- whole numbers, 0, and the negative
pub of_whole-add : (a b : ℤ) → of_whole (a +ℤ b) ≈ of_whole a +ʳ of_whole b
of_whole-add a b = same_by (a ∷ b ∷ []) (λ a b. ((a ⊕ b) ⊗ (nat 1 ⊗ nat 1), (a ⊗ nat 1 ⊕ b ⊗ nat 1) ⊗ nat 1)) refl

pub of_whole-mul : (a b : ℤ) → of_whole (a *ℤ b) ≈ of_whole a *ʳ of_whole b
of_whole-mul a b = same_by (a ∷ b ∷ []) (λ a b. (a ⊗ b ⊗ (nat 1 ⊗ nat 1), a ⊗ b ⊗ nat 1)) refl

pub of_whole-le : (a b : ℤ) → a ≤ℤ b → of_whole a ≤ʳ of_whole b
of_whole-le a b h = mul_le_right (pos 1) a b (pos_nn 1) h

pub add_r-zero : (p : Rational) → p +ʳ of_whole (pos 0) ≈ p
add_r-zero p = same_by (p.num ∷ pos p.den ∷ []) (λ a d. ((a ⊗ nat 1 ⊕ nat 0 ⊗ d) ⊗ d, a ⊗ (d ⊗ nat 1))) refl

pub mul_r-one : (p : Rational) → p *ʳ of_whole (pos 1) ≈ p
mul_r-one p = same_by (p.num ∷ pos p.den ∷ []) (λ a d. (a ⊗ nat 1 ⊗ d, a ⊗ (d ⊗ nat 1))) refl

pub add_r-neg : (p : Rational) → p +ʳ neg_r p ≈ of_whole (pos 0)
add_r-neg p = same_by (p.num ∷ pos p.den ∷ []) (λ a d. ((a ⊗ d ⊕ ng a ⊗ d) ⊗ nat 1, nat 0 ⊗ (d ⊗ d))) refl

pub sub_r-is : (p q : Rational) → p -ʳ q ≈ p +ʳ neg_r q
sub_r-is p q = same_by (p.num ∷ pos p.den ∷ q.num ∷ pos q.den ∷ []) (λ a d b e. ((a ⊗ e ⊖ b ⊗ d) ⊗ (d ⊗ e), (a ⊗ e ⊕ ng b ⊗ d) ⊗ (d ⊗ e))) refl

pub square_r-nonneg : (p : Rational) → of_whole (pos 0) ≤ʳ p *ʳ p
square_r-nonneg p = step (p.num *ℤ p.num) (p.den * p.den) (square_nn p.num)
  where
    step : (a : ℤ) (d : ℕ) → pos 0 ≤ℤ a → (pos 0 *ℤ pos d) ≤ℤ (a *ℤ pos 1)
    step a d h = omega (arith, ints)
