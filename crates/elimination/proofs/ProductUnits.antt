-- What is left of a product's units, and where it says a quotient.
use Rattle.std.proofs.Common.{◌≡◌, refl, [], ◌∷◌, ℕ, ◌+◌, ◌*◌, ◌^◌, ◌<◌, ◌≤◌, ℤ, pos, ◌+ℤ◌, ◌-ℤ◌, ◌*ℤ◌, neg_ℤ, ◌<ℤ◌, ◌≤ℤ◌, unsigned_abs, arith, sym, ap, ◌∙◌, subst}
use Rattle.whole_math.specs.Rounding.{nearest_div, ceil_div}
use Rattle.whole_math.proofs.Order.{lins, polys, abs_mul_le, mul_nn, mul_le_right}
use Rattle.whole_math.proofs.Inequalities.{same_by, nat}
use Rattle.whole_math.proofs.Ring.{◌⊕◌, ◌⊖◌, ◌⊗◌}
use Rattle.whole_math.proofs.Rounding.{nearest_unique, ceil_unique}
use Rattle.whole_math.proofs.Absolute.{abs_pos}
use Rattle.elimination.proofs.NewEntries.{positive_is}

-- x / a is the nearest where what is left is at most half of a on either side
half_left : (n x a t : ℤ) → t ≡ pos 2 *ℤ (n -ℤ x) → neg_ℤ a ≤ℤ t → t <ℤ a →
    ((pos 2 *ℤ x) ≤ℤ ((pos 2 *ℤ n) +ℤ a)) × (((pos 2 *ℤ n) +ℤ a) <ℤ ((pos 2 *ℤ x) +ℤ (pos 2 *ℤ a)))
half_left n x a t h l u = (omega (arith, polys), omega (arith, polys))

guessed_nearest : (n a q t : ℤ) → pos 0 <ℤ a → t ≡ pos 2 *ℤ (n -ℤ (q *ℤ a)) → neg_ℤ a ≤ℤ t → t <ℤ a → q ≡ nearest_div n (unsigned_abs a)
guessed_nearest n a q t p h l u = nearest_unique n q (unsigned_abs a) (abs_pos a p) (subst (λ (m : ℤ). ((pos 2 *ℤ (q *ℤ m)) ≤ℤ ((pos 2 *ℤ n) +ℤ m)) ×
    (((pos 2 *ℤ n) +ℤ m) <ℤ ((pos 2 *ℤ (q *ℤ m)) +ℤ (pos 2 *ℤ m)))) (positive_is a p) (half_left n (q *ℤ a) a t h l u))

-- ---- the quotient upward
-- x / a and 1 more is the quotient upward where what is left is above 0 and at most a
left_above : (n x a t : ℤ) → t ≡ pos 2 *ℤ (n -ℤ x) → pos 0 <ℤ t → t ≤ℤ (pos 2 *ℤ a) → (n ≤ℤ (x +ℤ a)) × ((x +ℤ a) <ℤ (n +ℤ a))
left_above n x a t h l u = (omega (arith, polys), omega (arith, polys))

next_product : (q a : ℤ) → (q +ℤ pos 1) *ℤ a ≡ (q *ℤ a) +ℤ a
next_product q a = same_by (q ∷ a ∷ []) (λ q a. ((q ⊕ nat 1) ⊗ a, (q ⊗ a) ⊕ a)) refl

is_ceil : (n a q : ℤ) → pos 0 <ℤ a → (n ≤ℤ (q *ℤ a)) × ((q *ℤ a) <ℤ (n +ℤ a)) → q ≡ ceil_div n (unsigned_abs a)
is_ceil n a q p h = ceil_unique n q (unsigned_abs a) (abs_pos a p) (subst (λ (m : ℤ). (n ≤ℤ (q *ℤ m)) × ((q *ℤ m) <ℤ (n +ℤ m))) (positive_is a p) h)

guessed_ceil_next : (n a q t : ℤ) → pos 0 <ℤ a → t ≡ pos 2 *ℤ (n -ℤ (q *ℤ a)) → pos 0 <ℤ t → t ≤ℤ (pos 2 *ℤ a) → q +ℤ pos 1 ≡ ceil_div n (unsigned_abs a)
guessed_ceil_next n a q t p h l u = is_ceil n a (q +ℤ pos 1) p (subst (λ (x : ℤ). (n ≤ℤ x) × (x <ℤ (n +ℤ a))) (sym (next_product q a)) (left_above n (q *ℤ a) a t h l u))

-- ---- a quotient that is read from the units of a product with a ratio in units of 2^-61
-- 2^64 times what a quotient g leaves and half a unit, by what is left of the units and what the ratio misses
units_left : (p q a s g : ℤ) → ((pos (2 ^ 64) *ℤ ((p *ℤ q) -ℤ (g *ℤ a))) +ℤ (pos (2 ^ 63) *ℤ a)) -ℤ (pos (2 ^ 55) *ℤ a)
    ≡ (((((s *ℤ (pos 8 *ℤ q)) +ℤ pos (2 ^ 63)) -ℤ pos (2 ^ 55)) -ℤ (pos (2 ^ 64) *ℤ g)) *ℤ a) -ℤ (pos 8 *ℤ (q *ℤ ((s *ℤ a) -ℤ (pos (2 ^ 61) *ℤ p))))
units_left p q a s g = same_by (p ∷ q ∷ a ∷ s ∷ g ∷ [])
    (λ p q a s g. (
      ((nat (2 ^ 64) ⊗ ((p ⊗ q) ⊖ (g ⊗ a))) ⊕ (nat (2 ^ 63) ⊗ a)) ⊖ (nat (2 ^ 55) ⊗ a),
      (((((s ⊗ (nat 8 ⊗ q)) ⊕ nat (2 ^ 63)) ⊖ nat (2 ^ 55)) ⊖ (nat (2 ^ 64) ⊗ g)) ⊗ a) ⊖ (nat 8 ⊗ (q ⊗ ((s ⊗ a) ⊖ (nat (2 ^ 61) ⊗ p)))),
    )) refl

margin_times : (x a : ℤ) → ((x +ℤ pos (2 ^ 56)) +ℤ pos 1) *ℤ a ≡ ((x *ℤ a) +ℤ (pos (2 ^ 56) *ℤ a)) +ℤ a
margin_times x a = same_by (x ∷ a ∷ []) (λ x a. (((x ⊕ nat (2 ^ 56)) ⊕ nat 1) ⊗ a, ((x ⊗ a) ⊕ (nat (2 ^ 56) ⊗ a)) ⊕ a)) refl

-- the rest of the units times a, from 0 to a margin below one unit
rest_times : (x a : ℤ) → pos 0 <ℤ a → pos 0 ≤ℤ x → ((x +ℤ pos (2 ^ 56)) +ℤ pos 1) ≤ℤ pos (2 ^ 64) →
    (pos 0 ≤ℤ (x *ℤ a)) × ((((x *ℤ a) +ℤ (pos (2 ^ 56) *ℤ a)) +ℤ a) ≤ℤ (pos (2 ^ 64) *ℤ a))
rest_times x a p l u =
    let from : pos 0 ≤ℤ a = omega (arith, lins, p) in
    (mul_nn x a l from, subst (λ (z : ℤ). z ≤ℤ (pos (2 ^ 64) *ℤ a)) (margin_times x a) (mul_le_right a ((x +ℤ pos (2 ^ 56)) +ℤ pos 1) (pos (2 ^ 64)) from u))

-- what a quotient leaves, r, is at most half of a on either side
half_units : (r a x v : ℤ) → pos 0 <ℤ a → ((pos (2 ^ 64) *ℤ r) +ℤ (pos (2 ^ 63) *ℤ a)) -ℤ (pos (2 ^ 55) *ℤ a) ≡ x -ℤ (pos 8 *ℤ v) → pos 0 ≤ℤ x →
    ((x +ℤ (pos (2 ^ 56) *ℤ a)) +ℤ a) ≤ℤ (pos (2 ^ 64) *ℤ a) → unsigned_abs v ≤ 2 ^ 52 * unsigned_abs a → (neg_ℤ a ≤ℤ (pos 2 *ℤ r)) × ((pos 2 *ℤ r) <ℤ a)
half_units r a x v p e l u m = (omega (arith, polys), omega (arith, polys))

-- what is left of the units, by the number that they are of
pub rest_is : (x y g r : ℤ) → x ≡ y → x ≡ (pos (2 ^ 64) *ℤ g) +ℤ r → r ≡ y -ℤ (pos (2 ^ 64) *ℤ g)
rest_is x y g r e f = omega (arith, lins)

pub below_margin : (r t : ℕ) → r < t → t + 2 ^ 56 ≤ 2 ^ 64 → ((pos r +ℤ pos (2 ^ 56)) +ℤ pos 1) ≤ℤ pos (2 ^ 64)
below_margin r t h g = omega (arith, lins)

pub from_none : (r : ℕ) → pos 0 ≤ℤ pos r
from_none r = omega (arith, lins)

pub read_nearest : (p q a s g x : ℤ) → pos 0 <ℤ a → unsigned_abs q ≤ 2 ^ 52 → unsigned_abs ((s *ℤ a) -ℤ (pos (2 ^ 61) *ℤ p)) ≤ unsigned_abs a →
    x ≡ (((s *ℤ (pos 8 *ℤ q)) +ℤ pos (2 ^ 63)) -ℤ pos (2 ^ 55)) -ℤ (pos (2 ^ 64) *ℤ g) → pos 0 ≤ℤ x → ((x +ℤ pos (2 ^ 56)) +ℤ pos 1) ≤ℤ pos (2 ^ 64) →
    g ≡ nearest_div (p *ℤ q) (unsigned_abs a)
read_nearest p q a s g x positive small near e l u =
    let left : ((pos (2 ^ 64) *ℤ ((p *ℤ q) -ℤ (g *ℤ a))) +ℤ (pos (2 ^ 63) *ℤ a)) -ℤ (pos (2 ^ 55) *ℤ a) ≡ (x *ℤ a) -ℤ (pos 8 *ℤ (q *ℤ ((s *ℤ a) -ℤ (pos (2 ^ 61) *ℤ p)))) =
    units_left p q a s g ∙ ap (λ z. (z *ℤ a) -ℤ (pos 8 *ℤ (q *ℤ ((s *ℤ a) -ℤ (pos (2 ^ 61) *ℤ p))))) (sym e) in
    let rest = rest_times x a positive l u in
    let missed : unsigned_abs (q *ℤ ((s *ℤ a) -ℤ (pos (2 ^ 61) *ℤ p))) ≤ 2 ^ 52 * unsigned_abs a = abs_mul_le q ((s *ℤ a) -ℤ (pos (2 ^ 61) *ℤ p)) (2 ^ 52) (unsigned_abs a) small near in
    let ends = half_units ((p *ℤ q) -ℤ (g *ℤ a)) a (x *ℤ a) (q *ℤ ((s *ℤ a) -ℤ (pos (2 ^ 61) *ℤ p))) positive left rest.0 rest.1 missed in
    guessed_nearest (p *ℤ q) a g (pos 2 *ℤ ((p *ℤ q) -ℤ (g *ℤ a))) positive refl ends.0 ends.1

-- the same of a quotient upward
units_below : (p a s g : ℤ) → ((pos (2 ^ 64) *ℤ ((p *ℤ p) -ℤ (g *ℤ a))) -ℤ (pos (2 ^ 55) *ℤ a)) -ℤ a
    ≡ (((((s *ℤ (pos 8 *ℤ p)) -ℤ pos (2 ^ 55)) -ℤ pos 1) -ℤ (pos (2 ^ 64) *ℤ g)) *ℤ a) -ℤ (pos 8 *ℤ (p *ℤ ((s *ℤ a) -ℤ (pos (2 ^ 61) *ℤ p))))
units_below p a s g = same_by (p ∷ a ∷ s ∷ g ∷ [])
    (λ p a s g. (
      ((nat (2 ^ 64) ⊗ ((p ⊗ p) ⊖ (g ⊗ a))) ⊖ (nat (2 ^ 55) ⊗ a)) ⊖ a,
      (((((s ⊗ (nat 8 ⊗ p)) ⊖ nat (2 ^ 55)) ⊖ nat 1) ⊖ (nat (2 ^ 64) ⊗ g)) ⊗ a) ⊖ (nat 8 ⊗ (p ⊗ ((s ⊗ a) ⊖ (nat (2 ^ 61) ⊗ p)))),
    )) refl

-- what a quotient leaves, r, is above 0 and at most a
above_units : (r a x v : ℤ) → pos 0 <ℤ a → ((pos (2 ^ 64) *ℤ r) -ℤ (pos (2 ^ 55) *ℤ a)) -ℤ a ≡ x -ℤ (pos 8 *ℤ v) → pos 0 ≤ℤ x →
    ((x +ℤ (pos (2 ^ 56) *ℤ a)) +ℤ a) ≤ℤ (pos (2 ^ 64) *ℤ a) → unsigned_abs v ≤ 2 ^ 52 * unsigned_abs a → (pos 0 <ℤ (pos 2 *ℤ r)) × ((pos 2 *ℤ r) ≤ℤ (pos 2 *ℤ a))
above_units r a x v p e l u m = (omega (arith, polys), omega (arith, polys))

pub read_ceil : (p a s g x : ℤ) → pos 0 <ℤ a → unsigned_abs p ≤ 2 ^ 52 → unsigned_abs ((s *ℤ a) -ℤ (pos (2 ^ 61) *ℤ p)) ≤ unsigned_abs a →
    x ≡ (((s *ℤ (pos 8 *ℤ p)) -ℤ pos (2 ^ 55)) -ℤ pos 1) -ℤ (pos (2 ^ 64) *ℤ g) → pos 0 ≤ℤ x → ((x +ℤ pos (2 ^ 56)) +ℤ pos 1) ≤ℤ pos (2 ^ 64) →
    g +ℤ pos 1 ≡ ceil_div (p *ℤ p) (unsigned_abs a)
read_ceil p a s g x positive small near e l u =
    let left : ((pos (2 ^ 64) *ℤ ((p *ℤ p) -ℤ (g *ℤ a))) -ℤ (pos (2 ^ 55) *ℤ a)) -ℤ a ≡ (x *ℤ a) -ℤ (pos 8 *ℤ (p *ℤ ((s *ℤ a) -ℤ (pos (2 ^ 61) *ℤ p)))) =
    units_below p a s g ∙ ap (λ z. (z *ℤ a) -ℤ (pos 8 *ℤ (p *ℤ ((s *ℤ a) -ℤ (pos (2 ^ 61) *ℤ p))))) (sym e) in
    let rest = rest_times x a positive l u in
    let missed : unsigned_abs (p *ℤ ((s *ℤ a) -ℤ (pos (2 ^ 61) *ℤ p))) ≤ 2 ^ 52 * unsigned_abs a = abs_mul_le p ((s *ℤ a) -ℤ (pos (2 ^ 61) *ℤ p)) (2 ^ 52) (unsigned_abs a) small near in
    let ends = above_units ((p *ℤ p) -ℤ (g *ℤ a)) a (x *ℤ a) (p *ℤ ((s *ℤ a) -ℤ (pos (2 ^ 61) *ℤ p))) positive left rest.0 rest.1 missed in
    guessed_ceil_next (p *ℤ p) a g (pos 2 *ℤ ((p *ℤ p) -ℤ (g *ℤ a))) positive refl ends.0 ends.1
