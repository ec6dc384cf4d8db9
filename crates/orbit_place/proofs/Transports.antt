-- Boxes hold what is equal to what they hold; the equations of the angles and of the place in the units of the boxes.
use Rattle.std.proofs.Common.{ℕ, [], ◌∷◌, pos, refl, lit<}
use Rattle.whole_math.proofs.Ring.{va, ko, ◌⊕◌, ◌⊖◌, ◌⊗◌, ng}
use Rattle.whole_math.proofs.Inequalities.{same_by, nat}
use Rattle.whole_math.specs.Rational.{Rational, ◌≈◌, ◌+ʳ◌, ◌-ʳ◌, ◌*ʳ◌, times, divided}
use Rattle.whole_math.proofs.RationalLaws.{≈_sym}
use Rattle.whole_math.proofs.Boxes.{InBox-along}
use Rattle.whole_math.proofs.RationalOrders.{equal_r, ◌≐◌}
use Rattle.iv_core.specs.declared.Iv.{Iv}
use Rattle.iv_core.specs.Intervals.{Holds}
use Rattle.trig_box.specs.AnglePairs.{Pair}
use Rattle.orbit_model.specs.Solution.{ArePairs}
use Rattle.orbit_place.specs.Rotations.{HoldsBoth}

pub held_along : {k : ℕ} (b : Iv k) (p q : Rational) → q ≈ p → Holds b p → Holds b q
held_along {k} b p q e h = InBox-along k b.lo b.hi p q (≈_sym q p e) h

pub pair_along : (a b : Iv 60) (p q : Pair) → ArePairs q p → HoldsBoth a b p → HoldsBoth a b q
pair_along a b p q e h = (held_along a p.cos q.cos e.0 h.0, held_along b p.sin q.sin e.1 h.1)

-- A (1 - e cos E) + δr, with another number for δr
pub radius_with : (radius bare change other : Rational) → radius ≈ bare +ʳ change → change ≈ other → radius ≈ bare +ʳ other
radius_with r b c d e f = equal_r (r ∷ b ∷ c ∷ d ∷ []) ((va 0 ≐ va 1 ⊕ va 2) ∷ (va 2 ≐ va 3) ∷ []) (ko (pos 1) ∷ ko (pos 1) ∷ []) (va 0) (va 1 ⊕ va 3) refl (e, (f, tt))

-- a rate times 10^4 times a time over 10^4
scaled_product : (r t : Rational) → times 10000 r *ʳ divided t 10000 (lit< tt) ≈ r *ʳ t
scaled_product r t = same_by (r.num ∷ pos r.den ∷ t.num ∷ pos t.den ∷ []) (λ r d t e. (nat 10000 ⊗ r ⊗ t ⊗ (d ⊗ e), r ⊗ t ⊗ (d ⊗ (nat 10000 ⊗ e)))) refl

scaled_difference : (r s t : Rational) → (times 10000 r -ʳ times 10000 s) *ʳ divided t 10000 (lit< tt) ≈ (r -ʳ s) *ʳ t
scaled_difference r s t = same_by (r.num ∷ pos r.den ∷ s.num ∷ pos s.den ∷ t.num ∷ pos t.den ∷ [])
    (λ r d s e t f. ((nat 10000 ⊗ r ⊗ e ⊖ nat 10000 ⊗ s ⊗ d) ⊗ t ⊗ (d ⊗ e ⊗ f), (r ⊗ e ⊖ s ⊗ d) ⊗ t ⊗ (d ⊗ e ⊗ (nat 10000 ⊗ f)))) refl

-- i0 + δi + IDOT tk
pub inclination_with : (inclination start change other rate time : Rational) → inclination ≈ start +ʳ change +ʳ rate *ʳ time → change ≈ other →
    inclination ≈ start +ʳ other +ʳ times 10000 rate *ʳ divided time 10000 (lit< tt)
inclination_with i s c d r t e f =
    equal_r (i ∷ s ∷ c ∷ d ∷ r *ʳ t ∷ times 10000 r *ʳ divided t 10000 (lit< tt) ∷ [])
    ((va 0 ≐ va 1 ⊕ va 2 ⊕ va 4) ∷ (va 2 ≐ va 3) ∷ (va 5 ≐ va 4) ∷ []) (ko (pos 1) ∷ ko (pos 1) ∷ ng (ko (pos 1)) ∷ [])
    (va 0) (va 1 ⊕ va 3 ⊕ va 5) refl (e, (f, (scaled_product r t, tt)))

-- Ω0 + (Ωdot - Ωe) tk - Ωe toe
pub node_with : (node start rate earth time second whole : Rational) → node ≈ start +ʳ (rate -ʳ earth) *ʳ time -ʳ earth *ʳ second → second ≈ whole →
    node ≈ start +ʳ (times 10000 rate -ʳ times 10000 earth) *ʳ divided time 10000 (lit< tt) -ʳ earth *ʳ whole
node_with n s r o t u w e f =
    equal_r (n ∷ s ∷ (r -ʳ o) *ʳ t ∷ (times 10000 r -ʳ times 10000 o) *ʳ divided t 10000 (lit< tt) ∷ o ∷ u ∷ w ∷ [])
    ((va 0 ≐ va 1 ⊕ va 2 ⊖ va 4 ⊗ va 5) ∷ (va 3 ≐ va 2) ∷ (va 5 ≐ va 6) ∷ []) (ko (pos 1) ∷ ng (ko (pos 1)) ∷ ng (va 4) ∷ [])
    (va 0) (va 1 ⊕ va 3 ⊖ va 4 ⊗ va 6) refl (e, (scaled_difference r o t, (f, tt)))

-- ---- the place: the radius times the direction
-- x' cos Ω - y' cos i sin Ω
pub x_with : (x px py r uc us nc ns ic : Rational) → px ≈ r *ʳ uc → py ≈ r *ʳ us → x ≈ px *ʳ nc -ʳ py *ʳ ic *ʳ ns →
    x ≈ r *ʳ (uc *ʳ nc -ʳ us *ʳ ic *ʳ ns)
x_with x px py r uc us nc ns ic e f g = equal_r (x ∷ px ∷ py ∷ r ∷ uc ∷ us ∷ nc ∷ ns ∷ ic ∷ []) ((va 1 ≐ va 3 ⊗ va 4) ∷ (va 2 ≐ va 3 ⊗ va 5) ∷ (va 0 ≐ va 1 ⊗ va 6 ⊖ va 2 ⊗ va 8 ⊗ va 7) ∷ [])
    (va 6 ∷ ng (va 8 ⊗ va 7) ∷ ko (pos 1) ∷ []) (va 0) (va 3 ⊗ (va 4 ⊗ va 6 ⊖ va 5 ⊗ va 8 ⊗ va 7)) refl (e, (f, (g, tt)))

-- x' sin Ω + y' cos i cos Ω
pub y_with : (y px py r uc us nc ns ic : Rational) → px ≈ r *ʳ uc → py ≈ r *ʳ us → y ≈ px *ʳ ns +ʳ py *ʳ ic *ʳ nc →
    y ≈ r *ʳ (uc *ʳ ns +ʳ us *ʳ ic *ʳ nc)
y_with y px py r uc us nc ns ic e f g = equal_r (y ∷ px ∷ py ∷ r ∷ uc ∷ us ∷ nc ∷ ns ∷ ic ∷ []) ((va 1 ≐ va 3 ⊗ va 4) ∷ (va 2 ≐ va 3 ⊗ va 5) ∷ (va 0 ≐ va 1 ⊗ va 7 ⊕ va 2 ⊗ va 8 ⊗ va 6) ∷ [])
    (va 7 ∷ (va 8 ⊗ va 6) ∷ ko (pos 1) ∷ []) (va 0) (va 3 ⊗ (va 4 ⊗ va 7 ⊕ va 5 ⊗ va 8 ⊗ va 6)) refl (e, (f, (g, tt)))

-- y' sin i
pub z_with : (z py r us is : Rational) → py ≈ r *ʳ us → z ≈ py *ʳ is → z ≈ r *ʳ (us *ʳ is)
z_with z py r us is f g = equal_r (z ∷ py ∷ r ∷ us ∷ is ∷ []) ((va 1 ≐ va 2 ⊗ va 3) ∷ (va 0 ≐ va 1 ⊗ va 4) ∷ []) (va 4 ∷ ko (pos 1) ∷ []) (va 0) (va 2 ⊗ (va 3 ⊗ va 4)) refl (f, (g, tt))
