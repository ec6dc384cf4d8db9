-- Inequalities of the bisection to a travel time, each by a certificate.
-- The terms are made: tools/inequality_certificate.py writes a lemma from its claim and the products of its hypotheses,
-- h0, h1, .. in the order in which they stand: they are over each lemma, after `by`. Who changes a claim writes its term anew there;
-- the check proves what is written.
use Rattle.std.proofs.Common.{[], ◌∷◌, pos, arith, refl}
use Rattle.std.proofs.lemmas.Int.{ints}
use Rattle.whole_math.proofs.Ring.{va, ko, ◌⊕◌, ◌⊖◌, ◌⊗◌, ng}
use Rattle.whole_math.proofs.Certificates.{◌≼◌, hy, nm, sq, ◌⊞◌, ◌⊠◌}
use Rattle.whole_math.specs.Rational.{Rational, ◌≤ʳ◌, of_whole, ◌+ʳ◌, ◌-ʳ◌, ◌*ʳ◌, neg_r}
use Rattle.orbit_model.proofs.Orders.{cert_r, cancel_r}

-- by h0 + sq(y) + sq(z)
pub coordinate_square : (x y z b : Rational) → x *ʳ x +ʳ y *ʳ y +ʳ z *ʳ z ≤ʳ b *ʳ b → x *ʳ x ≤ʳ b *ʳ b
coordinate_square x y z b h0 =
    cert_r (x ∷ y ∷ z ∷ b ∷ []) ((((((va 0) ⊗ (va 0)) ⊕ ((va 1) ⊗ (va 1))) ⊕ ((va 2) ⊗ (va 2))) ≼ ((va 3) ⊗ (va 3))) ∷ []) ((va 0) ⊗ (va 0))
    ((va 3) ⊗ (va 3)) (((hy 0) ⊞ (sq (va 1))) ⊞ (sq (va 2))) refl (h0, tt)

-- x moves by at most 4·38,000,000 d where both parts of the pair move by at most 2d
-- by h1*h5 + h0*h4 + h3*h7 + h2*h6
pub first_move : (c s e t x y d : Rational) → c -ʳ e ≤ʳ of_whole (pos 2) *ʳ d → e -ʳ c ≤ʳ of_whole (pos 2) *ʳ d
    → s -ʳ t ≤ʳ of_whole (pos 2) *ʳ d → t -ʳ s ≤ʳ of_whole (pos 2) *ʳ d → x ≤ʳ of_whole (pos 38000000)
    → neg_r (x) ≤ʳ of_whole (pos 38000000) → y ≤ʳ of_whole (pos 38000000) → neg_r (y) ≤ʳ of_whole (pos 38000000)
    → e *ʳ x +ʳ t *ʳ y -ʳ (c *ʳ x +ʳ s *ʳ y) ≤ʳ of_whole (pos 152000000) *ʳ d
first_move c s e t x y d h0 h1 h2 h3 h4 h5 h6 h7 =
    cancel_r (of_whole (pos 2)) (e *ʳ x +ʳ t *ʳ y -ʳ (c *ʳ x +ʳ s *ʳ y)) (of_whole (pos 152000000) *ʳ d)
    (omega (arith, ints)) (cert_r (c ∷ s ∷ e ∷ t ∷ x ∷ y ∷ d ∷ []) ((((va 0) ⊖ (va 2)) ≼ ((ko (pos 2)) ⊗ (va 6)))
    ∷ (((va 2) ⊖ (va 0)) ≼ ((ko (pos 2)) ⊗ (va 6))) ∷ (((va 1) ⊖ (va 3)) ≼ ((ko (pos 2)) ⊗ (va 6))) ∷ (((va 3) ⊖ (va 1)) ≼ ((ko (pos 2)) ⊗ (va 6)))
    ∷ ((va 4) ≼ (ko (pos 38000000))) ∷ ((ng (va 4)) ≼ (ko (pos 38000000))) ∷ ((va 5) ≼ (ko (pos 38000000))) ∷ ((ng (va 5)) ≼ (ko (pos 38000000))) ∷ [])
    ((ko (pos 2)) ⊗ ((((va 2) ⊗ (va 4)) ⊕ ((va 3) ⊗ (va 5))) ⊖ (((va 0) ⊗ (va 4)) ⊕ ((va 1) ⊗ (va 5))))) ((ko (pos 2)) ⊗ ((ko (pos 152000000)) ⊗ (va 6)))
    (((((hy 1) ⊠ (hy 5)) ⊞ ((hy 0) ⊠ (hy 4))) ⊞ ((hy 3) ⊠ (hy 7))) ⊞ ((hy 2) ⊠ (hy 6))) refl (h0, (h1, (h2, (h3, (h4, (h5, (h6, (h7, tt)))))))))

-- by h1*h7 + h0*h6 + h3*h4 + h2*h5
pub second_move : (c s e t x y d : Rational) → c -ʳ e ≤ʳ of_whole (pos 2) *ʳ d → e -ʳ c ≤ʳ of_whole (pos 2) *ʳ d
    → s -ʳ t ≤ʳ of_whole (pos 2) *ʳ d → t -ʳ s ≤ʳ of_whole (pos 2) *ʳ d → x ≤ʳ of_whole (pos 38000000)
    → neg_r (x) ≤ʳ of_whole (pos 38000000) → y ≤ʳ of_whole (pos 38000000) → neg_r (y) ≤ʳ of_whole (pos 38000000)
    → e *ʳ y -ʳ t *ʳ x -ʳ (c *ʳ y -ʳ s *ʳ x) ≤ʳ of_whole (pos 152000000) *ʳ d
second_move c s e t x y d h0 h1 h2 h3 h4 h5 h6 h7 =
    cancel_r (of_whole (pos 2)) (e *ʳ y -ʳ t *ʳ x -ʳ (c *ʳ y -ʳ s *ʳ x)) (of_whole (pos 152000000) *ʳ d)
    (omega (arith, ints)) (cert_r (c ∷ s ∷ e ∷ t ∷ x ∷ y ∷ d ∷ []) ((((va 0) ⊖ (va 2)) ≼ ((ko (pos 2)) ⊗ (va 6)))
    ∷ (((va 2) ⊖ (va 0)) ≼ ((ko (pos 2)) ⊗ (va 6))) ∷ (((va 1) ⊖ (va 3)) ≼ ((ko (pos 2)) ⊗ (va 6))) ∷ (((va 3) ⊖ (va 1)) ≼ ((ko (pos 2)) ⊗ (va 6)))
    ∷ ((va 4) ≼ (ko (pos 38000000))) ∷ ((ng (va 4)) ≼ (ko (pos 38000000))) ∷ ((va 5) ≼ (ko (pos 38000000))) ∷ ((ng (va 5)) ≼ (ko (pos 38000000))) ∷ [])
    ((ko (pos 2)) ⊗ ((((va 2) ⊗ (va 5)) ⊖ ((va 3) ⊗ (va 4))) ⊖ (((va 0) ⊗ (va 5)) ⊖ ((va 1) ⊗ (va 4))))) ((ko (pos 2)) ⊗ ((ko (pos 152000000)) ⊗ (va 6)))
    (((((hy 1) ⊠ (hy 7)) ⊞ ((hy 0) ⊠ (hy 6))) ⊞ ((hy 3) ⊠ (hy 4))) ⊞ ((hy 2) ⊠ (hy 5))) refl (h0, (h1, (h2, (h3, (h4, (h5, (h6, (h7, tt)))))))))

-- by h0*h5 + h1*h4 + h2*h7 + h3*h6
pub first_size : (c s x y : Rational) → c ≤ʳ of_whole (pos 2) → neg_r (c) ≤ʳ of_whole (pos 2) → s ≤ʳ of_whole (pos 2)
    → neg_r (s) ≤ʳ of_whole (pos 2) → x ≤ʳ of_whole (pos 38000000) → neg_r (x) ≤ʳ of_whole (pos 38000000) → y ≤ʳ of_whole (pos 38000000)
    → neg_r (y) ≤ʳ of_whole (pos 38000000) → c *ʳ x +ʳ s *ʳ y ≤ʳ of_whole (pos 152000000)
first_size c s x y h0 h1 h2 h3 h4 h5 h6 h7 =
    cancel_r (of_whole (pos 2)) (c *ʳ x +ʳ s *ʳ y) (of_whole (pos 152000000)) (omega (arith, ints))
    (cert_r (c ∷ s ∷ x ∷ y ∷ []) (((va 0) ≼ (ko (pos 2))) ∷ ((ng (va 0)) ≼ (ko (pos 2))) ∷ ((va 1) ≼ (ko (pos 2))) ∷ ((ng (va 1)) ≼ (ko (pos 2)))
    ∷ ((va 2) ≼ (ko (pos 38000000))) ∷ ((ng (va 2)) ≼ (ko (pos 38000000))) ∷ ((va 3) ≼ (ko (pos 38000000))) ∷ ((ng (va 3)) ≼ (ko (pos 38000000))) ∷ [])
    ((ko (pos 2)) ⊗ (((va 0) ⊗ (va 2)) ⊕ ((va 1) ⊗ (va 3)))) ((ko (pos 2)) ⊗ (ko (pos 152000000)))
    (((((hy 0) ⊠ (hy 5)) ⊞ ((hy 1) ⊠ (hy 4))) ⊞ ((hy 2) ⊠ (hy 7))) ⊞ ((hy 3) ⊠ (hy 6))) refl (h0, (h1, (h2, (h3, (h4, (h5, (h6, (h7, tt)))))))))

-- by h0*h4 + h1*h5 + h2*h6 + h3*h7
pub first_neg : (c s x y : Rational) → c ≤ʳ of_whole (pos 2) → neg_r (c) ≤ʳ of_whole (pos 2) → s ≤ʳ of_whole (pos 2)
    → neg_r (s) ≤ʳ of_whole (pos 2) → x ≤ʳ of_whole (pos 38000000) → neg_r (x) ≤ʳ of_whole (pos 38000000) → y ≤ʳ of_whole (pos 38000000)
    → neg_r (y) ≤ʳ of_whole (pos 38000000) → neg_r (c *ʳ x +ʳ s *ʳ y) ≤ʳ of_whole (pos 152000000)
first_neg c s x y h0 h1 h2 h3 h4 h5 h6 h7 =
    cancel_r (of_whole (pos 2)) (neg_r (c *ʳ x +ʳ s *ʳ y)) (of_whole (pos 152000000)) (omega (arith, ints))
    (cert_r (c ∷ s ∷ x ∷ y ∷ []) (((va 0) ≼ (ko (pos 2))) ∷ ((ng (va 0)) ≼ (ko (pos 2))) ∷ ((va 1) ≼ (ko (pos 2))) ∷ ((ng (va 1)) ≼ (ko (pos 2)))
    ∷ ((va 2) ≼ (ko (pos 38000000))) ∷ ((ng (va 2)) ≼ (ko (pos 38000000))) ∷ ((va 3) ≼ (ko (pos 38000000))) ∷ ((ng (va 3)) ≼ (ko (pos 38000000))) ∷ [])
    ((ko (pos 2)) ⊗ (ng (((va 0) ⊗ (va 2)) ⊕ ((va 1) ⊗ (va 3))))) ((ko (pos 2)) ⊗ (ko (pos 152000000)))
    (((((hy 0) ⊠ (hy 4)) ⊞ ((hy 1) ⊠ (hy 5))) ⊞ ((hy 2) ⊠ (hy 6))) ⊞ ((hy 3) ⊠ (hy 7))) refl (h0, (h1, (h2, (h3, (h4, (h5, (h6, (h7, tt)))))))))

-- by h0*h7 + h1*h6 + h2*h4 + h3*h5
pub second_size : (c s x y : Rational) → c ≤ʳ of_whole (pos 2) → neg_r (c) ≤ʳ of_whole (pos 2) → s ≤ʳ of_whole (pos 2)
    → neg_r (s) ≤ʳ of_whole (pos 2) → x ≤ʳ of_whole (pos 38000000) → neg_r (x) ≤ʳ of_whole (pos 38000000) → y ≤ʳ of_whole (pos 38000000)
    → neg_r (y) ≤ʳ of_whole (pos 38000000) → c *ʳ y -ʳ s *ʳ x ≤ʳ of_whole (pos 152000000)
second_size c s x y h0 h1 h2 h3 h4 h5 h6 h7 =
    cancel_r (of_whole (pos 2)) (c *ʳ y -ʳ s *ʳ x) (of_whole (pos 152000000)) (omega (arith, ints))
    (cert_r (c ∷ s ∷ x ∷ y ∷ []) (((va 0) ≼ (ko (pos 2))) ∷ ((ng (va 0)) ≼ (ko (pos 2))) ∷ ((va 1) ≼ (ko (pos 2))) ∷ ((ng (va 1)) ≼ (ko (pos 2)))
    ∷ ((va 2) ≼ (ko (pos 38000000))) ∷ ((ng (va 2)) ≼ (ko (pos 38000000))) ∷ ((va 3) ≼ (ko (pos 38000000))) ∷ ((ng (va 3)) ≼ (ko (pos 38000000))) ∷ [])
    ((ko (pos 2)) ⊗ (((va 0) ⊗ (va 3)) ⊖ ((va 1) ⊗ (va 2)))) ((ko (pos 2)) ⊗ (ko (pos 152000000)))
    (((((hy 0) ⊠ (hy 7)) ⊞ ((hy 1) ⊠ (hy 6))) ⊞ ((hy 2) ⊠ (hy 4))) ⊞ ((hy 3) ⊠ (hy 5))) refl (h0, (h1, (h2, (h3, (h4, (h5, (h6, (h7, tt)))))))))

-- by h0*h6 + h1*h7 + h2*h5 + h3*h4
pub second_neg : (c s x y : Rational) → c ≤ʳ of_whole (pos 2) → neg_r (c) ≤ʳ of_whole (pos 2) → s ≤ʳ of_whole (pos 2)
    → neg_r (s) ≤ʳ of_whole (pos 2) → x ≤ʳ of_whole (pos 38000000) → neg_r (x) ≤ʳ of_whole (pos 38000000) → y ≤ʳ of_whole (pos 38000000)
    → neg_r (y) ≤ʳ of_whole (pos 38000000) → neg_r (c *ʳ y -ʳ s *ʳ x) ≤ʳ of_whole (pos 152000000)
second_neg c s x y h0 h1 h2 h3 h4 h5 h6 h7 =
    cancel_r (of_whole (pos 2)) (neg_r (c *ʳ y -ʳ s *ʳ x)) (of_whole (pos 152000000)) (omega (arith, ints))
    (cert_r (c ∷ s ∷ x ∷ y ∷ []) (((va 0) ≼ (ko (pos 2))) ∷ ((ng (va 0)) ≼ (ko (pos 2))) ∷ ((va 1) ≼ (ko (pos 2))) ∷ ((ng (va 1)) ≼ (ko (pos 2)))
    ∷ ((va 2) ≼ (ko (pos 38000000))) ∷ ((ng (va 2)) ≼ (ko (pos 38000000))) ∷ ((va 3) ≼ (ko (pos 38000000))) ∷ ((ng (va 3)) ≼ (ko (pos 38000000))) ∷ [])
    ((ko (pos 2)) ⊗ (ng (((va 0) ⊗ (va 3)) ⊖ ((va 1) ⊗ (va 2))))) ((ko (pos 2)) ⊗ (ko (pos 152000000)))
    (((((hy 0) ⊠ (hy 6)) ⊞ ((hy 1) ⊠ (hy 7))) ⊞ ((hy 2) ⊠ (hy 5))) ⊞ ((hy 3) ⊠ (hy 4))) refl (h0, (h1, (h2, (h3, (h4, (h5, (h6, (h7, tt)))))))))

-- and its squared distance from the point
-- by h0*(h3 + h5 + 2*h6) + h1*(h2 + h4 + 2*h7)
pub square_move : (u v p d : Rational) → v -ʳ u ≤ʳ of_whole (pos 152000000) *ʳ d → u -ʳ v ≤ʳ of_whole (pos 152000000) *ʳ d
    → v ≤ʳ of_whole (pos 152000000) → neg_r (v) ≤ʳ of_whole (pos 152000000) → u ≤ʳ of_whole (pos 152000000)
    → neg_r (u) ≤ʳ of_whole (pos 152000000) → p ≤ʳ of_whole (pos 7000000) → neg_r (p) ≤ʳ of_whole (pos 7000000)
    → (v -ʳ p) *ʳ (v -ʳ p) -ʳ (u -ʳ p) *ʳ (u -ʳ p) ≤ʳ of_whole (pos 48336000000000000) *ʳ d
square_move u v p d h0 h1 h2 h3 h4 h5 h6 h7 =
    cancel_r (of_whole (pos 2)) ((v -ʳ p) *ʳ (v -ʳ p) -ʳ (u -ʳ p) *ʳ (u -ʳ p)) (of_whole (pos 48336000000000000) *ʳ d)
    (omega (arith, ints)) (cert_r (u ∷ v ∷ p ∷ d ∷ []) ((((va 1) ⊖ (va 0)) ≼ ((ko (pos 152000000)) ⊗ (va 3)))
    ∷ (((va 0) ⊖ (va 1)) ≼ ((ko (pos 152000000)) ⊗ (va 3))) ∷ ((va 1) ≼ (ko (pos 152000000))) ∷ ((ng (va 1)) ≼ (ko (pos 152000000)))
    ∷ ((va 0) ≼ (ko (pos 152000000))) ∷ ((ng (va 0)) ≼ (ko (pos 152000000))) ∷ ((va 2) ≼ (ko (pos 7000000))) ∷ ((ng (va 2)) ≼ (ko (pos 7000000))) ∷ [])
    ((ko (pos 2)) ⊗ ((((va 1) ⊖ (va 2)) ⊗ ((va 1) ⊖ (va 2))) ⊖ (((va 0) ⊖ (va 2)) ⊗ ((va 0) ⊖ (va 2)))))
    ((ko (pos 2)) ⊗ ((ko (pos 48336000000000000)) ⊗ (va 3))) (((hy 0) ⊠ (((hy 3) ⊞ (hy 5)) ⊞ ((nm 2) ⊠ (hy 6))))
    ⊞ ((hy 1) ⊠ (((hy 2) ⊞ (hy 4)) ⊞ ((nm 2) ⊠ (hy 7))))) refl (h0, (h1, (h2, (h3, (h4, (h5, (h6, (h7, tt)))))))))

-- a time at which the signal arrives late, by little, is a near-root
-- by 25088338348346951034227683056729406694227968*h0 + 25088338348346951034227683056729406694227968*h1
--    + 751609133882610674529169458013787422127753217048651900125184*h2*(h3 + 3*h2) + 437985100374304080197946784469745664*h4
--    + 21760664753063325144711168*h5 + 3067815745081554541324076741215530254336
pub ends_high : (a b g h : Rational) → of_whole (pos 89875517873681764) *ʳ (a *ʳ a) ≤ʳ g
    → g -ʳ h ≤ʳ of_whole (pos 96672000000000000) *ʳ (b -ʳ a) → a ≤ʳ b → of_whole (pos 6) *ʳ b ≤ʳ of_whole (pos 1)
    → of_whole (pos 7253554917687775048237056) *ʳ (b -ʳ a) ≤ʳ of_whole (pos 1) → of_whole (pos 141000000000000) ≤ʳ h
    → of_whole (pos 1152921504606846976) *ʳ (of_whole (pos 299792458) *ʳ b *ʳ (of_whole (pos 299792458) *ʳ b) -ʳ h) ≤ʳ h
ends_high a b g h h0 h1 h2 h3 h4 h5 =
    cancel_r (of_whole (pos 21760664753063325144711168))
    (of_whole (pos 1152921504606846976) *ʳ (of_whole (pos 299792458) *ʳ b *ʳ (of_whole (pos 299792458) *ʳ b) -ʳ h)) h
    (omega (arith, ints)) (cert_r (a ∷ b ∷ g ∷ h ∷ []) ((((ko (pos 89875517873681764)) ⊗ ((va 0) ⊗ (va 0))) ≼ (va 2))
    ∷ (((va 2) ⊖ (va 3)) ≼ ((ko (pos 96672000000000000)) ⊗ ((va 1) ⊖ (va 0)))) ∷ ((va 0) ≼ (va 1)) ∷ (((ko (pos 6)) ⊗ (va 1)) ≼ (ko (pos 1)))
    ∷ (((ko (pos 7253554917687775048237056)) ⊗ ((va 1) ⊖ (va 0))) ≼ (ko (pos 1))) ∷ ((ko (pos 141000000000000)) ≼ (va 3)) ∷ [])
    ((ko (pos 21760664753063325144711168)) ⊗ ((ko (pos 1152921504606846976))
    ⊗ ((((ko (pos 299792458)) ⊗ (va 1)) ⊗ ((ko (pos 299792458)) ⊗ (va 1))) ⊖ (va 3)))) ((ko (pos 21760664753063325144711168)) ⊗ (va 3))
    (((((((nm 25088338348346951034227683056729406694227968) ⊠ (hy 0)) ⊞ ((nm 25088338348346951034227683056729406694227968) ⊠ (hy 1)))
    ⊞ (((nm 751609133882610674529169458013787422127753217048651900125184) ⊠ (hy 2)) ⊠ ((hy 3) ⊞ ((nm 3) ⊠ (hy 2)))))
    ⊞ ((nm 437985100374304080197946784469745664) ⊠ (hy 4))) ⊞ ((nm 21760664753063325144711168) ⊠ (hy 5)))
    ⊞ (nm 3067815745081554541324076741215530254336)) refl (h0, (h1, (h2, (h3, (h4, (h5, tt)))))))

-- by 1152921504606846976*h1 + h0
pub ends_low : (h r : Rational) → of_whole (pos 0) ≤ʳ h → h ≤ʳ r *ʳ r → of_whole (pos 1152921504606846976) *ʳ (h -ʳ r *ʳ r) ≤ʳ h
ends_low h r h0 h1 =
    cert_r (h ∷ r ∷ []) (((ko (pos 0)) ≼ (va 0)) ∷ ((va 0) ≼ ((va 1) ⊗ (va 1))) ∷ []) ((ko (pos 1152921504606846976)) ⊗ ((va 0) ⊖ ((va 1) ⊗ (va 1))))
    (va 0) (((nm 1152921504606846976) ⊠ (hy 1)) ⊞ (hy 0)) refl (h0, (h1, tt))

-- by h0
pub light_square : (b h : Rational) → h ≤ʳ of_whole (pos 89875517873681764) *ʳ (b *ʳ b) → h ≤ʳ of_whole (pos 299792458) *ʳ b *ʳ (of_whole (pos 299792458) *ʳ b)
light_square b h h0 =
    cert_r (b ∷ h ∷ []) (((va 1) ≼ ((ko (pos 89875517873681764)) ⊗ ((va 0) ⊗ (va 0)))) ∷ []) (va 1) (((ko (pos 299792458)) ⊗ (va 0)) ⊗ ((ko (pos 299792458)) ⊗ (va 0))) (hy 0) refl (h0, tt)

-- by 36*h0 + 89875517873681764*h1*(h1 + 2) + 16435517873681764
pub at_last : (h b : Rational) → h ≤ʳ of_whole (pos 2040000000000000) → of_whole (pos 1) ≤ʳ of_whole (pos 6) *ʳ b → of_whole (pos 0) ≤ʳ b
    → h ≤ʳ of_whole (pos 89875517873681764) *ʳ (b *ʳ b)
at_last h b h0 h1 h2 =
    cancel_r (of_whole (pos 36)) h (of_whole (pos 89875517873681764) *ʳ (b *ʳ b)) (omega (arith, ints))
    (cert_r (h ∷ b ∷ []) (((va 0) ≼ (ko (pos 2040000000000000))) ∷ ((ko (pos 1)) ≼ ((ko (pos 6)) ⊗ (va 1))) ∷ ((ko (pos 0)) ≼ (va 1)) ∷ [])
    ((ko (pos 36)) ⊗ (va 0)) ((ko (pos 36)) ⊗ ((ko (pos 89875517873681764)) ⊗ ((va 1) ⊗ (va 1))))
    ((((nm 36) ⊠ (hy 0)) ⊞ (((nm 89875517873681764) ⊠ (hy 1)) ⊠ ((hy 1) ⊞ (nm 2)))) ⊞ (nm 16435517873681764)) refl (h0, (h1, (h2, tt))))

-- by h0 + h1
pub sum_move : (u v w x z p q r d : Rational)
    → (v -ʳ p) *ʳ (v -ʳ p) -ʳ (u -ʳ p) *ʳ (u -ʳ p) ≤ʳ of_whole (pos 48336000000000000) *ʳ d
    → (x -ʳ q) *ʳ (x -ʳ q) -ʳ (w -ʳ q) *ʳ (w -ʳ q) ≤ʳ of_whole (pos 48336000000000000) *ʳ d
    → (v -ʳ p) *ʳ (v -ʳ p) +ʳ (x -ʳ q) *ʳ (x -ʳ q) +ʳ (z -ʳ r) *ʳ (z -ʳ r) -ʳ
    ((u -ʳ p) *ʳ (u -ʳ p) +ʳ (w -ʳ q) *ʳ (w -ʳ q) +ʳ (z -ʳ r) *ʳ (z -ʳ r))
    ≤ʳ of_whole (pos 96672000000000000) *ʳ d
sum_move u v w x z p q r d h0 h1 =
    cert_r (u ∷ v ∷ w ∷ x ∷ z ∷ p ∷ q ∷ r ∷ d ∷ [])
    ((((((va 1) ⊖ (va 5)) ⊗ ((va 1) ⊖ (va 5))) ⊖ (((va 0) ⊖ (va 5)) ⊗ ((va 0) ⊖ (va 5)))) ≼ ((ko (pos 48336000000000000)) ⊗ (va 8)))
    ∷ (((((va 3) ⊖ (va 6)) ⊗ ((va 3) ⊖ (va 6))) ⊖ (((va 2) ⊖ (va 6)) ⊗ ((va 2) ⊖ (va 6)))) ≼ ((ko (pos 48336000000000000)) ⊗ (va 8))) ∷ [])
    ((((((va 1) ⊖ (va 5)) ⊗ ((va 1) ⊖ (va 5))) ⊕ (((va 3) ⊖ (va 6)) ⊗ ((va 3) ⊖ (va 6)))) ⊕ (((va 4) ⊖ (va 7)) ⊗ ((va 4) ⊖ (va 7))))
    ⊖ (((((va 0) ⊖ (va 5)) ⊗ ((va 0) ⊖ (va 5))) ⊕ (((va 2) ⊖ (va 6)) ⊗ ((va 2) ⊖ (va 6)))) ⊕ (((va 4) ⊖ (va 7)) ⊗ ((va 4) ⊖ (va 7)))))
    ((ko (pos 96672000000000000)) ⊗ (va 8)) ((hy 0) ⊞ (hy 1)) refl (h0, (h1, tt))

-- by h0
pub zero_early : (g : Rational) → of_whole (pos 0) ≤ʳ g → of_whole (pos 89875517873681764) *ʳ (of_whole (pos 0) *ʳ of_whole (pos 0)) ≤ʳ g
zero_early g h0 =
    cert_r (g ∷ []) (((ko (pos 0)) ≼ (va 0)) ∷ []) ((ko (pos 89875517873681764)) ⊗ ((ko (pos 0)) ⊗ (ko (pos 0)))) (va 0) (hy 0) refl (h0, tt)

-- by h0 + h1
pub middle_low : (a b m : Rational) → a ≤ʳ b → a +ʳ b ≤ʳ of_whole (pos 2) *ʳ m → a ≤ʳ m
middle_low a b m h0 h1 =
    cancel_r (of_whole (pos 2)) a m (omega (arith, ints)) (cert_r (a ∷ b ∷ m ∷ []) (((va 0) ≼ (va 1)) ∷ (((va 0) ⊕ (va 1)) ≼ ((ko (pos 2)) ⊗ (va 2))) ∷ [])
    ((ko (pos 2)) ⊗ (va 0)) ((ko (pos 2)) ⊗ (va 2)) ((hy 0) ⊞ (hy 1)) refl (h0, (h1, tt)))

-- by h0 + h1
pub middle_high : (a b m : Rational) → a ≤ʳ b → of_whole (pos 2) *ʳ m ≤ʳ a +ʳ b → m ≤ʳ b
middle_high a b m h0 h1 =
    cancel_r (of_whole (pos 2)) m b (omega (arith, ints)) (cert_r (a ∷ b ∷ m ∷ []) (((va 0) ≼ (va 1)) ∷ (((ko (pos 2)) ⊗ (va 2)) ≼ ((va 0) ⊕ (va 1))) ∷ [])
    ((ko (pos 2)) ⊗ (va 2)) ((ko (pos 2)) ⊗ (va 1)) ((hy 0) ⊞ (hy 1)) refl (h0, (h1, tt)))

-- by 6*h0 + h1
pub most_below : (m b : Rational) → m ≤ʳ b → of_whole (pos 6) *ʳ b ≤ʳ of_whole (pos 1) → of_whole (pos 6) *ʳ m ≤ʳ of_whole (pos 1)
most_below m b h0 h1 =
    cert_r (m ∷ b ∷ []) (((va 0) ≼ (va 1)) ∷ (((ko (pos 6)) ⊗ (va 1)) ≼ (ko (pos 1))) ∷ []) ((ko (pos 6)) ⊗ (va 0)) (ko (pos 1)) (((nm 6) ⊠ (hy 0)) ⊞ (hy 1)) refl (h0, (h1, tt))

-- by h0 + h4*h2 + h1*h3
pub upper_half : (a b m w v : Rational) → w *ʳ (b -ʳ a) ≤ʳ of_whole (pos 1) → v ≤ʳ of_whole (pos 2) *ʳ w
    → a +ʳ b ≤ʳ of_whole (pos 2) *ʳ m → m ≤ʳ b → of_whole (pos 0) ≤ʳ w → v *ʳ (b -ʳ m) ≤ʳ of_whole (pos 1)
upper_half a b m w v h0 h1 h2 h3 h4 =
    cert_r (a ∷ b ∷ m ∷ w ∷ v ∷ []) ((((va 3) ⊗ ((va 1) ⊖ (va 0))) ≼ (ko (pos 1))) ∷ ((va 4) ≼ ((ko (pos 2)) ⊗ (va 3)))
    ∷ (((va 0) ⊕ (va 1)) ≼ ((ko (pos 2)) ⊗ (va 2))) ∷ ((va 2) ≼ (va 1)) ∷ ((ko (pos 0)) ≼ (va 3)) ∷ []) ((va 4) ⊗ ((va 1) ⊖ (va 2)))
    (ko (pos 1)) (((hy 0) ⊞ ((hy 4) ⊠ (hy 2))) ⊞ ((hy 1) ⊠ (hy 3))) refl (h0, (h1, (h2, (h3, (h4, tt)))))

-- by h0 + h4*h2 + h1*h3
pub lower_half : (a b m w v : Rational) → w *ʳ (b -ʳ a) ≤ʳ of_whole (pos 1) → v ≤ʳ of_whole (pos 2) *ʳ w
    → of_whole (pos 2) *ʳ m ≤ʳ a +ʳ b → a ≤ʳ m → of_whole (pos 0) ≤ʳ w → v *ʳ (m -ʳ a) ≤ʳ of_whole (pos 1)
lower_half a b m w v h0 h1 h2 h3 h4 =
    cert_r (a ∷ b ∷ m ∷ w ∷ v ∷ []) ((((va 3) ⊗ ((va 1) ⊖ (va 0))) ≼ (ko (pos 1))) ∷ ((va 4) ≼ ((ko (pos 2)) ⊗ (va 3)))
    ∷ (((ko (pos 2)) ⊗ (va 2)) ≼ ((va 0) ⊕ (va 1))) ∷ ((va 0) ≼ (va 2)) ∷ ((ko (pos 0)) ≼ (va 3)) ∷ []) ((va 4) ⊗ ((va 2) ⊖ (va 0)))
    (ko (pos 1)) (((hy 0) ⊞ ((hy 4) ⊠ (hy 2))) ⊞ ((hy 1) ⊠ (hy 3))) refl (h0, (h1, (h2, (h3, (h4, tt)))))

-- by h2*h0
pub slower : (a b w : Rational) → a ≤ʳ b → of_whole (pos 0) ≤ʳ w → w ≤ʳ of_whole (pos 1) → w *ʳ b -ʳ w *ʳ a ≤ʳ b -ʳ a
slower a b w h0 h1 h2 =
    cert_r (a ∷ b ∷ w ∷ []) (((va 0) ≼ (va 1)) ∷ ((ko (pos 0)) ≼ (va 2)) ∷ ((va 2) ≼ (ko (pos 1))) ∷ []) (((va 2) ⊗ (va 1)) ⊖ ((va 2) ⊗ (va 0)))
    ((va 1) ⊖ (va 0)) ((hy 2) ⊠ (hy 0)) refl (h0, (h1, (h2, tt)))

-- by h0 + h1*h0
pub slower_back : (a b w : Rational) → a ≤ʳ b → of_whole (pos 0) ≤ʳ w → w *ʳ a -ʳ w *ʳ b ≤ʳ b -ʳ a
slower_back a b w h0 h1 =
    cert_r (a ∷ b ∷ w ∷ []) (((va 0) ≼ (va 1)) ∷ ((ko (pos 0)) ≼ (va 2)) ∷ []) (((va 2) ⊗ (va 0)) ⊖ ((va 2) ⊗ (va 1))) ((va 1) ⊖ (va 0)) ((hy 0) ⊞ ((hy 1) ⊠ (hy 0))) refl (h0, (h1, tt))

-- by 299792458*h0
pub range_nn : (b : Rational) → of_whole (pos 0) ≤ʳ b → of_whole (pos 0) ≤ʳ of_whole (pos 299792458) *ʳ b
range_nn b h0 =
    cert_r (b ∷ []) (((ko (pos 0)) ≼ (va 0)) ∷ []) (ko (pos 0)) ((ko (pos 299792458)) ⊗ (va 0)) ((nm 299792458) ⊠ (hy 0)) refl (h0, tt)
