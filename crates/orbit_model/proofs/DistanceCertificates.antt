-- Inequalities of the distances of a turned place, a vector from a point and a place near another, each by a certificate.
-- The terms are made: tools/inequality_certificate.py writes a lemma from its claim and the products of its hypotheses,
-- h0, h1, .. in the order in which they stand: they are over each lemma, after `by`. Who changes a claim writes its term anew there;
-- the check proves what is written.
use Rattle.std.proofs.Common.{[], ◌∷◌, pos, refl, arith}
use Rattle.std.proofs.lemmas.Int.{ints}
use Rattle.whole_math.proofs.Ring.{va, ko, ◌⊕◌, ◌⊖◌, ◌⊗◌}
use Rattle.whole_math.proofs.Certificates.{◌≼◌, hy, nm, sq, ◌⊞◌, ◌⊠◌}
use Rattle.whole_math.specs.Rational.{Rational, ◌≤ʳ◌, of_whole, ◌+ʳ◌, ◌-ʳ◌, ◌*ʳ◌}
use Rattle.orbit_model.proofs.Orders.{cert_r, cancel_r}

-- a place that is turned by a pair, whose norm is within e of 1
-- by 65536*(sq(x) + sq(y))*h3 + (sq(x) + sq(y))*h4 + 65535*h0 + sq(z) + 294360000000000
pub turned_far : (x y z c s e : Rational) → of_whole (pos 361000000000000) ≤ʳ x *ʳ x +ʳ y *ʳ y +ʳ z *ʳ z
    → x *ʳ x +ʳ y *ʳ y +ʳ z *ʳ z ≤ʳ of_whole (pos 1444000000000000) → c *ʳ c +ʳ s *ʳ s -ʳ of_whole (pos 1) ≤ʳ e
    → of_whole (pos 1) -ʳ (c *ʳ c +ʳ s *ʳ s) ≤ʳ e → of_whole (pos 65536) *ʳ e ≤ʳ of_whole (pos 1)
    → of_whole (pos 360990000000000) ≤ʳ (c *ʳ x +ʳ s *ʳ y) *ʳ (c *ʳ x +ʳ s *ʳ y) +ʳ
    (c *ʳ y -ʳ s *ʳ x) *ʳ (c *ʳ y -ʳ s *ʳ x) +ʳ z *ʳ z
turned_far x y z c s e h0 h1 h2 h3 h4 =
    cancel_r (of_whole (pos 65536)) (of_whole (pos 360990000000000)) ((c *ʳ x +ʳ s *ʳ y) *ʳ (c *ʳ x +ʳ s *ʳ y) +ʳ
    (c *ʳ y -ʳ s *ʳ x) *ʳ (c *ʳ y -ʳ s *ʳ x) +ʳ z *ʳ z) (omega (arith, ints))
    (cert_r (x ∷ y ∷ z ∷ c ∷ s ∷ e ∷ []) (((ko (pos 361000000000000)) ≼ ((((va 0) ⊗ (va 0)) ⊕ ((va 1) ⊗ (va 1))) ⊕ ((va 2) ⊗ (va 2))))
    ∷ (((((va 0) ⊗ (va 0)) ⊕ ((va 1) ⊗ (va 1))) ⊕ ((va 2) ⊗ (va 2))) ≼ (ko (pos 1444000000000000)))
    ∷ (((((va 3) ⊗ (va 3)) ⊕ ((va 4) ⊗ (va 4))) ⊖ (ko (pos 1))) ≼ (va 5)) ∷ (((ko (pos 1)) ⊖ (((va 3) ⊗ (va 3)) ⊕ ((va 4) ⊗ (va 4)))) ≼ (va 5))
    ∷ (((ko (pos 65536)) ⊗ (va 5)) ≼ (ko (pos 1))) ∷ []) ((ko (pos 65536)) ⊗ (ko (pos 360990000000000)))
    ((ko (pos 65536)) ⊗ ((((((va 3) ⊗ (va 0)) ⊕ ((va 4) ⊗ (va 1))) ⊗ (((va 3) ⊗ (va 0)) ⊕ ((va 4) ⊗ (va 1))))
    ⊕ ((((va 3) ⊗ (va 1)) ⊖ ((va 4) ⊗ (va 0))) ⊗ (((va 3) ⊗ (va 1)) ⊖ ((va 4) ⊗ (va 0))))) ⊕ ((va 2) ⊗ (va 2))))
    (((((((nm 65536) ⊠ ((sq (va 0)) ⊞ (sq (va 1)))) ⊠ (hy 3)) ⊞ (((sq (va 0)) ⊞ (sq (va 1))) ⊠ (hy 4))) ⊞ ((nm 65535) ⊠ (hy 0))) ⊞ (sq (va 2)))
    ⊞ (nm 294360000000000)) refl (h0, (h1, (h2, (h3, (h4, tt))))))

-- by 65536*(sq(x) + sq(y))*h2 + (sq(x) + sq(y))*h4 + 65537*h1 + sq(z) + 522080000000000
pub turned_near : (x y z c s e : Rational) → of_whole (pos 361000000000000) ≤ʳ x *ʳ x +ʳ y *ʳ y +ʳ z *ʳ z
    → x *ʳ x +ʳ y *ʳ y +ʳ z *ʳ z ≤ʳ of_whole (pos 1444000000000000)
    → c *ʳ c +ʳ s *ʳ s -ʳ of_whole (pos 1) ≤ʳ e → of_whole (pos 1) -ʳ (c *ʳ c +ʳ s *ʳ s) ≤ʳ e
    → of_whole (pos 65536) *ʳ e ≤ʳ of_whole (pos 1) → (c *ʳ x +ʳ s *ʳ y) *ʳ (c *ʳ x +ʳ s *ʳ y) +ʳ
    (c *ʳ y -ʳ s *ʳ x) *ʳ (c *ʳ y -ʳ s *ʳ x) +ʳ z *ʳ z ≤ʳ of_whole (pos 1444030000000000)
turned_near x y z c s e h0 h1 h2 h3 h4 =
    cancel_r (of_whole (pos 65536)) ((c *ʳ x +ʳ s *ʳ y) *ʳ (c *ʳ x +ʳ s *ʳ y) +ʳ
    (c *ʳ y -ʳ s *ʳ x) *ʳ (c *ʳ y -ʳ s *ʳ x) +ʳ z *ʳ z) (of_whole (pos 1444030000000000)) (omega (arith, ints))
    (cert_r (x ∷ y ∷ z ∷ c ∷ s ∷ e ∷ []) (((ko (pos 361000000000000)) ≼ ((((va 0) ⊗ (va 0)) ⊕ ((va 1) ⊗ (va 1))) ⊕ ((va 2) ⊗ (va 2))))
    ∷ (((((va 0) ⊗ (va 0)) ⊕ ((va 1) ⊗ (va 1))) ⊕ ((va 2) ⊗ (va 2))) ≼ (ko (pos 1444000000000000)))
    ∷ (((((va 3) ⊗ (va 3)) ⊕ ((va 4) ⊗ (va 4))) ⊖ (ko (pos 1))) ≼ (va 5))
    ∷ (((ko (pos 1)) ⊖ (((va 3) ⊗ (va 3)) ⊕ ((va 4) ⊗ (va 4)))) ≼ (va 5)) ∷ (((ko (pos 65536)) ⊗ (va 5)) ≼ (ko (pos 1))) ∷ [])
    ((ko (pos 65536)) ⊗ ((((((va 3) ⊗ (va 0)) ⊕ ((va 4) ⊗ (va 1))) ⊗ (((va 3) ⊗ (va 0)) ⊕ ((va 4) ⊗ (va 1)))) ⊕ ((((va 3) ⊗ (va 1)) ⊖ ((va 4) ⊗ (va 0)))
    ⊗ (((va 3) ⊗ (va 1)) ⊖ ((va 4) ⊗ (va 0))))) ⊕ ((va 2) ⊗ (va 2)))) ((ko (pos 65536)) ⊗ (ko (pos 1444030000000000)))
    (((((((nm 65536) ⊠ ((sq (va 0)) ⊞ (sq (va 1)))) ⊠ (hy 2)) ⊞ (((sq (va 0)) ⊞ (sq (va 1))) ⊠ (hy 4))) ⊞ ((nm 65537) ⊠ (hy 1))) ⊞ (sq (va 2)))
    ⊞ (nm 522080000000000)) refl (h0, (h1, (h2, (h3, (h4, tt))))))

-- a vector from a point to a place
-- by sq(7*x - 19*p) + sq(7*y - 19*q) + sq(7*z - 19*r) + 84*h0 + 228*h2 + 80640000000000
pub vector_far : (x y z p q r : Rational) → of_whole (pos 357210000000000) ≤ʳ x *ʳ x +ʳ y *ʳ y +ʳ z *ʳ z
    → x *ʳ x +ʳ y *ʳ y +ʳ z *ʳ z ≤ʳ of_whole (pos 1451610000000000)
    → p *ʳ p +ʳ q *ʳ q +ʳ r *ʳ r ≤ʳ of_whole (pos 49000000000000)
    → of_whole (pos 141000000000000) ≤ʳ (x -ʳ p) *ʳ (x -ʳ p) +ʳ (y -ʳ q) *ʳ (y -ʳ q) +ʳ (z -ʳ r) *ʳ (z -ʳ r)
vector_far x y z p q r h0 h1 h2 =
    cancel_r (of_whole (pos 133)) (of_whole (pos 141000000000000))
    ((x -ʳ p) *ʳ (x -ʳ p) +ʳ (y -ʳ q) *ʳ (y -ʳ q) +ʳ (z -ʳ r) *ʳ (z -ʳ r)) (omega (arith, ints))
    (cert_r (x ∷ y ∷ z ∷ p ∷ q ∷ r ∷ []) (((ko (pos 357210000000000)) ≼ ((((va 0) ⊗ (va 0)) ⊕ ((va 1) ⊗ (va 1))) ⊕ ((va 2) ⊗ (va 2))))
    ∷ (((((va 0) ⊗ (va 0)) ⊕ ((va 1) ⊗ (va 1))) ⊕ ((va 2) ⊗ (va 2))) ≼ (ko (pos 1451610000000000)))
    ∷ (((((va 3) ⊗ (va 3)) ⊕ ((va 4) ⊗ (va 4))) ⊕ ((va 5) ⊗ (va 5))) ≼ (ko (pos 49000000000000))) ∷ []) ((ko (pos 133)) ⊗ (ko (pos 141000000000000)))
    ((ko (pos 133)) ⊗ (((((va 0) ⊖ (va 3)) ⊗ ((va 0) ⊖ (va 3))) ⊕ (((va 1) ⊖ (va 4)) ⊗ ((va 1) ⊖ (va 4)))) ⊕ (((va 2) ⊖ (va 5)) ⊗ ((va 2) ⊖ (va 5)))))
    ((((((sq (((ko (pos 7)) ⊗ (va 0)) ⊖ ((ko (pos 19)) ⊗ (va 3)))) ⊞ (sq (((ko (pos 7)) ⊗ (va 1)) ⊖ ((ko (pos 19)) ⊗ (va 4)))))
    ⊞ (sq (((ko (pos 7)) ⊗ (va 2)) ⊖ ((ko (pos 19)) ⊗ (va 5))))) ⊞ ((nm 84) ⊠ (hy 0))) ⊞ ((nm 228) ⊠ (hy 2))) ⊞ (nm 80640000000000)) refl
    (h0, (h1, (h2, tt))))

-- by sq(7*x + 38*p) + sq(7*y + 38*q) + sq(7*z + 38*r) + 315*h1 + 1710*h2 + 1592850000000000
pub vector_near : (x y z p q r : Rational) → of_whole (pos 357210000000000) ≤ʳ x *ʳ x +ʳ y *ʳ y +ʳ z *ʳ z
    → x *ʳ x +ʳ y *ʳ y +ʳ z *ʳ z ≤ʳ of_whole (pos 1451610000000000)
    → p *ʳ p +ʳ q *ʳ q +ʳ r *ʳ r ≤ʳ of_whole (pos 49000000000000)
    → (x -ʳ p) *ʳ (x -ʳ p) +ʳ (y -ʳ q) *ʳ (y -ʳ q) +ʳ (z -ʳ r) *ʳ (z -ʳ r) ≤ʳ of_whole (pos 2040000000000000)
vector_near x y z p q r h0 h1 h2 =
    cancel_r (of_whole (pos 266)) ((x -ʳ p) *ʳ (x -ʳ p) +ʳ (y -ʳ q) *ʳ (y -ʳ q) +ʳ (z -ʳ r) *ʳ (z -ʳ r))
    (of_whole (pos 2040000000000000)) (omega (arith, ints))
    (cert_r (x ∷ y ∷ z ∷ p ∷ q ∷ r ∷ []) (((ko (pos 357210000000000)) ≼ ((((va 0) ⊗ (va 0)) ⊕ ((va 1) ⊗ (va 1))) ⊕ ((va 2) ⊗ (va 2))))
    ∷ (((((va 0) ⊗ (va 0)) ⊕ ((va 1) ⊗ (va 1))) ⊕ ((va 2) ⊗ (va 2))) ≼ (ko (pos 1451610000000000)))
    ∷ (((((va 3) ⊗ (va 3)) ⊕ ((va 4) ⊗ (va 4))) ⊕ ((va 5) ⊗ (va 5))) ≼ (ko (pos 49000000000000))) ∷ [])
    ((ko (pos 266)) ⊗ (((((va 0) ⊖ (va 3)) ⊗ ((va 0) ⊖ (va 3))) ⊕ (((va 1) ⊖ (va 4)) ⊗ ((va 1) ⊖ (va 4)))) ⊕ (((va 2) ⊖ (va 5)) ⊗ ((va 2) ⊖ (va 5)))))
    ((ko (pos 266)) ⊗ (ko (pos 2040000000000000)))
    ((((((sq (((ko (pos 7)) ⊗ (va 0)) ⊕ ((ko (pos 38)) ⊗ (va 3)))) ⊞ (sq (((ko (pos 7)) ⊗ (va 1)) ⊕ ((ko (pos 38)) ⊗ (va 4)))))
    ⊞ (sq (((ko (pos 7)) ⊗ (va 2)) ⊕ ((ko (pos 38)) ⊗ (va 5))))) ⊞ ((nm 315) ⊠ (hy 1))) ⊞ ((nm 1710) ⊠ (hy 2))) ⊞ (nm 1592850000000000)) refl
    (h0, (h1, (h2, tt))))

-- a place within 1 m of another in each coordinate
-- by sq(x + 1000*(a - x)) + sq(y + 1000*(b - y)) + sq(z + 1000*(c - z)) + 999*h0 + 999000*(h2*h3 + h4*h5 + h6*h7) + 3419009997003000
pub place_far : (x y z a b c : Rational) → of_whole (pos 360990000000000) ≤ʳ x *ʳ x +ʳ y *ʳ y +ʳ z *ʳ z
    → x *ʳ x +ʳ y *ʳ y +ʳ z *ʳ z ≤ʳ of_whole (pos 1444030000000000) → a -ʳ x ≤ʳ of_whole (pos 1)
    → x -ʳ a ≤ʳ of_whole (pos 1) → b -ʳ y ≤ʳ of_whole (pos 1) → y -ʳ b ≤ʳ of_whole (pos 1) → c -ʳ z ≤ʳ of_whole (pos 1)
    → z -ʳ c ≤ʳ of_whole (pos 1) → of_whole (pos 357210000000000) ≤ʳ a *ʳ a +ʳ b *ʳ b +ʳ c *ʳ c
place_far x y z a b c h0 h1 h2 h3 h4 h5 h6 h7 =
    cancel_r (of_whole (pos 1000)) (of_whole (pos 357210000000000)) (a *ʳ a +ʳ b *ʳ b +ʳ c *ʳ c) (omega (arith, ints))
    (cert_r (x ∷ y ∷ z ∷ a ∷ b ∷ c ∷ []) (((ko (pos 360990000000000)) ≼ ((((va 0) ⊗ (va 0)) ⊕ ((va 1) ⊗ (va 1))) ⊕ ((va 2) ⊗ (va 2))))
    ∷ (((((va 0) ⊗ (va 0)) ⊕ ((va 1) ⊗ (va 1))) ⊕ ((va 2) ⊗ (va 2))) ≼ (ko (pos 1444030000000000))) ∷ (((va 3) ⊖ (va 0)) ≼ (ko (pos 1)))
    ∷ (((va 0) ⊖ (va 3)) ≼ (ko (pos 1))) ∷ (((va 4) ⊖ (va 1)) ≼ (ko (pos 1))) ∷ (((va 1) ⊖ (va 4)) ≼ (ko (pos 1)))
    ∷ (((va 5) ⊖ (va 2)) ≼ (ko (pos 1))) ∷ (((va 2) ⊖ (va 5)) ≼ (ko (pos 1))) ∷ []) ((ko (pos 1000)) ⊗ (ko (pos 357210000000000)))
    ((ko (pos 1000)) ⊗ ((((va 3) ⊗ (va 3)) ⊕ ((va 4) ⊗ (va 4))) ⊕ ((va 5) ⊗ (va 5)))) ((((((sq ((va 0) ⊕ ((ko (pos 1000)) ⊗ ((va 3) ⊖ (va 0)))))
    ⊞ (sq ((va 1) ⊕ ((ko (pos 1000)) ⊗ ((va 4) ⊖ (va 1)))))) ⊞ (sq ((va 2) ⊕ ((ko (pos 1000)) ⊗ ((va 5) ⊖ (va 2)))))) ⊞ ((nm 999) ⊠ (hy 0)))
    ⊞ ((nm 999000) ⊠ ((((hy 2) ⊠ (hy 3)) ⊞ ((hy 4) ⊠ (hy 5))) ⊞ ((hy 6) ⊠ (hy 7))))) ⊞ (nm 3419009997003000)) refl
    (h0, (h1, (h2, (h3, (h4, (h5, (h6, (h7, tt)))))))))

-- by sq(x - 1000*(a - x)) + sq(y - 1000*(b - y)) + sq(z - 1000*(c - z)) + 1001*h1 + 1001000*(h2*h3 + h4*h5 + h6*h7) + 6135969996997000
pub place_near : (x y z a b c : Rational) → of_whole (pos 360990000000000) ≤ʳ x *ʳ x +ʳ y *ʳ y +ʳ z *ʳ z
    → x *ʳ x +ʳ y *ʳ y +ʳ z *ʳ z ≤ʳ of_whole (pos 1444030000000000) → a -ʳ x ≤ʳ of_whole (pos 1)
    → x -ʳ a ≤ʳ of_whole (pos 1) → b -ʳ y ≤ʳ of_whole (pos 1) → y -ʳ b ≤ʳ of_whole (pos 1) → c -ʳ z ≤ʳ of_whole (pos 1)
    → z -ʳ c ≤ʳ of_whole (pos 1) → a *ʳ a +ʳ b *ʳ b +ʳ c *ʳ c ≤ʳ of_whole (pos 1451610000000000)
place_near x y z a b c h0 h1 h2 h3 h4 h5 h6 h7 =
    cancel_r (of_whole (pos 1000)) (a *ʳ a +ʳ b *ʳ b +ʳ c *ʳ c) (of_whole (pos 1451610000000000)) (omega (arith, ints))
    (cert_r (x ∷ y ∷ z ∷ a ∷ b ∷ c ∷ []) (((ko (pos 360990000000000)) ≼ ((((va 0) ⊗ (va 0)) ⊕ ((va 1) ⊗ (va 1))) ⊕ ((va 2) ⊗ (va 2))))
    ∷ (((((va 0) ⊗ (va 0)) ⊕ ((va 1) ⊗ (va 1))) ⊕ ((va 2) ⊗ (va 2))) ≼ (ko (pos 1444030000000000))) ∷ (((va 3) ⊖ (va 0)) ≼ (ko (pos 1)))
    ∷ (((va 0) ⊖ (va 3)) ≼ (ko (pos 1))) ∷ (((va 4) ⊖ (va 1)) ≼ (ko (pos 1))) ∷ (((va 1) ⊖ (va 4)) ≼ (ko (pos 1))) ∷ (((va 5) ⊖ (va 2)) ≼ (ko (pos 1)))
    ∷ (((va 2) ⊖ (va 5)) ≼ (ko (pos 1))) ∷ []) ((ko (pos 1000)) ⊗ ((((va 3) ⊗ (va 3)) ⊕ ((va 4) ⊗ (va 4))) ⊕ ((va 5) ⊗ (va 5))))
    ((ko (pos 1000)) ⊗ (ko (pos 1451610000000000))) ((((((sq ((va 0) ⊖ ((ko (pos 1000)) ⊗ ((va 3) ⊖ (va 0)))))
    ⊞ (sq ((va 1) ⊖ ((ko (pos 1000)) ⊗ ((va 4) ⊖ (va 1)))))) ⊞ (sq ((va 2) ⊖ ((ko (pos 1000)) ⊗ ((va 5) ⊖ (va 2)))))) ⊞ ((nm 1001) ⊠ (hy 1)))
    ⊞ ((nm 1001000) ⊠ ((((hy 2) ⊠ (hy 3)) ⊞ ((hy 4) ⊠ (hy 5))) ⊞ ((hy 6) ⊠ (hy 7))))) ⊞ (nm 6135969996997000)) refl
    (h0, (h1, (h2, (h3, (h4, (h5, (h6, (h7, tt)))))))))

-- the time over such a distance
-- by 36*h0 + 41505174165846491172*h1 + 18822686266453732282287904469745664
pub time_square : (t q : Rational)
    → of_whole (pos 1152921504606846976) *ʳ (of_whole (pos 299792458) *ʳ t *ʳ (of_whole (pos 299792458) *ʳ t) -ʳ q) ≤ʳ q
    → q ≤ʳ of_whole (pos 2043040000000000)
    → of_whole (pos 6) *ʳ t *ʳ (of_whole (pos 6) *ʳ t) ≤ʳ of_whole (pos 1) *ʳ of_whole (pos 1)
time_square t q h0 h1 =
    cancel_r (of_whole (pos 103619417294244747606330784469745664)) (of_whole (pos 6) *ʳ t *ʳ (of_whole (pos 6) *ʳ t))
    (of_whole (pos 1) *ʳ of_whole (pos 1)) (omega (arith, ints))
    (cert_r (t ∷ q ∷ []) ((((ko (pos 1152921504606846976)) ⊗ ((((ko (pos 299792458)) ⊗ (va 0)) ⊗ ((ko (pos 299792458)) ⊗ (va 0))) ⊖ (va 1))) ≼ (va 1))
    ∷ ((va 1) ≼ (ko (pos 2043040000000000))) ∷ []) ((ko (pos 103619417294244747606330784469745664))
    ⊗ (((ko (pos 6)) ⊗ (va 0)) ⊗ ((ko (pos 6)) ⊗ (va 0)))) ((ko (pos 103619417294244747606330784469745664)) ⊗ ((ko (pos 1)) ⊗ (ko (pos 1))))
    ((((nm 36) ⊠ (hy 0)) ⊞ ((nm 41505174165846491172) ⊠ (hy 1))) ⊞ (nm 18822686266453732282287904469745664)) refl (h0, (h1, tt)))
