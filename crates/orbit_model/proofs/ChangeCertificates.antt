-- Inequalities of the change of the range over a displacement, each by a certificate.
-- The terms are made: tools/inequality_certificate.py writes a lemma from its claim and the products of its hypotheses,
-- h0, h1, .. in the order in which they stand: they are over each lemma, after `by`. Who changes a claim writes its term anew there;
-- the check proves what is written.
use Rattle.std.proofs.Common.{[], ◌∷◌, pos, refl, arith}
use Rattle.std.proofs.lemmas.Int.{ints}
use Rattle.whole_math.proofs.Ring.{va, ko, ◌⊕◌, ◌⊖◌, ◌⊗◌, ng}
use Rattle.whole_math.proofs.Certificates.{◌≼◌, hy, nm, sq, ◌⊞◌, ◌⊠◌}
use Rattle.whole_math.specs.Rational.{Rational, ◌≤ʳ◌, of_whole, ◌+ʳ◌, ◌-ʳ◌, ◌*ʳ◌, neg_r}
use Rattle.orbit_model.proofs.Orders.{cert_r, cancel_r}

-- twice the product of the vectors is at most about 32 times the range
-- by 1152921504606846975000000*(sq(x*b - y*a) + sq(x*c - z*a) + sq(y*c - z*b)) + 1152921504606846975000000*(sq(x) + sq(y) + sq(z))*h0
--    + 256000000*h1 + 36894641068923454046975*sq(u)
pub product_square : (x y z a b c u : Rational) → a *ʳ a +ʳ b *ʳ b +ʳ c *ʳ c ≤ʳ of_whole (pos 256)
    → of_whole (pos 1152921504606846976) *ʳ (x *ʳ x +ʳ y *ʳ y +ʳ z *ʳ z -ʳ u *ʳ u)
    ≤ʳ x *ʳ x +ʳ y *ʳ y +ʳ z *ʳ z → of_whole (pos 1000) *ʳ (x *ʳ a +ʳ y *ʳ b +ʳ z *ʳ c) *ʳ
    (of_whole (pos 1000) *ʳ (x *ʳ a +ʳ y *ʳ b +ʳ z *ʳ c))
    ≤ʳ of_whole (pos 16001) *ʳ u *ʳ (of_whole (pos 16001) *ʳ u)
product_square x y z a b c u h0 h1 =
    cancel_r (of_whole (pos 1152921504606846975)) (of_whole (pos 1000) *ʳ (x *ʳ a +ʳ y *ʳ b +ʳ z *ʳ c) *ʳ
    (of_whole (pos 1000) *ʳ (x *ʳ a +ʳ y *ʳ b +ʳ z *ʳ c)))
    (of_whole (pos 16001) *ʳ u *ʳ (of_whole (pos 16001) *ʳ u)) (omega (arith, ints))
    (cert_r (x ∷ y ∷ z ∷ a ∷ b ∷ c ∷ u ∷ []) ((((((va 3) ⊗ (va 3)) ⊕ ((va 4) ⊗ (va 4))) ⊕ ((va 5) ⊗ (va 5))) ≼ (ko (pos 256)))
    ∷ (((ko (pos 1152921504606846976)) ⊗ (((((va 0) ⊗ (va 0)) ⊕ ((va 1) ⊗ (va 1))) ⊕ ((va 2) ⊗ (va 2))) ⊖ ((va 6) ⊗ (va 6))))
    ≼ ((((va 0) ⊗ (va 0)) ⊕ ((va 1) ⊗ (va 1))) ⊕ ((va 2) ⊗ (va 2)))) ∷ [])
    ((ko (pos 1152921504606846975)) ⊗ (((ko (pos 1000)) ⊗ ((((va 0) ⊗ (va 3)) ⊕ ((va 1) ⊗ (va 4))) ⊕ ((va 2) ⊗ (va 5))))
    ⊗ ((ko (pos 1000)) ⊗ ((((va 0) ⊗ (va 3)) ⊕ ((va 1) ⊗ (va 4))) ⊕ ((va 2) ⊗ (va 5))))))
    ((ko (pos 1152921504606846975)) ⊗ (((ko (pos 16001)) ⊗ (va 6)) ⊗ ((ko (pos 16001)) ⊗ (va 6))))
    (((((nm 1152921504606846975000000) ⊠ (((sq (((va 0) ⊗ (va 4)) ⊖ ((va 1) ⊗ (va 3)))) ⊞ (sq (((va 0) ⊗ (va 5)) ⊖ ((va 2) ⊗ (va 3)))))
    ⊞ (sq (((va 1) ⊗ (va 5)) ⊖ ((va 2) ⊗ (va 4)))))) ⊞ (((nm 1152921504606846975000000) ⊠ (((sq (va 0)) ⊞ (sq (va 1))) ⊞ (sq (va 2)))) ⊠ (hy 0)))
    ⊞ ((nm 256000000) ⊠ (hy 1))) ⊞ ((nm 36894641068923454046975) ⊠ (sq (va 6)))) refl (h0, (h1, tt)))

-- by 1152921504606846975*h0 + h1 + 114139228956077850524000000000000
pub range_square : (x y z u : Rational) → of_whole (pos 100000000000000) ≤ʳ x *ʳ x +ʳ y *ʳ y +ʳ z *ʳ z
    → of_whole (pos 1152921504606846976) *ʳ (x *ʳ x +ʳ y *ʳ y +ʳ z *ʳ z -ʳ u *ʳ u)
    ≤ʳ x *ʳ x +ʳ y *ʳ y +ʳ z *ʳ z → of_whole (pos 1000000) *ʳ of_whole (pos 1000000) ≤ʳ u *ʳ u
range_square x y z u h0 h1 =
    cancel_r (of_whole (pos 1152921504606846976)) (of_whole (pos 1000000) *ʳ of_whole (pos 1000000)) (u *ʳ u) (omega (arith, ints))
    (cert_r (x ∷ y ∷ z ∷ u ∷ []) (((ko (pos 100000000000000)) ≼ ((((va 0) ⊗ (va 0)) ⊕ ((va 1) ⊗ (va 1))) ⊕ ((va 2) ⊗ (va 2))))
    ∷ (((ko (pos 1152921504606846976)) ⊗ (((((va 0) ⊗ (va 0)) ⊕ ((va 1) ⊗ (va 1))) ⊕ ((va 2) ⊗ (va 2))) ⊖ ((va 3) ⊗ (va 3))))
    ≼ ((((va 0) ⊗ (va 0)) ⊕ ((va 1) ⊗ (va 1))) ⊕ ((va 2) ⊗ (va 2)))) ∷ [])
    ((ko (pos 1152921504606846976)) ⊗ ((ko (pos 1000000)) ⊗ (ko (pos 1000000)))) ((ko (pos 1152921504606846976)) ⊗ ((va 3) ⊗ (va 3)))
    ((((nm 1152921504606846975) ⊠ (hy 0)) ⊞ (hy 1)) ⊞ (nm 114139228956077850524000000000000)) refl (h0, (h1, tt)))

-- by 4000*h4 + 4000*h3 + 9223372036854775816*h7 + 4611686018427387908000*h1 + 8000*h0 + 4602462646390533000184*h8
--    + 4602537568273933935754432000
pub after_square : (x y z a b c u v : Rational) → x *ʳ x +ʳ y *ʳ y +ʳ z *ʳ z ≤ʳ of_whole (pos 2251799813685248)
    → a *ʳ a +ʳ b *ʳ b +ʳ c *ʳ c ≤ʳ of_whole (pos 256)
    → of_whole (pos 1152921504606846976) *ʳ (u *ʳ u -ʳ (x *ʳ x +ʳ y *ʳ y +ʳ z *ʳ z))
    ≤ʳ x *ʳ x +ʳ y *ʳ y +ʳ z *ʳ z
    → of_whole (pos 1152921504606846976) *ʳ (x *ʳ x +ʳ y *ʳ y +ʳ z *ʳ z -ʳ u *ʳ u)
    ≤ʳ x *ʳ x +ʳ y *ʳ y +ʳ z *ʳ z → of_whole (pos 1152921504606846976) *ʳ
    (v *ʳ v -ʳ ((x -ʳ a) *ʳ (x -ʳ a) +ʳ (y -ʳ b) *ʳ (y -ʳ b) +ʳ (z -ʳ c) *ʳ (z -ʳ c)))
    ≤ʳ (x -ʳ a) *ʳ (x -ʳ a) +ʳ (y -ʳ b) *ʳ (y -ʳ b) +ʳ (z -ʳ c) *ʳ (z -ʳ c)
    → of_whole (pos 1152921504606846976) *ʳ
    ((x -ʳ a) *ʳ (x -ʳ a) +ʳ (y -ʳ b) *ʳ (y -ʳ b) +ʳ (z -ʳ c) *ʳ (z -ʳ c) -ʳ v *ʳ v)
    ≤ʳ (x -ʳ a) *ʳ (x -ʳ a) +ʳ (y -ʳ b) *ʳ (y -ʳ b) +ʳ (z -ʳ c) *ʳ (z -ʳ c)
    → of_whole (pos 1000) *ʳ (x *ʳ a +ʳ y *ʳ b +ʳ z *ʳ c) ≤ʳ of_whole (pos 16001) *ʳ u
    → neg_r (of_whole (pos 1000) *ʳ (x *ʳ a +ʳ y *ʳ b +ʳ z *ʳ c)) ≤ʳ of_whole (pos 16001) *ʳ u
    → of_whole (pos 1000000) ≤ʳ u → of_whole (pos 2) *ʳ v *ʳ (of_whole (pos 2) *ʳ v)
    ≤ʳ (of_whole (pos 2) *ʳ u +ʳ of_whole (pos 33)) *ʳ (of_whole (pos 2) *ʳ u +ʳ of_whole (pos 33))
after_square x y z a b c u v h0 h1 h2 h3 h4 h5 h6 h7 h8 =
    cancel_r (of_whole (pos 1152921504606846976000)) (of_whole (pos 2) *ʳ v *ʳ (of_whole (pos 2) *ʳ v))
    ((of_whole (pos 2) *ʳ u +ʳ of_whole (pos 33)) *ʳ (of_whole (pos 2) *ʳ u +ʳ of_whole (pos 33))) (omega (arith, ints))
    (cert_r (x ∷ y ∷ z ∷ a ∷ b ∷ c ∷ u ∷ v ∷ []) ((((((va 0) ⊗ (va 0)) ⊕ ((va 1) ⊗ (va 1))) ⊕ ((va 2) ⊗ (va 2))) ≼ (ko (pos 2251799813685248)))
    ∷ (((((va 3) ⊗ (va 3)) ⊕ ((va 4) ⊗ (va 4))) ⊕ ((va 5) ⊗ (va 5))) ≼ (ko (pos 256))) ∷ (((ko (pos 1152921504606846976)) ⊗ (((va 6) ⊗ (va 6))
    ⊖ ((((va 0) ⊗ (va 0)) ⊕ ((va 1) ⊗ (va 1))) ⊕ ((va 2) ⊗ (va 2))))) ≼ ((((va 0) ⊗ (va 0)) ⊕ ((va 1) ⊗ (va 1))) ⊕ ((va 2) ⊗ (va 2))))
    ∷ (((ko (pos 1152921504606846976)) ⊗ (((((va 0) ⊗ (va 0)) ⊕ ((va 1) ⊗ (va 1))) ⊕ ((va 2) ⊗ (va 2))) ⊖ ((va 6) ⊗ (va 6))))
    ≼ ((((va 0) ⊗ (va 0)) ⊕ ((va 1) ⊗ (va 1))) ⊕ ((va 2) ⊗ (va 2)))) ∷ (((ko (pos 1152921504606846976)) ⊗ (((va 7) ⊗ (va 7))
    ⊖ (((((va 0) ⊖ (va 3)) ⊗ ((va 0) ⊖ (va 3))) ⊕ (((va 1) ⊖ (va 4)) ⊗ ((va 1) ⊖ (va 4)))) ⊕ (((va 2) ⊖ (va 5)) ⊗ ((va 2) ⊖ (va 5))))))
    ≼ (((((va 0) ⊖ (va 3)) ⊗ ((va 0) ⊖ (va 3))) ⊕ (((va 1) ⊖ (va 4)) ⊗ ((va 1) ⊖ (va 4)))) ⊕ (((va 2) ⊖ (va 5)) ⊗ ((va 2) ⊖ (va 5)))))
    ∷ (((ko (pos 1152921504606846976)) ⊗ ((((((va 0) ⊖ (va 3)) ⊗ ((va 0) ⊖ (va 3))) ⊕ (((va 1) ⊖ (va 4)) ⊗ ((va 1) ⊖ (va 4))))
    ⊕ (((va 2) ⊖ (va 5)) ⊗ ((va 2) ⊖ (va 5)))) ⊖ ((va 7) ⊗ (va 7))))
    ≼ (((((va 0) ⊖ (va 3)) ⊗ ((va 0) ⊖ (va 3))) ⊕ (((va 1) ⊖ (va 4)) ⊗ ((va 1) ⊖ (va 4)))) ⊕ (((va 2) ⊖ (va 5)) ⊗ ((va 2) ⊖ (va 5)))))
    ∷ (((ko (pos 1000)) ⊗ ((((va 0) ⊗ (va 3)) ⊕ ((va 1) ⊗ (va 4))) ⊕ ((va 2) ⊗ (va 5)))) ≼ ((ko (pos 16001)) ⊗ (va 6)))
    ∷ ((ng ((ko (pos 1000)) ⊗ ((((va 0) ⊗ (va 3)) ⊕ ((va 1) ⊗ (va 4))) ⊕ ((va 2) ⊗ (va 5))))) ≼ ((ko (pos 16001)) ⊗ (va 6)))
    ∷ ((ko (pos 1000000)) ≼ (va 6)) ∷ []) ((ko (pos 1152921504606846976000)) ⊗ (((ko (pos 2)) ⊗ (va 7)) ⊗ ((ko (pos 2)) ⊗ (va 7))))
    ((ko (pos 1152921504606846976000)) ⊗ ((((ko (pos 2)) ⊗ (va 6)) ⊕ (ko (pos 33))) ⊗ (((ko (pos 2)) ⊗ (va 6)) ⊕ (ko (pos 33)))))
    ((((((((nm 4000) ⊠ (hy 4)) ⊞ ((nm 4000) ⊠ (hy 3))) ⊞ ((nm 9223372036854775816) ⊠ (hy 7))) ⊞ ((nm 4611686018427387908000) ⊠ (hy 1)))
    ⊞ ((nm 8000) ⊠ (hy 0))) ⊞ ((nm 4602462646390533000184) ⊠ (hy 8))) ⊞ (nm 4602537568273933935754432000)) refl
    (h0, (h1, (h2, (h3, (h4, (h5, (h6, (h7, (h8, tt))))))))))

-- by 4000*h5 + 4000*h2 + 9223372036854775800*h6 + 8000*h0 + 4611686018427387900000*(sq(a) + sq(b) + sq(c)) + 4602462646390533256200*h8
--    + 4601207096857617890361152000
pub before_square : (x y z a b c u v : Rational) → x *ʳ x +ʳ y *ʳ y +ʳ z *ʳ z ≤ʳ of_whole (pos 2251799813685248)
    → a *ʳ a +ʳ b *ʳ b +ʳ c *ʳ c ≤ʳ of_whole (pos 256)
    → of_whole (pos 1152921504606846976) *ʳ (u *ʳ u -ʳ (x *ʳ x +ʳ y *ʳ y +ʳ z *ʳ z))
    ≤ʳ x *ʳ x +ʳ y *ʳ y +ʳ z *ʳ z
    → of_whole (pos 1152921504606846976) *ʳ (x *ʳ x +ʳ y *ʳ y +ʳ z *ʳ z -ʳ u *ʳ u)
    ≤ʳ x *ʳ x +ʳ y *ʳ y +ʳ z *ʳ z → of_whole (pos 1152921504606846976) *ʳ
    (v *ʳ v -ʳ ((x -ʳ a) *ʳ (x -ʳ a) +ʳ (y -ʳ b) *ʳ (y -ʳ b) +ʳ (z -ʳ c) *ʳ (z -ʳ c)))
    ≤ʳ (x -ʳ a) *ʳ (x -ʳ a) +ʳ (y -ʳ b) *ʳ (y -ʳ b) +ʳ (z -ʳ c) *ʳ (z -ʳ c)
    → of_whole (pos 1152921504606846976) *ʳ
    ((x -ʳ a) *ʳ (x -ʳ a) +ʳ (y -ʳ b) *ʳ (y -ʳ b) +ʳ (z -ʳ c) *ʳ (z -ʳ c) -ʳ v *ʳ v)
    ≤ʳ (x -ʳ a) *ʳ (x -ʳ a) +ʳ (y -ʳ b) *ʳ (y -ʳ b) +ʳ (z -ʳ c) *ʳ (z -ʳ c)
    → of_whole (pos 1000) *ʳ (x *ʳ a +ʳ y *ʳ b +ʳ z *ʳ c) ≤ʳ of_whole (pos 16001) *ʳ u
    → neg_r (of_whole (pos 1000) *ʳ (x *ʳ a +ʳ y *ʳ b +ʳ z *ʳ c)) ≤ʳ of_whole (pos 16001) *ʳ u
    → of_whole (pos 1000000) ≤ʳ u → (of_whole (pos 2) *ʳ u -ʳ of_whole (pos 33)) *ʳ (of_whole (pos 2) *ʳ u -ʳ of_whole (pos 33))
    ≤ʳ of_whole (pos 2) *ʳ v *ʳ (of_whole (pos 2) *ʳ v)
before_square x y z a b c u v h0 h1 h2 h3 h4 h5 h6 h7 h8 =
    cancel_r (of_whole (pos 1152921504606846976000))
    ((of_whole (pos 2) *ʳ u -ʳ of_whole (pos 33)) *ʳ (of_whole (pos 2) *ʳ u -ʳ of_whole (pos 33)))
    (of_whole (pos 2) *ʳ v *ʳ (of_whole (pos 2) *ʳ v)) (omega (arith, ints))
    (cert_r (x ∷ y ∷ z ∷ a ∷ b ∷ c ∷ u ∷ v ∷ []) ((((((va 0) ⊗ (va 0)) ⊕ ((va 1) ⊗ (va 1))) ⊕ ((va 2) ⊗ (va 2))) ≼ (ko (pos 2251799813685248)))
    ∷ (((((va 3) ⊗ (va 3)) ⊕ ((va 4) ⊗ (va 4))) ⊕ ((va 5) ⊗ (va 5))) ≼ (ko (pos 256))) ∷ (((ko (pos 1152921504606846976)) ⊗ (((va 6) ⊗ (va 6))
    ⊖ ((((va 0) ⊗ (va 0)) ⊕ ((va 1) ⊗ (va 1))) ⊕ ((va 2) ⊗ (va 2))))) ≼ ((((va 0) ⊗ (va 0)) ⊕ ((va 1) ⊗ (va 1))) ⊕ ((va 2) ⊗ (va 2))))
    ∷ (((ko (pos 1152921504606846976)) ⊗ (((((va 0) ⊗ (va 0)) ⊕ ((va 1) ⊗ (va 1))) ⊕ ((va 2) ⊗ (va 2))) ⊖ ((va 6) ⊗ (va 6))))
    ≼ ((((va 0) ⊗ (va 0)) ⊕ ((va 1) ⊗ (va 1))) ⊕ ((va 2) ⊗ (va 2)))) ∷ (((ko (pos 1152921504606846976)) ⊗ (((va 7) ⊗ (va 7))
    ⊖ (((((va 0) ⊖ (va 3)) ⊗ ((va 0) ⊖ (va 3))) ⊕ (((va 1) ⊖ (va 4)) ⊗ ((va 1) ⊖ (va 4)))) ⊕ (((va 2) ⊖ (va 5)) ⊗ ((va 2) ⊖ (va 5))))))
    ≼ (((((va 0) ⊖ (va 3)) ⊗ ((va 0) ⊖ (va 3))) ⊕ (((va 1) ⊖ (va 4)) ⊗ ((va 1) ⊖ (va 4)))) ⊕ (((va 2) ⊖ (va 5)) ⊗ ((va 2) ⊖ (va 5)))))
    ∷ (((ko (pos 1152921504606846976)) ⊗ ((((((va 0) ⊖ (va 3)) ⊗ ((va 0) ⊖ (va 3))) ⊕ (((va 1) ⊖ (va 4)) ⊗ ((va 1) ⊖ (va 4))))
    ⊕ (((va 2) ⊖ (va 5)) ⊗ ((va 2) ⊖ (va 5)))) ⊖ ((va 7) ⊗ (va 7))))
    ≼ (((((va 0) ⊖ (va 3)) ⊗ ((va 0) ⊖ (va 3))) ⊕ (((va 1) ⊖ (va 4)) ⊗ ((va 1) ⊖ (va 4)))) ⊕ (((va 2) ⊖ (va 5)) ⊗ ((va 2) ⊖ (va 5)))))
    ∷ (((ko (pos 1000)) ⊗ ((((va 0) ⊗ (va 3)) ⊕ ((va 1) ⊗ (va 4))) ⊕ ((va 2) ⊗ (va 5)))) ≼ ((ko (pos 16001)) ⊗ (va 6)))
    ∷ ((ng ((ko (pos 1000)) ⊗ ((((va 0) ⊗ (va 3)) ⊕ ((va 1) ⊗ (va 4))) ⊕ ((va 2) ⊗ (va 5))))) ≼ ((ko (pos 16001)) ⊗ (va 6))) ∷ ((ko (pos 1000000))
    ≼ (va 6)) ∷ []) ((ko (pos 1152921504606846976000)) ⊗ ((((ko (pos 2)) ⊗ (va 6)) ⊖ (ko (pos 33))) ⊗ (((ko (pos 2)) ⊗ (va 6)) ⊖ (ko (pos 33)))))
    ((ko (pos 1152921504606846976000)) ⊗ (((ko (pos 2)) ⊗ (va 7)) ⊗ ((ko (pos 2)) ⊗ (va 7))))
    ((((((((nm 4000) ⊠ (hy 5)) ⊞ ((nm 4000) ⊠ (hy 2))) ⊞ ((nm 9223372036854775800) ⊠ (hy 6))) ⊞ ((nm 8000) ⊠ (hy 0)))
    ⊞ ((nm 4611686018427387900000) ⊠ (((sq (va 3)) ⊞ (sq (va 4))) ⊞ (sq (va 5))))) ⊞ ((nm 4602462646390533256200) ⊠ (hy 8)))
    ⊞ (nm 4601207096857617890361152000)) refl (h0, (h1, (h2, (h3, (h4, (h5, (h6, (h7, (h8, tt))))))))))

-- by 16001*h0
pub times_nn : (u : Rational) → of_whole (pos 0) ≤ʳ u → of_whole (pos 0) ≤ʳ of_whole (pos 16001) *ʳ u
times_nn u h0 =
    cert_r (u ∷ []) (((ko (pos 0)) ≼ (va 0)) ∷ []) (ko (pos 0)) ((ko (pos 16001)) ⊗ (va 0)) ((nm 16001) ⊠ (hy 0)) refl (h0, tt)

-- by 2*h0
pub twice_nn : (u : Rational) → of_whole (pos 0) ≤ʳ u → of_whole (pos 0) ≤ʳ of_whole (pos 2) *ʳ u
twice_nn u h0 =
    cert_r (u ∷ []) (((ko (pos 0)) ≼ (va 0)) ∷ []) (ko (pos 0)) ((ko (pos 2)) ⊗ (va 0)) ((nm 2) ⊠ (hy 0)) refl (h0, tt)

-- by 2*h0 + 33
pub sum_nn : (u : Rational) → of_whole (pos 0) ≤ʳ u → of_whole (pos 0) ≤ʳ of_whole (pos 2) *ʳ u +ʳ of_whole (pos 33)
sum_nn u h0 =
    cert_r (u ∷ []) (((ko (pos 0)) ≼ (va 0)) ∷ []) (ko (pos 0)) (((ko (pos 2)) ⊗ (va 0)) ⊕ (ko (pos 33))) (((nm 2) ⊠ (hy 0)) ⊞ (nm 33)) refl (h0, tt)

-- by h0
pub neg_square : (p w : Rational) → p *ʳ p ≤ʳ w *ʳ w → neg_r (p) *ʳ neg_r (p) ≤ʳ w *ʳ w
neg_square p w h0 =
    cert_r (p ∷ w ∷ []) ((((va 0) ⊗ (va 0)) ≼ ((va 1) ⊗ (va 1))) ∷ []) ((ng (va 0)) ⊗ (ng (va 0))) ((va 1) ⊗ (va 1)) (hy 0) refl (h0, tt)
