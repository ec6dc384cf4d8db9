-- Inequalities of the fixed point, each by a certificate. The terms are made: over each lemma stands, after
-- `by`, of what, h0, h1, .. the hypotheses and e0, e1, .. the equations in the order in which they stand. The check proves what is written.
use Rattle.std.proofs.Common.{[], ◌∷◌, pos, arith, refl}
use Rattle.std.proofs.lemmas.Int.{ints}
use Rattle.whole_math.proofs.Ring.{va, ko, ◌⊕◌, ◌⊖◌, ◌⊗◌, ng}
use Rattle.whole_math.proofs.Certificates.{◌≼◌, hy, nm, sq, ◌⊞◌, ◌⊠◌}
use Rattle.whole_math.specs.Rational.{Rational, ◌≈◌, ◌≤ʳ◌, of_whole, ◌+ʳ◌, ◌-ʳ◌, ◌*ʳ◌, neg_r}
use Rattle.whole_math.proofs.RationalOrders.{◌≐◌, order_r, cancel_r}

-- by 2*h4 + h0*h3 + h1*h2
pub moved : (A g x y D d : Rational) → (of_whole (pos 16) *ʳ g ≤ʳ of_whole (pos 1)) → (of_whole (pos 16) *ʳ neg_r (g) ≤ʳ of_whole (pos 1)) → (x -ʳ y ≤ʳ D) → (y -ʳ x ≤ʳ D) → (D ≤ʳ of_whole (pos 16) *ʳ d) → A +ʳ g *ʳ x -ʳ (A +ʳ g *ʳ y) ≤ʳ d
moved A g x y D d h0 h1 h2 h3 h4 =
    cancel_r (of_whole (pos 32)) (A +ʳ g *ʳ x -ʳ (A +ʳ g *ʳ y)) d (omega (arith, ints)) (order_r (A ∷ g ∷ x ∷ y ∷ D ∷ d ∷ []) ((((ko (pos 16)) ⊗ (va 1)) ≼ (ko (pos 1))) ∷ (((ko (pos 16)) ⊗ (ng (va 1))) ≼ (ko (pos 1))) ∷ (((va 2) ⊖ (va 3)) ≼ (va 4)) ∷ (((va 3) ⊖ (va 2)) ≼ (va 4)) ∷ ((va 4) ≼ ((ko (pos 16)) ⊗ (va 5))) ∷ []) ([]) ((ko (pos 32)) ⊗ (((va 0) ⊕ ((va 1) ⊗ (va 2))) ⊖ ((va 0) ⊕ ((va 1) ⊗ (va 3))))) ((ko (pos 32)) ⊗ (va 5)) ((((nm 2) ⊠ (hy 4)) ⊞ ((hy 0) ⊠ (hy 3))) ⊞ ((hy 1) ⊠ (hy 2))) ([]) refl (h0, (h1, (h2, (h3, (h4, tt))))) tt)

-- by h0*h3 + h1*h2 + e0*(0 - 32*g)
pub near_up : (A g s z a : Rational) → (of_whole (pos 16) *ʳ g ≤ʳ of_whole (pos 1)) → (of_whole (pos 16) *ʳ neg_r (g) ≤ʳ of_whole (pos 1)) → (s -ʳ z ≤ʳ of_whole (pos 4) *ʳ a) → (z -ʳ s ≤ʳ of_whole (pos 4) *ʳ a) → (z ≈ of_whole (pos 0)) → of_whole (pos 4) *ʳ (A +ʳ g *ʳ s -ʳ A) ≤ʳ a
near_up A g s z a h0 h1 h2 h3 e0 =
    cancel_r (of_whole (pos 8)) (of_whole (pos 4) *ʳ (A +ʳ g *ʳ s -ʳ A)) a (omega (arith, ints)) (order_r (A ∷ g ∷ s ∷ z ∷ a ∷ []) ((((ko (pos 16)) ⊗ (va 1)) ≼ (ko (pos 1))) ∷ (((ko (pos 16)) ⊗ (ng (va 1))) ≼ (ko (pos 1))) ∷ (((va 2) ⊖ (va 3)) ≼ ((ko (pos 4)) ⊗ (va 4))) ∷ (((va 3) ⊖ (va 2)) ≼ ((ko (pos 4)) ⊗ (va 4))) ∷ []) (((va 3) ≐ (ko (pos 0))) ∷ []) ((ko (pos 8)) ⊗ ((ko (pos 4)) ⊗ (((va 0) ⊕ ((va 1) ⊗ (va 2))) ⊖ (va 0)))) ((ko (pos 8)) ⊗ (va 4)) (((hy 0) ⊠ (hy 3)) ⊞ ((hy 1) ⊠ (hy 2))) (((ko (pos 0)) ⊖ ((ko (pos 32)) ⊗ (va 1))) ∷ []) refl (h0, (h1, (h2, (h3, tt)))) (e0, tt))

-- by h0*h2 + h1*h3 + e0*(32*g)
pub near_down : (A g s z a : Rational) → (of_whole (pos 16) *ʳ g ≤ʳ of_whole (pos 1)) → (of_whole (pos 16) *ʳ neg_r (g) ≤ʳ of_whole (pos 1)) → (s -ʳ z ≤ʳ of_whole (pos 4) *ʳ a) → (z -ʳ s ≤ʳ of_whole (pos 4) *ʳ a) → (z ≈ of_whole (pos 0)) → of_whole (pos 4) *ʳ (A -ʳ (A +ʳ g *ʳ s)) ≤ʳ a
near_down A g s z a h0 h1 h2 h3 e0 =
    cancel_r (of_whole (pos 8)) (of_whole (pos 4) *ʳ (A -ʳ (A +ʳ g *ʳ s))) a (omega (arith, ints)) (order_r (A ∷ g ∷ s ∷ z ∷ a ∷ []) ((((ko (pos 16)) ⊗ (va 1)) ≼ (ko (pos 1))) ∷ (((ko (pos 16)) ⊗ (ng (va 1))) ≼ (ko (pos 1))) ∷ (((va 2) ⊖ (va 3)) ≼ ((ko (pos 4)) ⊗ (va 4))) ∷ (((va 3) ⊖ (va 2)) ≼ ((ko (pos 4)) ⊗ (va 4))) ∷ []) (((va 3) ≐ (ko (pos 0))) ∷ []) ((ko (pos 8)) ⊗ ((ko (pos 4)) ⊗ ((va 0) ⊖ ((va 0) ⊕ ((va 1) ⊗ (va 2)))))) ((ko (pos 8)) ⊗ (va 4)) (((hy 0) ⊠ (hy 2)) ⊞ ((hy 1) ⊠ (hy 3))) (((ko (pos 32)) ⊗ (va 1)) ∷ []) refl (h0, (h1, (h2, (h3, tt)))) (e0, tt))

-- by h0 + 4*h1
pub sized_up : (A E a : Rational) → (of_whole (pos 4) *ʳ (E -ʳ A) ≤ʳ a) → (A ≤ʳ a) → of_whole (pos 4) *ʳ E ≤ʳ of_whole (pos 5) *ʳ a
sized_up A E a h0 h1 =
    order_r (A ∷ E ∷ a ∷ []) ((((ko (pos 4)) ⊗ ((va 1) ⊖ (va 0))) ≼ (va 2)) ∷ ((va 0) ≼ (va 2)) ∷ []) ([]) ((ko (pos 4)) ⊗ (va 1)) ((ko (pos 5)) ⊗ (va 2)) ((hy 0) ⊞ ((nm 4) ⊠ (hy 1))) ([]) refl (h0, (h1, tt)) tt

-- by h0 + 4*h1
pub sized_down : (A E a : Rational) → (of_whole (pos 4) *ʳ (A -ʳ E) ≤ʳ a) → (neg_r (A) ≤ʳ a) → of_whole (pos 4) *ʳ neg_r (E) ≤ʳ of_whole (pos 5) *ʳ a
sized_down A E a h0 h1 =
    order_r (A ∷ E ∷ a ∷ []) ((((ko (pos 4)) ⊗ ((va 0) ⊖ (va 1))) ≼ (va 2)) ∷ ((ng (va 0)) ≼ (va 2)) ∷ []) ([]) ((ko (pos 4)) ⊗ (ng (va 1))) ((ko (pos 5)) ⊗ (va 2)) ((hy 0) ⊞ ((nm 4) ⊠ (hy 1))) ([]) refl (h0, (h1, tt)) tt

-- by h0 + 5*h1
pub at_most_15 : (E a : Rational) → (of_whole (pos 4) *ʳ E ≤ʳ of_whole (pos 5) *ʳ a) → (a ≤ʳ of_whole (pos 12)) → E ≤ʳ of_whole (pos 15)
at_most_15 E a h0 h1 =
    cancel_r (of_whole (pos 4)) E (of_whole (pos 15)) (omega (arith, ints)) (order_r (E ∷ a ∷ []) ((((ko (pos 4)) ⊗ (va 0)) ≼ ((ko (pos 5)) ⊗ (va 1))) ∷ ((va 1) ≼ (ko (pos 12))) ∷ []) ([]) ((ko (pos 4)) ⊗ (va 0)) ((ko (pos 4)) ⊗ (ko (pos 15))) ((hy 0) ⊞ ((nm 5) ⊠ (hy 1))) ([]) refl (h0, (h1, tt)) tt)

-- by h0 + 3*h1
pub doubly : (E a : Rational) → (of_whole (pos 4) *ʳ E ≤ʳ of_whole (pos 5) *ʳ a) → (of_whole (pos 0) ≤ʳ a) → E -ʳ of_whole (pos 0) ≤ʳ of_whole (pos 2) *ʳ a
doubly E a h0 h1 =
    cancel_r (of_whole (pos 4)) (E -ʳ of_whole (pos 0)) (of_whole (pos 2) *ʳ a) (omega (arith, ints)) (order_r (E ∷ a ∷ []) ((((ko (pos 4)) ⊗ (va 0)) ≼ ((ko (pos 5)) ⊗ (va 1))) ∷ ((ko (pos 0)) ≼ (va 1)) ∷ []) ([]) ((ko (pos 4)) ⊗ ((va 0) ⊖ (ko (pos 0)))) ((ko (pos 4)) ⊗ ((ko (pos 2)) ⊗ (va 1))) ((hy 0) ⊞ ((nm 3) ⊠ (hy 1))) ([]) refl (h0, (h1, tt)) tt)

-- by h0 + 3*h1
pub doubly_back : (E a : Rational) → (of_whole (pos 4) *ʳ neg_r (E) ≤ʳ of_whole (pos 5) *ʳ a) → (of_whole (pos 0) ≤ʳ a) → of_whole (pos 0) -ʳ E ≤ʳ of_whole (pos 2) *ʳ a
doubly_back E a h0 h1 =
    cancel_r (of_whole (pos 4)) (of_whole (pos 0) -ʳ E) (of_whole (pos 2) *ʳ a) (omega (arith, ints)) (order_r (E ∷ a ∷ []) ((((ko (pos 4)) ⊗ (ng (va 0))) ≼ ((ko (pos 5)) ⊗ (va 1))) ∷ ((ko (pos 0)) ≼ (va 1)) ∷ []) ([]) ((ko (pos 4)) ⊗ ((ko (pos 0)) ⊖ (va 0))) ((ko (pos 4)) ⊗ ((ko (pos 2)) ⊗ (va 1))) ((hy 0) ⊞ ((nm 3) ⊠ (hy 1))) ([]) refl (h0, (h1, tt)) tt)

-- by 5*h0
pub zero_up : (a : Rational) → (of_whole (pos 0) ≤ʳ a) → of_whole (pos 4) *ʳ of_whole (pos 0) ≤ʳ of_whole (pos 5) *ʳ a
zero_up a h0 =
    order_r (a ∷ []) (((ko (pos 0)) ≼ (va 0)) ∷ []) ([]) ((ko (pos 4)) ⊗ (ko (pos 0))) ((ko (pos 5)) ⊗ (va 0)) ((nm 5) ⊠ (hy 0)) ([]) refl (h0, tt) tt

-- by 5*h0
pub zero_down : (a : Rational) → (of_whole (pos 0) ≤ʳ a) → of_whole (pos 4) *ʳ neg_r (of_whole (pos 0)) ≤ʳ of_whole (pos 5) *ʳ a
zero_down a h0 =
    order_r (a ∷ []) (((ko (pos 0)) ≼ (va 0)) ∷ []) ([]) ((ko (pos 4)) ⊗ (ng (ko (pos 0)))) ((ko (pos 5)) ⊗ (va 0)) ((nm 5) ⊠ (hy 0)) ([]) refl (h0, tt) tt

-- by h0
pub twice_two : (a x : Rational) → (x ≤ʳ of_whole (pos 2) *ʳ (of_whole (pos 2) *ʳ a)) → x ≤ʳ of_whole (pos 4) *ʳ a
twice_two a x h0 =
    order_r (a ∷ x ∷ []) (((va 1) ≼ ((ko (pos 2)) ⊗ ((ko (pos 2)) ⊗ (va 0)))) ∷ []) ([]) (va 1) ((ko (pos 4)) ⊗ (va 0)) (hy 0) ([]) refl (h0, tt) tt

-- by h0 + e0*(0 - g)
pub first_up : (A g z a : Rational) → (A ≤ʳ a) → (z ≈ of_whole (pos 0)) → A +ʳ g *ʳ z -ʳ of_whole (pos 0) ≤ʳ a *ʳ of_whole (pos 1)
first_up A g z a h0 e0 =
    order_r (A ∷ g ∷ z ∷ a ∷ []) (((va 0) ≼ (va 3)) ∷ []) (((va 2) ≐ (ko (pos 0))) ∷ []) (((va 0) ⊕ ((va 1) ⊗ (va 2))) ⊖ (ko (pos 0))) ((va 3) ⊗ (ko (pos 1))) (hy 0) (((ko (pos 0)) ⊖ (va 1)) ∷ []) refl (h0, tt) (e0, tt)

-- by h0 + e0*g
pub first_down : (A g z a : Rational) → (neg_r (A) ≤ʳ a) → (z ≈ of_whole (pos 0)) → of_whole (pos 0) -ʳ (A +ʳ g *ʳ z) ≤ʳ a *ʳ of_whole (pos 1)
first_down A g z a h0 e0 =
    order_r (A ∷ g ∷ z ∷ a ∷ []) (((ng (va 0)) ≼ (va 3)) ∷ []) (((va 2) ≐ (ko (pos 0))) ∷ []) ((ko (pos 0)) ⊖ ((va 0) ⊕ ((va 1) ⊗ (va 2)))) ((va 3) ⊗ (ko (pos 1))) (hy 0) ((va 1) ∷ []) refl (h0, tt) (e0, tt)

-- by 8*(h0*h2) + 6*(h0*h1)
pub halves : (a h k : Rational) → (of_whole (pos 0) ≤ʳ a) → (of_whole (pos 0) ≤ʳ h) → (h ≤ʳ of_whole (pos 2) *ʳ k) → of_whole (pos 2) *ʳ (a *ʳ h) ≤ʳ of_whole (pos 16) *ʳ (a *ʳ k)
halves a h k h0 h1 h2 =
    order_r (a ∷ h ∷ k ∷ []) (((ko (pos 0)) ≼ (va 0)) ∷ ((ko (pos 0)) ≼ (va 1)) ∷ ((va 1) ≼ ((ko (pos 2)) ⊗ (va 2))) ∷ []) ([]) ((ko (pos 2)) ⊗ ((va 0) ⊗ (va 1))) ((ko (pos 16)) ⊗ ((va 0) ⊗ (va 2))) (((nm 8) ⊠ ((hy 0) ⊠ (hy 2))) ⊞ ((nm 6) ⊠ ((hy 0) ⊠ (hy 1)))) ([]) refl (h0, (h1, (h2, tt))) tt

-- by h3 + 4*(h2*h1) + 16*h2
pub ends : (a k t : Rational) → (of_whole (pos 0) ≤ʳ a) → (a ≤ʳ of_whole (pos 12)) → (of_whole (pos 0) ≤ʳ k) → (of_whole (pos 64) *ʳ k ≤ʳ t) → of_whole (pos 4) *ʳ (a *ʳ k) ≤ʳ t
ends a k t h0 h1 h2 h3 =
    order_r (a ∷ k ∷ t ∷ []) (((ko (pos 0)) ≼ (va 0)) ∷ ((va 0) ≼ (ko (pos 12))) ∷ ((ko (pos 0)) ≼ (va 1)) ∷ (((ko (pos 64)) ⊗ (va 1)) ≼ (va 2)) ∷ []) ([]) ((ko (pos 4)) ⊗ ((va 0) ⊗ (va 1))) (va 2) (((hy 3) ⊞ ((nm 4) ⊠ ((hy 2) ⊠ (hy 1)))) ⊞ ((nm 16) ⊠ (hy 2))) ([]) refl (h0, (h1, (h2, (h3, tt)))) tt

-- by 40*h0 + (sq(c - e) + sq(s - t))*(6 + h1 + h2 + 8*(sq(c - e) + sq(s - t))) + e0*(0 - 8*(y - z + 2*(s*c) - 2*(t*e))) + e1*(8*(y - z
--    + 2*(s*c) - 2*(t*e)))
pub grows : (c s e t y z m : Rational) → ((c -ʳ e) *ʳ (c -ʳ e) +ʳ (s -ʳ t) *ʳ (s -ʳ t) ≤ʳ m) → (of_whole (pos 16) *ʳ (c *ʳ c +ʳ s *ʳ s) ≤ʳ of_whole (pos 17)) → (of_whole (pos 16) *ʳ (e *ʳ e +ʳ t *ʳ t) ≤ʳ of_whole (pos 17)) → (y ≈ of_whole (pos 2) *ʳ (s *ʳ c)) → (z ≈ of_whole (pos 2) *ʳ (t *ʳ e)) → (c *ʳ c -ʳ s *ʳ s -ʳ (e *ʳ e -ʳ t *ʳ t)) *ʳ (c *ʳ c -ʳ s *ʳ s -ʳ (e *ʳ e -ʳ t *ʳ t)) +ʳ (y -ʳ z) *ʳ (y -ʳ z) ≤ʳ of_whole (pos 5) *ʳ m
grows c s e t y z m h0 h1 h2 e0 e1 =
    cancel_r (of_whole (pos 8)) ((c *ʳ c -ʳ s *ʳ s -ʳ (e *ʳ e -ʳ t *ʳ t)) *ʳ (c *ʳ c -ʳ s *ʳ s -ʳ (e *ʳ e -ʳ t *ʳ t)) +ʳ (y -ʳ z) *ʳ (y -ʳ z)) (of_whole (pos 5) *ʳ m) (omega (arith, ints)) (order_r (c ∷ s ∷ e ∷ t ∷ y ∷ z ∷ m ∷ []) ((((((va 0) ⊖ (va 2)) ⊗ ((va 0) ⊖ (va 2))) ⊕ (((va 1) ⊖ (va 3)) ⊗ ((va 1) ⊖ (va 3)))) ≼ (va 6)) ∷ (((ko (pos 16)) ⊗ (((va 0) ⊗ (va 0)) ⊕ ((va 1) ⊗ (va 1)))) ≼ (ko (pos 17))) ∷ (((ko (pos 16)) ⊗ (((va 2) ⊗ (va 2)) ⊕ ((va 3) ⊗ (va 3)))) ≼ (ko (pos 17))) ∷ []) (((va 4) ≐ ((ko (pos 2)) ⊗ ((va 1) ⊗ (va 0)))) ∷ ((va 5) ≐ ((ko (pos 2)) ⊗ ((va 3) ⊗ (va 2)))) ∷ []) ((ko (pos 8)) ⊗ ((((((va 0) ⊗ (va 0)) ⊖ ((va 1) ⊗ (va 1))) ⊖ (((va 2) ⊗ (va 2)) ⊖ ((va 3) ⊗ (va 3)))) ⊗ ((((va 0) ⊗ (va 0)) ⊖ ((va 1) ⊗ (va 1))) ⊖ (((va 2) ⊗ (va 2)) ⊖ ((va 3) ⊗ (va 3))))) ⊕ (((va 4) ⊖ (va 5)) ⊗ ((va 4) ⊖ (va 5))))) ((ko (pos 8)) ⊗ ((ko (pos 5)) ⊗ (va 6))) (((nm 40) ⊠ (hy 0)) ⊞ (((sq ((va 0) ⊖ (va 2))) ⊞ (sq ((va 1) ⊖ (va 3)))) ⊠ ((((nm 6) ⊞ (hy 1)) ⊞ (hy 2)) ⊞ ((nm 8) ⊠ ((sq ((va 0) ⊖ (va 2))) ⊞ (sq ((va 1) ⊖ (va 3)))))))) (((ko (pos 0)) ⊖ ((ko (pos 8)) ⊗ ((((va 4) ⊖ (va 5)) ⊕ ((ko (pos 2)) ⊗ ((va 1) ⊗ (va 0)))) ⊖ ((ko (pos 2)) ⊗ ((va 3) ⊗ (va 2)))))) ∷ ((ko (pos 8)) ⊗ ((((va 4) ⊖ (va 5)) ⊕ ((ko (pos 2)) ⊗ ((va 1) ⊗ (va 0)))) ⊖ ((ko (pos 2)) ⊗ ((va 3) ⊗ (va 2))))) ∷ []) refl (h0, (h1, (h2, tt))) (e0, (e1, tt)))

-- by 16*h0 + 17 + e0*(256*(y + 2*(s*c)))
pub norm_back : (c s y : Rational) → (of_whole (pos 16) *ʳ ((c *ʳ c -ʳ s *ʳ s) *ʳ (c *ʳ c -ʳ s *ʳ s) +ʳ y *ʳ y) ≤ʳ of_whole (pos 17)) → (y ≈ of_whole (pos 2) *ʳ (s *ʳ c)) → of_whole (pos 16) *ʳ (c *ʳ c +ʳ s *ʳ s) *ʳ (of_whole (pos 16) *ʳ (c *ʳ c +ʳ s *ʳ s)) ≤ʳ of_whole (pos 17) *ʳ of_whole (pos 17)
norm_back c s y h0 e0 =
    order_r (c ∷ s ∷ y ∷ []) ((((ko (pos 16)) ⊗ (((((va 0) ⊗ (va 0)) ⊖ ((va 1) ⊗ (va 1))) ⊗ (((va 0) ⊗ (va 0)) ⊖ ((va 1) ⊗ (va 1)))) ⊕ ((va 2) ⊗ (va 2)))) ≼ (ko (pos 17))) ∷ []) (((va 2) ≐ ((ko (pos 2)) ⊗ ((va 1) ⊗ (va 0)))) ∷ []) (((ko (pos 16)) ⊗ (((va 0) ⊗ (va 0)) ⊕ ((va 1) ⊗ (va 1)))) ⊗ ((ko (pos 16)) ⊗ (((va 0) ⊗ (va 0)) ⊕ ((va 1) ⊗ (va 1))))) ((ko (pos 17)) ⊗ (ko (pos 17))) (((nm 16) ⊠ (hy 0)) ⊞ (nm 17)) (((ko (pos 256)) ⊗ ((va 2) ⊕ ((ko (pos 2)) ⊗ ((va 1) ⊗ (va 0))))) ∷ []) refl (h0, tt) (e0, tt)

-- by 16*h0 + h1
pub norm_first : (c s b : Rational) → (c *ʳ c +ʳ s *ʳ s -ʳ of_whole (pos 1) ≤ʳ b) → (of_whole (pos 16) *ʳ b ≤ʳ of_whole (pos 1)) → of_whole (pos 16) *ʳ (c *ʳ c +ʳ s *ʳ s) ≤ʳ of_whole (pos 17)
norm_first c s b h0 h1 =
    order_r (c ∷ s ∷ b ∷ []) ((((((va 0) ⊗ (va 0)) ⊕ ((va 1) ⊗ (va 1))) ⊖ (ko (pos 1))) ≼ (va 2)) ∷ (((ko (pos 16)) ⊗ (va 2)) ≼ (ko (pos 1))) ∷ []) ([]) ((ko (pos 16)) ⊗ (((va 0) ⊗ (va 0)) ⊕ ((va 1) ⊗ (va 1)))) (ko (pos 17)) (((nm 16) ⊠ (hy 0)) ⊞ (hy 1)) ([]) refl (h0, (h1, tt)) tt

-- by 17
pub norm_nn : (c s : Rational) → of_whole (pos 0) ≤ʳ of_whole (pos 17)
norm_nn c s =
    order_r (c ∷ s ∷ []) ([]) ([]) (ko (pos 0)) (ko (pos 17)) (nm 17) ([]) refl tt tt

-- by 0 + e0*(0 - 1)
pub gap_first : (c s x t : Rational) → (x *ʳ x ≈ t *ʳ t) → (c +ʳ t -ʳ c) *ʳ (c +ʳ t -ʳ c) +ʳ (s +ʳ x -ʳ s) *ʳ (s +ʳ x -ʳ s) ≤ʳ of_whole (pos 2) *ʳ (t *ʳ t)
gap_first c s x t e0 =
    order_r (c ∷ s ∷ x ∷ t ∷ []) ([]) ((((va 2) ⊗ (va 2)) ≐ ((va 3) ⊗ (va 3))) ∷ []) (((((va 0) ⊕ (va 3)) ⊖ (va 0)) ⊗ (((va 0) ⊕ (va 3)) ⊖ (va 0))) ⊕ ((((va 1) ⊕ (va 2)) ⊖ (va 1)) ⊗ (((va 1) ⊕ (va 2)) ⊖ (va 1)))) ((ko (pos 2)) ⊗ ((va 3) ⊗ (va 3))) (nm 0) (((ko (pos 0)) ⊖ (ko (pos 1))) ∷ []) refl tt (e0, tt)

-- by h0 + sq(C - E) + 150*sq(t)
pub gap_root : (C S E T t : Rational) → ((C -ʳ E) *ʳ (C -ʳ E) +ʳ (S -ʳ T) *ʳ (S -ʳ T) ≤ʳ of_whole (pos 5) *ʳ (of_whole (pos 5) *ʳ (of_whole (pos 5) *ʳ (of_whole (pos 5) *ʳ (of_whole (pos 5) *ʳ (of_whole (pos 2) *ʳ (t *ʳ t))))))) → (S -ʳ T) *ʳ (S -ʳ T) ≤ʳ of_whole (pos 80) *ʳ t *ʳ (of_whole (pos 80) *ʳ t)
gap_root C S E T t h0 =
    order_r (C ∷ S ∷ E ∷ T ∷ t ∷ []) ((((((va 0) ⊖ (va 2)) ⊗ ((va 0) ⊖ (va 2))) ⊕ (((va 1) ⊖ (va 3)) ⊗ ((va 1) ⊖ (va 3)))) ≼ ((ko (pos 5)) ⊗ ((ko (pos 5)) ⊗ ((ko (pos 5)) ⊗ ((ko (pos 5)) ⊗ ((ko (pos 5)) ⊗ ((ko (pos 2)) ⊗ ((va 4) ⊗ (va 4))))))))) ∷ []) ([]) (((va 1) ⊖ (va 3)) ⊗ ((va 1) ⊖ (va 3))) (((ko (pos 80)) ⊗ (va 4)) ⊗ ((ko (pos 80)) ⊗ (va 4))) (((hy 0) ⊞ (sq ((va 0) ⊖ (va 2)))) ⊞ ((nm 150) ⊠ (sq (va 4)))) ([]) refl (h0, tt) tt

-- by h0 + sq(C - E) + 150*sq(t)
pub gap_root_back : (C S E T t : Rational) → ((C -ʳ E) *ʳ (C -ʳ E) +ʳ (S -ʳ T) *ʳ (S -ʳ T) ≤ʳ of_whole (pos 5) *ʳ (of_whole (pos 5) *ʳ (of_whole (pos 5) *ʳ (of_whole (pos 5) *ʳ (of_whole (pos 5) *ʳ (of_whole (pos 2) *ʳ (t *ʳ t))))))) → (T -ʳ S) *ʳ (T -ʳ S) ≤ʳ of_whole (pos 80) *ʳ t *ʳ (of_whole (pos 80) *ʳ t)
gap_root_back C S E T t h0 =
    order_r (C ∷ S ∷ E ∷ T ∷ t ∷ []) ((((((va 0) ⊖ (va 2)) ⊗ ((va 0) ⊖ (va 2))) ⊕ (((va 1) ⊖ (va 3)) ⊗ ((va 1) ⊖ (va 3)))) ≼ ((ko (pos 5)) ⊗ ((ko (pos 5)) ⊗ ((ko (pos 5)) ⊗ ((ko (pos 5)) ⊗ ((ko (pos 5)) ⊗ ((ko (pos 2)) ⊗ ((va 4) ⊗ (va 4))))))))) ∷ []) ([]) (((va 3) ⊖ (va 1)) ⊗ ((va 3) ⊖ (va 1))) (((ko (pos 80)) ⊗ (va 4)) ⊗ ((ko (pos 80)) ⊗ (va 4))) (((hy 0) ⊞ (sq ((va 0) ⊖ (va 2)))) ⊞ ((nm 150) ⊠ (sq (va 4)))) ([]) refl (h0, tt) tt

-- by 8*h4 + h0*h3 + h1*h2 + 88*h5
pub angle_up : (A g S T t E : Rational) → (of_whole (pos 16) *ʳ g ≤ʳ of_whole (pos 1)) → (of_whole (pos 16) *ʳ neg_r (g) ≤ʳ of_whole (pos 1)) → (S -ʳ T ≤ʳ of_whole (pos 80) *ʳ t) → (T -ʳ S ≤ʳ of_whole (pos 80) *ʳ t) → (of_whole (pos 4) *ʳ (A +ʳ g *ʳ T -ʳ E) ≤ʳ t) → (of_whole (pos 0) ≤ʳ t) → A +ʳ g *ʳ S -ʳ E ≤ʳ of_whole (pos 8) *ʳ t
angle_up A g S T t E h0 h1 h2 h3 h4 h5 =
    cancel_r (of_whole (pos 32)) (A +ʳ g *ʳ S -ʳ E) (of_whole (pos 8) *ʳ t) (omega (arith, ints)) (order_r (A ∷ g ∷ S ∷ T ∷ t ∷ E ∷ []) ((((ko (pos 16)) ⊗ (va 1)) ≼ (ko (pos 1))) ∷ (((ko (pos 16)) ⊗ (ng (va 1))) ≼ (ko (pos 1))) ∷ (((va 2) ⊖ (va 3)) ≼ ((ko (pos 80)) ⊗ (va 4))) ∷ (((va 3) ⊖ (va 2)) ≼ ((ko (pos 80)) ⊗ (va 4))) ∷ (((ko (pos 4)) ⊗ (((va 0) ⊕ ((va 1) ⊗ (va 3))) ⊖ (va 5))) ≼ (va 4)) ∷ ((ko (pos 0)) ≼ (va 4)) ∷ []) ([]) ((ko (pos 32)) ⊗ (((va 0) ⊕ ((va 1) ⊗ (va 2))) ⊖ (va 5))) ((ko (pos 32)) ⊗ ((ko (pos 8)) ⊗ (va 4))) (((((nm 8) ⊠ (hy 4)) ⊞ ((hy 0) ⊠ (hy 3))) ⊞ ((hy 1) ⊠ (hy 2))) ⊞ ((nm 88) ⊠ (hy 5))) ([]) refl (h0, (h1, (h2, (h3, (h4, (h5, tt)))))) tt)

-- by 8*h4 + h0*h2 + h1*h3 + 88*h5
pub angle_down : (A g S T t E : Rational) → (of_whole (pos 16) *ʳ g ≤ʳ of_whole (pos 1)) → (of_whole (pos 16) *ʳ neg_r (g) ≤ʳ of_whole (pos 1)) → (S -ʳ T ≤ʳ of_whole (pos 80) *ʳ t) → (T -ʳ S ≤ʳ of_whole (pos 80) *ʳ t) → (of_whole (pos 4) *ʳ (E -ʳ (A +ʳ g *ʳ T)) ≤ʳ t) → (of_whole (pos 0) ≤ʳ t) → E -ʳ (A +ʳ g *ʳ S) ≤ʳ of_whole (pos 8) *ʳ t
angle_down A g S T t E h0 h1 h2 h3 h4 h5 =
    cancel_r (of_whole (pos 32)) (E -ʳ (A +ʳ g *ʳ S)) (of_whole (pos 8) *ʳ t) (omega (arith, ints)) (order_r (A ∷ g ∷ S ∷ T ∷ t ∷ E ∷ []) ((((ko (pos 16)) ⊗ (va 1)) ≼ (ko (pos 1))) ∷ (((ko (pos 16)) ⊗ (ng (va 1))) ≼ (ko (pos 1))) ∷ (((va 2) ⊖ (va 3)) ≼ ((ko (pos 80)) ⊗ (va 4))) ∷ (((va 3) ⊖ (va 2)) ≼ ((ko (pos 80)) ⊗ (va 4))) ∷ (((ko (pos 4)) ⊗ ((va 5) ⊖ ((va 0) ⊕ ((va 1) ⊗ (va 3))))) ≼ (va 4)) ∷ ((ko (pos 0)) ≼ (va 4)) ∷ []) ([]) ((ko (pos 32)) ⊗ ((va 5) ⊖ ((va 0) ⊕ ((va 1) ⊗ (va 2))))) ((ko (pos 32)) ⊗ ((ko (pos 8)) ⊗ (va 4))) (((((nm 8) ⊠ (hy 4)) ⊞ ((hy 0) ⊠ (hy 2))) ⊞ ((hy 1) ⊠ (hy 3))) ⊞ ((nm 88) ⊠ (hy 5))) ([]) refl (h0, (h1, (h2, (h3, (h4, (h5, tt)))))) tt)

-- by h0 + h1 + h2
pub angle_most : (E F t : Rational) → (F -ʳ E ≤ʳ of_whole (pos 8) *ʳ t) → (E ≤ʳ of_whole (pos 15)) → (of_whole (pos 8) *ʳ t ≤ʳ of_whole (pos 1)) → F ≤ʳ of_whole (pos 16)
angle_most E F t h0 h1 h2 =
    order_r (E ∷ F ∷ t ∷ []) ((((va 1) ⊖ (va 0)) ≼ ((ko (pos 8)) ⊗ (va 2))) ∷ ((va 0) ≼ (ko (pos 15))) ∷ (((ko (pos 8)) ⊗ (va 2)) ≼ (ko (pos 1))) ∷ []) ([]) (va 1) (ko (pos 16)) (((hy 0) ⊞ (hy 1)) ⊞ (hy 2)) ([]) refl (h0, (h1, (h2, tt))) tt

-- by h0 + h1 + h2
pub angle_least : (E F t : Rational) → (E -ʳ F ≤ʳ of_whole (pos 8) *ʳ t) → (neg_r (E) ≤ʳ of_whole (pos 15)) → (of_whole (pos 8) *ʳ t ≤ʳ of_whole (pos 1)) → neg_r (F) ≤ʳ of_whole (pos 16)
angle_least E F t h0 h1 h2 =
    order_r (E ∷ F ∷ t ∷ []) ((((va 0) ⊖ (va 1)) ≼ ((ko (pos 8)) ⊗ (va 2))) ∷ ((ng (va 0)) ≼ (ko (pos 15))) ∷ (((ko (pos 8)) ⊗ (va 2)) ≼ (ko (pos 1))) ∷ []) ([]) (ng (va 1)) (ko (pos 16)) (((hy 0) ⊞ (hy 1)) ⊞ (hy 2)) ([]) refl (h0, (h1, (h2, tt))) tt

-- by h0 + h1
pub cos_low : (w z t : Rational) → (of_whole (pos 2) *ʳ (w -ʳ z) ≤ʳ t) → (of_whole (pos 0) ≤ʳ t) → w ≤ʳ z +ʳ t
cos_low w z t h0 h1 =
    cancel_r (of_whole (pos 2)) w (z +ʳ t) (omega (arith, ints)) (order_r (w ∷ z ∷ t ∷ []) ((((ko (pos 2)) ⊗ ((va 0) ⊖ (va 1))) ≼ (va 2)) ∷ ((ko (pos 0)) ≼ (va 2)) ∷ []) ([]) ((ko (pos 2)) ⊗ (va 0)) ((ko (pos 2)) ⊗ ((va 1) ⊕ (va 2))) ((hy 0) ⊞ (hy 1)) ([]) refl (h0, (h1, tt)) tt)

-- by h0 + h1 + 2*h2
pub cos_high : (w z t x : Rational) → (of_whole (pos 2) *ʳ (z -ʳ w) ≤ʳ t) → (of_whole (pos 0) ≤ʳ t) → (of_whole (pos 2) *ʳ t ≤ʳ x) → z +ʳ t ≤ʳ w +ʳ x
cos_high w z t x h0 h1 h2 =
    cancel_r (of_whole (pos 2)) (z +ʳ t) (w +ʳ x) (omega (arith, ints)) (order_r (w ∷ z ∷ t ∷ x ∷ []) ((((ko (pos 2)) ⊗ ((va 1) ⊖ (va 0))) ≼ (va 2)) ∷ ((ko (pos 0)) ≼ (va 2)) ∷ (((ko (pos 2)) ⊗ (va 2)) ≼ (va 3)) ∷ []) ([]) ((ko (pos 2)) ⊗ ((va 1) ⊕ (va 2))) ((ko (pos 2)) ⊗ ((va 0) ⊕ (va 3))) (((hy 0) ⊞ (hy 1)) ⊞ ((nm 2) ⊠ (hy 2))) ([]) refl (h0, (h1, (h2, tt))) tt)

-- by h0 + h1
pub sin_low : (v p z t : Rational) → (of_whole (pos 2) *ʳ (v *ʳ p -ʳ z) ≤ʳ t) → (of_whole (pos 0) ≤ʳ t) → v *ʳ p ≤ʳ z +ʳ t
sin_low v p z t h0 h1 =
    cancel_r (of_whole (pos 2)) (v *ʳ p) (z +ʳ t) (omega (arith, ints)) (order_r (v ∷ p ∷ z ∷ t ∷ []) ((((ko (pos 2)) ⊗ (((va 0) ⊗ (va 1)) ⊖ (va 2))) ≼ (va 3)) ∷ ((ko (pos 0)) ≼ (va 3)) ∷ []) ([]) ((ko (pos 2)) ⊗ ((va 0) ⊗ (va 1))) ((ko (pos 2)) ⊗ ((va 2) ⊕ (va 3))) ((hy 0) ⊞ (hy 1)) ([]) refl (h0, (h1, tt)) tt)

-- by h0 + h1 + 2*h2
pub sin_high : (v p z t x : Rational) → (of_whole (pos 2) *ʳ (z -ʳ v *ʳ p) ≤ʳ t) → (of_whole (pos 0) ≤ʳ t) → (of_whole (pos 2) *ʳ t ≤ʳ v *ʳ x) → z +ʳ t ≤ʳ v *ʳ (p +ʳ x)
sin_high v p z t x h0 h1 h2 =
    cancel_r (of_whole (pos 2)) (z +ʳ t) (v *ʳ (p +ʳ x)) (omega (arith, ints)) (order_r (v ∷ p ∷ z ∷ t ∷ x ∷ []) ((((ko (pos 2)) ⊗ ((va 2) ⊖ ((va 0) ⊗ (va 1)))) ≼ (va 3)) ∷ ((ko (pos 0)) ≼ (va 3)) ∷ (((ko (pos 2)) ⊗ (va 3)) ≼ ((va 0) ⊗ (va 4))) ∷ []) ([]) ((ko (pos 2)) ⊗ ((va 2) ⊕ (va 3))) ((ko (pos 2)) ⊗ ((va 0) ⊗ ((va 1) ⊕ (va 4)))) (((hy 0) ⊞ (hy 1)) ⊞ ((nm 2) ⊠ (hy 2))) ([]) refl (h0, (h1, (h2, tt))) tt)

-- by h0 + h1
pub sin_high_neg : (v p z t : Rational) → (of_whole (pos 2) *ʳ (z -ʳ v *ʳ p) ≤ʳ t) → (of_whole (pos 0) ≤ʳ t) → z +ʳ neg_r (t) ≤ʳ v *ʳ p
sin_high_neg v p z t h0 h1 =
    cancel_r (of_whole (pos 2)) (z +ʳ neg_r (t)) (v *ʳ p) (omega (arith, ints)) (order_r (v ∷ p ∷ z ∷ t ∷ []) ((((ko (pos 2)) ⊗ ((va 2) ⊖ ((va 0) ⊗ (va 1)))) ≼ (va 3)) ∷ ((ko (pos 0)) ≼ (va 3)) ∷ []) ([]) ((ko (pos 2)) ⊗ ((va 2) ⊕ (ng (va 3)))) ((ko (pos 2)) ⊗ ((va 0) ⊗ (va 1))) ((hy 0) ⊞ (hy 1)) ([]) refl (h0, (h1, tt)) tt)

-- by h0 + h1 + 2*h2
pub sin_low_neg : (v p z t x : Rational) → (of_whole (pos 2) *ʳ (v *ʳ p -ʳ z) ≤ʳ t) → (of_whole (pos 0) ≤ʳ t) → (of_whole (pos 2) *ʳ t ≤ʳ neg_r (v) *ʳ x) → v *ʳ (p +ʳ x) ≤ʳ z +ʳ neg_r (t)
sin_low_neg v p z t x h0 h1 h2 =
    cancel_r (of_whole (pos 2)) (v *ʳ (p +ʳ x)) (z +ʳ neg_r (t)) (omega (arith, ints)) (order_r (v ∷ p ∷ z ∷ t ∷ x ∷ []) ((((ko (pos 2)) ⊗ (((va 0) ⊗ (va 1)) ⊖ (va 2))) ≼ (va 3)) ∷ ((ko (pos 0)) ≼ (va 3)) ∷ (((ko (pos 2)) ⊗ (va 3)) ≼ ((ng (va 0)) ⊗ (va 4))) ∷ []) ([]) ((ko (pos 2)) ⊗ ((va 0) ⊗ ((va 1) ⊕ (va 4)))) ((ko (pos 2)) ⊗ ((va 2) ⊕ (ng (va 3)))) (((hy 0) ⊞ (hy 1)) ⊞ ((nm 2) ⊠ (hy 2))) ([]) refl (h0, (h1, (h2, tt))) tt)

-- by sq(q)*h3 + h1*(h1 + 2*h0)*h2
pub power_step : (r q X Y : Rational) → (of_whole (pos 0) ≤ʳ r) → (r ≤ʳ q) → (of_whole (pos 0) ≤ʳ X) → (X ≤ʳ Y) → r *ʳ (r *ʳ X) ≤ʳ neg_r (q) *ʳ (neg_r (q) *ʳ Y)
power_step r q X Y h0 h1 h2 h3 =
    order_r (r ∷ q ∷ X ∷ Y ∷ []) (((ko (pos 0)) ≼ (va 0)) ∷ ((va 0) ≼ (va 1)) ∷ ((ko (pos 0)) ≼ (va 2)) ∷ ((va 2) ≼ (va 3)) ∷ []) ([]) ((va 0) ⊗ ((va 0) ⊗ (va 2))) ((ng (va 1)) ⊗ ((ng (va 1)) ⊗ (va 3))) (((sq (va 1)) ⊠ (hy 3)) ⊞ (((hy 1) ⊠ ((hy 1) ⊞ ((nm 2) ⊠ (hy 0)))) ⊠ (hy 2))) ([]) refl (h0, (h1, (h2, (h3, tt)))) tt

-- by h0*(h0*h1)
pub power_nn : (r X : Rational) → (of_whole (pos 0) ≤ʳ r) → (of_whole (pos 0) ≤ʳ X) → of_whole (pos 0) ≤ʳ r *ʳ (r *ʳ X)
power_nn r X h0 h1 =
    order_r (r ∷ X ∷ []) (((ko (pos 0)) ≼ (va 0)) ∷ ((ko (pos 0)) ≼ (va 1)) ∷ []) ([]) (ko (pos 0)) ((va 0) ⊗ ((va 0) ⊗ (va 1))) ((hy 0) ⊠ ((hy 0) ⊠ (hy 1))) ([]) refl (h0, (h1, tt)) tt

-- by h1*(h1 + 2*h0)
pub square_up : (u v : Rational) → (of_whole (pos 0) ≤ʳ u) → (u ≤ʳ v) → u *ʳ u ≤ʳ v *ʳ v
square_up u v h0 h1 =
    order_r (u ∷ v ∷ []) (((ko (pos 0)) ≼ (va 0)) ∷ ((va 0) ≼ (va 1)) ∷ []) ([]) ((va 0) ⊗ (va 0)) ((va 1) ⊗ (va 1)) ((hy 1) ⊠ ((hy 1) ⊞ ((nm 2) ⊠ (hy 0)))) ([]) refl (h0, (h1, tt)) tt

-- by h1*(h1 + 2*h0)
pub square_down : (u v : Rational) → (of_whole (pos 0) ≤ʳ u) → (u ≤ʳ neg_r (v)) → u *ʳ u ≤ʳ v *ʳ v
square_down u v h0 h1 =
    order_r (u ∷ v ∷ []) (((ko (pos 0)) ≼ (va 0)) ∷ ((va 0) ≼ (ng (va 1))) ∷ []) ([]) ((va 0) ⊗ (va 0)) ((va 1) ⊗ (va 1)) ((hy 1) ⊠ ((hy 1) ⊞ ((nm 2) ⊠ (hy 0)))) ([]) refl (h0, (h1, tt)) tt

-- by h1*h3 + h1*h2 + h0*h3
pub product_up : (u v y x : Rational) → (of_whole (pos 0) ≤ʳ u) → (u ≤ʳ v) → (of_whole (pos 0) ≤ʳ y) → (y ≤ʳ x) → u *ʳ y ≤ʳ v *ʳ x
product_up u v y x h0 h1 h2 h3 =
    order_r (u ∷ v ∷ y ∷ x ∷ []) (((ko (pos 0)) ≼ (va 0)) ∷ ((va 0) ≼ (va 1)) ∷ ((ko (pos 0)) ≼ (va 2)) ∷ ((va 2) ≼ (va 3)) ∷ []) ([]) ((va 0) ⊗ (va 2)) ((va 1) ⊗ (va 3)) ((((hy 1) ⊠ (hy 3)) ⊞ ((hy 1) ⊠ (hy 2))) ⊞ ((hy 0) ⊠ (hy 3))) ([]) refl (h0, (h1, (h2, (h3, tt)))) tt

-- by h0 + 4*h1
pub far : (E A a : Rational) → (of_whole (pos 4) *ʳ (A -ʳ E) ≤ʳ a) → (a ≤ʳ A) → of_whole (pos 3) *ʳ a ≤ʳ of_whole (pos 4) *ʳ E
far E A a h0 h1 =
    order_r (E ∷ A ∷ a ∷ []) ((((ko (pos 4)) ⊗ ((va 1) ⊖ (va 0))) ≼ (va 2)) ∷ ((va 2) ≼ (va 1)) ∷ []) ([]) ((ko (pos 3)) ⊗ (va 2)) ((ko (pos 4)) ⊗ (va 0)) ((hy 0) ⊞ ((nm 4) ⊠ (hy 1))) ([]) refl (h0, (h1, tt)) tt

-- by h0 + 4*h1
pub far_neg : (E A a : Rational) → (of_whole (pos 4) *ʳ (E -ʳ A) ≤ʳ a) → (a ≤ʳ neg_r (A)) → of_whole (pos 3) *ʳ a ≤ʳ of_whole (pos 4) *ʳ neg_r (E)
far_neg E A a h0 h1 =
    order_r (E ∷ A ∷ a ∷ []) ((((ko (pos 4)) ⊗ ((va 0) ⊖ (va 1))) ≼ (va 2)) ∷ ((va 2) ≼ (ng (va 1))) ∷ []) ([]) ((ko (pos 3)) ⊗ (va 2)) ((ko (pos 4)) ⊗ (ng (va 0))) ((hy 0) ⊞ ((nm 4) ⊠ (hy 1))) ([]) refl (h0, (h1, tt)) tt

-- by 8*h1 + h0 + e0*(0 - 1) + e1*1
pub parts : (E F p q t d : Rational) → (E -ʳ F ≤ʳ of_whole (pos 8) *ʳ t) → (t ≤ʳ of_whole (pos 4) *ʳ d) → (of_whole (pos 32) *ʳ p ≈ E) → (of_whole (pos 32) *ʳ q ≈ F) → p -ʳ q ≤ʳ d
parts E F p q t d h0 h1 e0 e1 =
    cancel_r (of_whole (pos 32)) (p -ʳ q) d (omega (arith, ints)) (order_r (E ∷ F ∷ p ∷ q ∷ t ∷ d ∷ []) ((((va 0) ⊖ (va 1)) ≼ ((ko (pos 8)) ⊗ (va 4))) ∷ ((va 4) ≼ ((ko (pos 4)) ⊗ (va 5))) ∷ []) ((((ko (pos 32)) ⊗ (va 2)) ≐ (va 0)) ∷ (((ko (pos 32)) ⊗ (va 3)) ≐ (va 1)) ∷ []) ((ko (pos 32)) ⊗ ((va 2) ⊖ (va 3))) ((ko (pos 32)) ⊗ (va 5)) (((nm 8) ⊠ (hy 1)) ⊞ (hy 0)) (((ko (pos 0)) ⊖ (ko (pos 1))) ∷ (ko (pos 1)) ∷ []) refl (h0, (h1, tt)) (e0, (e1, tt)))

-- by 2*h0 + h1
pub quarter : (x d t : Rational) → (x ≤ʳ of_whole (pos 2) *ʳ d) → (of_whole (pos 4) *ʳ d ≤ʳ t) → of_whole (pos 2) *ʳ x ≤ʳ t
quarter x d t h0 h1 =
    order_r (x ∷ d ∷ t ∷ []) (((va 0) ≼ ((ko (pos 2)) ⊗ (va 1))) ∷ (((ko (pos 4)) ⊗ (va 1)) ≼ (va 2)) ∷ []) ([]) ((ko (pos 2)) ⊗ (va 0)) (va 2) (((nm 2) ⊠ (hy 0)) ⊞ (hy 1)) ([]) refl (h0, (h1, tt)) tt

-- by 4*h0 + h1
pub fourfold : (x y t : Rational) → (x ≤ʳ y) → (of_whole (pos 4) *ʳ y ≤ʳ t) → of_whole (pos 4) *ʳ x ≤ʳ t
fourfold x y t h0 h1 =
    order_r (x ∷ y ∷ t ∷ []) (((va 0) ≼ (va 1)) ∷ (((ko (pos 4)) ⊗ (va 1)) ≼ (va 2)) ∷ []) ([]) ((ko (pos 4)) ⊗ (va 0)) (va 2) (((nm 4) ⊠ (hy 0)) ⊞ (hy 1)) ([]) refl (h0, (h1, tt)) tt

-- by h0
pub itself : (z t : Rational) → (of_whole (pos 0) ≤ʳ t) → of_whole (pos 2) *ʳ (z -ʳ z) ≤ʳ t
itself z t h0 =
    order_r (z ∷ t ∷ []) (((ko (pos 0)) ≼ (va 1)) ∷ []) ([]) ((ko (pos 2)) ⊗ ((va 0) ⊖ (va 0))) (va 1) (hy 0) ([]) refl (h0, tt) tt

-- by 8*h0
pub stays : (z t : Rational) → (of_whole (pos 0) ≤ʳ t) → z -ʳ z ≤ʳ of_whole (pos 8) *ʳ t
stays z t h0 =
    order_r (z ∷ t ∷ []) (((ko (pos 0)) ≼ (va 1)) ∷ []) ([]) ((va 0) ⊖ (va 0)) ((ko (pos 8)) ⊗ (va 1)) ((nm 8) ⊠ (hy 0)) ([]) refl (h0, tt) tt

-- by 64*h0 + h1 + 4 + e0*(0 - 1)
pub eight_t : (t u a : Rational) → (of_whole (pos 2) *ʳ t ≤ʳ u) → (a ≤ʳ of_whole (pos 12)) → (of_whole (pos 64) *ʳ u ≈ a) → of_whole (pos 8) *ʳ t ≤ʳ of_whole (pos 1)
eight_t t u a h0 h1 e0 =
    cancel_r (of_whole (pos 16)) (of_whole (pos 8) *ʳ t) (of_whole (pos 1)) (omega (arith, ints)) (order_r (t ∷ u ∷ a ∷ []) ((((ko (pos 2)) ⊗ (va 0)) ≼ (va 1)) ∷ ((va 2) ≼ (ko (pos 12))) ∷ []) ((((ko (pos 64)) ⊗ (va 1)) ≐ (va 2)) ∷ []) ((ko (pos 16)) ⊗ ((ko (pos 8)) ⊗ (va 0))) ((ko (pos 16)) ⊗ (ko (pos 1))) ((((nm 64) ⊠ (hy 0)) ⊞ (hy 1)) ⊞ (nm 4)) (((ko (pos 0)) ⊖ (ko (pos 1))) ∷ []) refl (h0, (h1, tt)) (e0, tt))

-- by h0 + 4*h1 + 16*h2 + 48*h3 + e0*4 + e1*(0 - 3)
pub far_new : (E F a p u t : Rational) → (of_whole (pos 3) *ʳ a ≤ʳ of_whole (pos 4) *ʳ E) → (E -ʳ F ≤ʳ of_whole (pos 8) *ʳ t) → (of_whole (pos 2) *ʳ t ≤ʳ u) → (of_whole (pos 0) ≤ʳ u) → (of_whole (pos 32) *ʳ p ≈ F) → (of_whole (pos 64) *ʳ u ≈ a) → u ≤ʳ p
far_new E F a p u t h0 h1 h2 h3 e0 e1 =
    cancel_r (of_whole (pos 128)) u p (omega (arith, ints)) (order_r (E ∷ F ∷ a ∷ p ∷ u ∷ t ∷ []) ((((ko (pos 3)) ⊗ (va 2)) ≼ ((ko (pos 4)) ⊗ (va 0))) ∷ (((va 0) ⊖ (va 1)) ≼ ((ko (pos 8)) ⊗ (va 5))) ∷ (((ko (pos 2)) ⊗ (va 5)) ≼ (va 4)) ∷ ((ko (pos 0)) ≼ (va 4)) ∷ []) ((((ko (pos 32)) ⊗ (va 3)) ≐ (va 1)) ∷ (((ko (pos 64)) ⊗ (va 4)) ≐ (va 2)) ∷ []) ((ko (pos 128)) ⊗ (va 4)) ((ko (pos 128)) ⊗ (va 3)) ((((hy 0) ⊞ ((nm 4) ⊠ (hy 1))) ⊞ ((nm 16) ⊠ (hy 2))) ⊞ ((nm 48) ⊠ (hy 3))) ((ko (pos 4)) ∷ ((ko (pos 0)) ⊖ (ko (pos 3))) ∷ []) refl (h0, (h1, (h2, (h3, tt)))) (e0, (e1, tt)))

-- by h0 + 4*h1 + 16*h2 + 48*h3 + e0*(0 - 4) + e1*(0 - 3)
pub far_new_neg : (E F a p u t : Rational) → (of_whole (pos 3) *ʳ a ≤ʳ of_whole (pos 4) *ʳ neg_r (E)) → (F -ʳ E ≤ʳ of_whole (pos 8) *ʳ t) → (of_whole (pos 2) *ʳ t ≤ʳ u) → (of_whole (pos 0) ≤ʳ u) → (of_whole (pos 32) *ʳ p ≈ F) → (of_whole (pos 64) *ʳ u ≈ a) → u ≤ʳ neg_r (p)
far_new_neg E F a p u t h0 h1 h2 h3 e0 e1 =
    cancel_r (of_whole (pos 128)) u (neg_r (p)) (omega (arith, ints)) (order_r (E ∷ F ∷ a ∷ p ∷ u ∷ t ∷ []) ((((ko (pos 3)) ⊗ (va 2)) ≼ ((ko (pos 4)) ⊗ (ng (va 0)))) ∷ (((va 1) ⊖ (va 0)) ≼ ((ko (pos 8)) ⊗ (va 5))) ∷ (((ko (pos 2)) ⊗ (va 5)) ≼ (va 4)) ∷ ((ko (pos 0)) ≼ (va 4)) ∷ []) ((((ko (pos 32)) ⊗ (va 3)) ≐ (va 1)) ∷ (((ko (pos 64)) ⊗ (va 4)) ≐ (va 2)) ∷ []) ((ko (pos 128)) ⊗ (va 4)) ((ko (pos 128)) ⊗ (ng (va 3))) ((((hy 0) ⊞ ((nm 4) ⊠ (hy 1))) ⊞ ((nm 16) ⊠ (hy 2))) ⊞ ((nm 48) ⊠ (hy 3))) (((ko (pos 0)) ⊖ (ko (pos 4))) ∷ ((ko (pos 0)) ⊖ (ko (pos 3))) ∷ []) refl (h0, (h1, (h2, (h3, tt)))) (e0, (e1, tt)))

-- by 80*h0
pub is_nn : (x : Rational) → (of_whole (pos 0) ≤ʳ x) → of_whole (pos 0) ≤ʳ of_whole (pos 80) *ʳ x
is_nn x h0 =
    order_r (x ∷ []) (((ko (pos 0)) ≼ (va 0)) ∷ []) ([]) (ko (pos 0)) ((ko (pos 80)) ⊗ (va 0)) ((nm 80) ⊠ (hy 0)) ([]) refl (h0, tt) tt
