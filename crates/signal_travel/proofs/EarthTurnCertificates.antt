-- Inequalities of the Earth's turn in a box of times, each by a certificate.
-- The terms are made: tools/inequality_certificate.py writes a lemma from its claim and the products of its hypotheses,
-- h0, h1, .. in the order in which they stand: they are over each lemma, after `by`. Who changes a claim writes its term anew there;
-- the check proves what is written.
use Rattle.std.proofs.Common.{[], ◌∷◌, ℤ, pos, ◌+ℤ◌, ◌-ℤ◌, ◌*ℤ◌, neg_ℤ, ◌≤ℤ◌, ◌<ℤ◌, arith, refl}
use Rattle.std.proofs.lemmas.Int.{ints}
use Rattle.whole_math.proofs.Ring.{va, ko, ◌⊕◌, ◌⊖◌, ◌⊗◌, ng}
use Rattle.whole_math.proofs.Certificates.{cert, cancel, weak, ◌≼◌, hy, nm, ◌⊞◌, ◌⊠◌}
use Rattle.whole_math.specs.Rational.{Rational, ◌≤ʳ◌, ◌+ʳ◌, ◌-ʳ◌}
use Rattle.orbit_model.proofs.Orders.{cert_r}

-- the angle of a time of the box against that of its middle, rounded
-- by 43045050197502682430559699861504*h0 + 43045050197502682430559699861504*h5*h1 + 590295810358705651712*h5*h2
--    + 72057594037927936000000000000000*h5*h3 + 29012543840425253569440300138496*h5*h4
pub angle_up : (t u h m r a p : ℤ) → (t *ℤ (pos 1152921504606846976)) ≤ℤ (h *ℤ u) → (h -ℤ m) ≤ℤ r
    → ((pos 72921151467) *ℤ m) ≤ℤ ((a *ℤ (pos 16000000000000000)) +ℤ (pos 16000000000000000)) → (r +ℤ (pos 135168)) ≤ℤ ((pos 4096) *ℤ p) → (pos 0) ≤ℤ r
    → (pos 0) ≤ℤ u → (((((pos 72921151467) *ℤ t) *ℤ (pos 72057594037927936)) -ℤ (a *ℤ ((pos 1000000000000000) *ℤ u))) *ℤ (pos 2305843009213693952))
    ≤ℤ ((p -ℤ (pos 1)) *ℤ (((pos 1000000000000000) *ℤ u) *ℤ (pos 72057594037927936)))
angle_up t u h m r a p h0 h1 h2 h3 h4 h5 =
    cancel (pos 4096) (((((pos 72921151467) *ℤ t) *ℤ (pos 72057594037927936)) -ℤ (a *ℤ ((pos 1000000000000000) *ℤ u))) *ℤ (pos 2305843009213693952))
    ((p -ℤ (pos 1)) *ℤ (((pos 1000000000000000) *ℤ u) *ℤ (pos 72057594037927936))) (omega (arith, ints))
    (cert (t ∷ u ∷ h ∷ m ∷ r ∷ a ∷ p ∷ []) ((((va 0) ⊗ (ko (pos 1152921504606846976))) ≼ ((va 2) ⊗ (va 1))) ∷ (((va 2) ⊖ (va 3)) ≼ (va 4))
    ∷ (((ko (pos 72921151467)) ⊗ (va 3)) ≼ (((va 5) ⊗ (ko (pos 16000000000000000))) ⊕ (ko (pos 16000000000000000))))
    ∷ (((va 4) ⊕ (ko (pos 135168))) ≼ ((ko (pos 4096)) ⊗ (va 6))) ∷ ((ko (pos 0)) ≼ (va 4)) ∷ ((ko (pos 0)) ≼ (va 1)) ∷ [])
    ((ko (pos 4096)) ⊗ (((((ko (pos 72921151467)) ⊗ (va 0)) ⊗ (ko (pos 72057594037927936))) ⊖ ((va 5) ⊗ ((ko (pos 1000000000000000)) ⊗ (va 1))))
    ⊗ (ko (pos 2305843009213693952))))
    ((ko (pos 4096)) ⊗ (((va 6) ⊖ (ko (pos 1))) ⊗ (((ko (pos 1000000000000000)) ⊗ (va 1)) ⊗ (ko (pos 72057594037927936)))))
    ((((((nm 43045050197502682430559699861504) ⊠ (hy 0)) ⊞ (((nm 43045050197502682430559699861504) ⊠ (hy 5)) ⊠ (hy 1)))
    ⊞ (((nm 590295810358705651712) ⊠ (hy 5)) ⊠ (hy 2))) ⊞ (((nm 72057594037927936000000000000000) ⊠ (hy 5)) ⊠ (hy 3)))
    ⊞ (((nm 29012543840425253569440300138496) ⊠ (hy 5)) ⊠ (hy 4))) refl (h0, (h1, (h2, (h3, (h4, (h5, tt)))))))

-- by 43045050197502682430559699861504*h0 + 43045050197502682430559699861504*h5*h1 + 590295810358705651712*h5*h2
--    + 72057594037927936000000000000000*h5*h3 + 29012543840425253569440300138496*h5*h4 + 9444732965739290427392000000000000000*h5
pub angle_down : (t u l m r a p : ℤ) → (l *ℤ u) ≤ℤ (t *ℤ (pos 1152921504606846976)) → (m -ℤ l) ≤ℤ r
    → (a *ℤ (pos 16000000000000000)) ≤ℤ ((pos 72921151467) *ℤ m) → (r +ℤ (pos 135168)) ≤ℤ ((pos 4096) *ℤ p) → (pos 0) ≤ℤ r → (pos 0) ≤ℤ u
    → (((a *ℤ ((pos 1000000000000000) *ℤ u)) -ℤ (((pos 72921151467) *ℤ t) *ℤ (pos 72057594037927936))) *ℤ (pos 2305843009213693952))
    ≤ℤ ((p -ℤ (pos 1)) *ℤ ((pos 72057594037927936) *ℤ ((pos 1000000000000000) *ℤ u)))
angle_down t u l m r a p h0 h1 h2 h3 h4 h5 =
    cancel (pos 4096) (((a *ℤ ((pos 1000000000000000) *ℤ u)) -ℤ (((pos 72921151467) *ℤ t) *ℤ (pos 72057594037927936))) *ℤ (pos 2305843009213693952))
    ((p -ℤ (pos 1)) *ℤ ((pos 72057594037927936) *ℤ ((pos 1000000000000000) *ℤ u))) (omega (arith, ints))
    (cert (t ∷ u ∷ l ∷ m ∷ r ∷ a ∷ p ∷ []) ((((va 2) ⊗ (va 1)) ≼ ((va 0) ⊗ (ko (pos 1152921504606846976)))) ∷ (((va 3) ⊖ (va 2)) ≼ (va 4))
    ∷ (((va 5) ⊗ (ko (pos 16000000000000000))) ≼ ((ko (pos 72921151467)) ⊗ (va 3))) ∷ (((va 4) ⊕ (ko (pos 135168))) ≼ ((ko (pos 4096)) ⊗ (va 6)))
    ∷ ((ko (pos 0)) ≼ (va 4)) ∷ ((ko (pos 0)) ≼ (va 1)) ∷ []) ((ko (pos 4096)) ⊗ ((((va 5) ⊗ ((ko (pos 1000000000000000)) ⊗ (va 1)))
    ⊖ (((ko (pos 72921151467)) ⊗ (va 0)) ⊗ (ko (pos 72057594037927936)))) ⊗ (ko (pos 2305843009213693952))))
    ((ko (pos 4096)) ⊗ (((va 6) ⊖ (ko (pos 1))) ⊗ ((ko (pos 72057594037927936)) ⊗ ((ko (pos 1000000000000000)) ⊗ (va 1)))))
    (((((((nm 43045050197502682430559699861504) ⊠ (hy 0)) ⊞ (((nm 43045050197502682430559699861504) ⊠ (hy 5)) ⊠ (hy 1))) ⊞ (((nm 590295810358705651712)
    ⊠ (hy 5)) ⊠ (hy 2))) ⊞ (((nm 72057594037927936000000000000000) ⊠ (hy 5)) ⊠ (hy 3))) ⊞ (((nm 29012543840425253569440300138496) ⊠ (hy 5)) ⊠ (hy 4)))
    ⊞ ((nm 9444732965739290427392000000000000000) ⊠ (hy 5))) refl (h0, (h1, (h2, (h3, (h4, (h5, tt)))))))

-- by h0 + h1 + h2
pub pad_low : (c s d l p : Rational) → l ≤ʳ s → s -ʳ c ≤ʳ d → d ≤ʳ p → l -ʳ p ≤ʳ c
pad_low c s d l p h0 h1 h2 =
    cert_r (c ∷ s ∷ d ∷ l ∷ p ∷ []) (((va 3) ≼ (va 1)) ∷ (((va 1) ⊖ (va 0)) ≼ (va 2)) ∷ ((va 2) ≼ (va 4)) ∷ []) ((va 3) ⊖ (va 4)) (va 0) (((hy 0) ⊞ (hy 1)) ⊞ (hy 2)) refl (h0, (h1, (h2, tt)))

-- by h0 + h1 + h2
pub pad_high : (c s d h p : Rational) → s ≤ʳ h → c -ʳ s ≤ʳ d → d ≤ʳ p → c ≤ʳ h +ʳ p
pad_high c s d h p h0 h1 h2 =
    cert_r (c ∷ s ∷ d ∷ h ∷ p ∷ []) (((va 1) ≼ (va 3)) ∷ (((va 0) ⊖ (va 1)) ≼ (va 2)) ∷ ((va 2) ≼ (va 4)) ∷ []) (va 0) ((va 3) ⊕ (va 4)) (((hy 0) ⊞ (hy 1)) ⊞ (hy 2)) refl (h0, (h1, (h2, tt)))

-- by h0
pub zero_right : (n d e p q : ℤ) → (((n *ℤ e) -ℤ ((pos 0) *ℤ d)) *ℤ q) ≤ℤ (p *ℤ (d *ℤ e)) → (pos 0) <ℤ e → (n *ℤ q) ≤ℤ (p *ℤ d)
zero_right n d e p q h0 h1 =
    cancel e (n *ℤ q) (p *ℤ d) h1 (cert (n ∷ d ∷ e ∷ p ∷ q ∷ []) ((((((va 0) ⊗ (va 2)) ⊖ ((ko (pos 0)) ⊗ (va 1))) ⊗ (va 4)) ≼ ((va 3) ⊗ ((va 1) ⊗ (va 2))))
    ∷ ((ko (pos 0)) ≼ (va 2)) ∷ []) ((va 2) ⊗ ((va 0) ⊗ (va 4))) ((va 2) ⊗ ((va 3) ⊗ (va 1))) (hy 0) refl (h0, (weak (pos 0) e h1, tt)))

-- by h0
pub zero_left : (n d e p q : ℤ) → ((((pos 0) *ℤ d) -ℤ (n *ℤ e)) *ℤ q) ≤ℤ (p *ℤ (e *ℤ d)) → (pos 0) <ℤ e → ((neg_ℤ (n)) *ℤ q) ≤ℤ (p *ℤ d)
zero_left n d e p q h0 h1 =
    cancel e ((neg_ℤ (n)) *ℤ q) (p *ℤ d) h1
    (cert (n ∷ d ∷ e ∷ p ∷ q ∷ []) ((((((ko (pos 0)) ⊗ (va 1)) ⊖ ((va 0) ⊗ (va 2))) ⊗ (va 4)) ≼ ((va 3) ⊗ ((va 2) ⊗ (va 1))))
    ∷ ((ko (pos 0)) ≼ (va 2)) ∷ []) ((va 2) ⊗ ((ng (va 0)) ⊗ (va 4))) ((va 2) ⊗ ((va 3) ⊗ (va 1))) (hy 0) refl (h0, (weak (pos 0) e h1, tt)))
