-- Inequalities of the steps, each by a certificate.
-- The terms are made: tools/inequality_certificate.py writes a lemma from its claim and the products of its hypotheses,
-- h0, h1, .. in the order in which they stand: they are over each lemma, after `by`. Who changes a claim writes its term anew there;
-- the check proves what is written.
use Rattle.std.proofs.Common.{[], ◌∷◌, ℤ, pos, ◌+ℤ◌, ◌-ℤ◌, ◌*ℤ◌, ◌≤ℤ◌, ◌<ℤ◌, arith, refl}
use Rattle.std.proofs.lemmas.Int.{ints}
use Rattle.whole_math.proofs.Ring.{va, ko, ◌⊕◌, ◌⊖◌, ◌⊗◌}
use Rattle.whole_math.proofs.Certificates.{cert, cancel, mul_positive, weak, ◌≼◌, hy, nm, ◌⊞◌, ◌⊠◌}

-- two sines by two angles that differ by at most d
-- by h4*h0 + h3*h1 + 16*h2
pub sine_gap : (n m t x y u d : ℤ) → ((t -ℤ (pos 256)) *ℤ m) ≤ℤ (n *ℤ (pos 1152921504606846976)) → (x *ℤ (pos 1152921504606846976)) ≤ℤ ((u +ℤ (pos 256)) *ℤ y)
    → (((n *ℤ y) -ℤ (x *ℤ m)) *ℤ (pos 72057594037927936)) ≤ℤ (((pos 2) *ℤ d) *ℤ (m *ℤ y)) → (pos 0) <ℤ m → (pos 0) <ℤ y
    → (t -ℤ u) ≤ℤ ((pos 512) +ℤ ((pos 32) *ℤ d))
sine_gap n m t x y u d h0 h1 h2 h3 h4 =
    cancel (m *ℤ y) (t -ℤ u) ((pos 512) +ℤ ((pos 32) *ℤ d)) (mul_positive m y h3 h4)
    (cert (n ∷ m ∷ t ∷ x ∷ y ∷ u ∷ d ∷ []) (((((va 2) ⊖ (ko (pos 256))) ⊗ (va 1)) ≼ ((va 0) ⊗ (ko (pos 1152921504606846976))))
    ∷ (((va 3) ⊗ (ko (pos 1152921504606846976))) ≼ (((va 5) ⊕ (ko (pos 256))) ⊗ (va 4))) ∷
    (((((va 0) ⊗ (va 4)) ⊖ ((va 3) ⊗ (va 1))) ⊗ (ko (pos 72057594037927936))) ≼ (((ko (pos 2)) ⊗ (va 6)) ⊗ ((va 1) ⊗ (va 4)))) ∷ ((ko (pos 0)) ≼ (va 1))
    ∷ ((ko (pos 0)) ≼ (va 4)) ∷ []) (((va 1) ⊗ (va 4)) ⊗ ((va 2) ⊖ (va 5))) (((va 1) ⊗ (va 4)) ⊗ ((ko (pos 512)) ⊕ ((ko (pos 32)) ⊗ (va 6))))
    ((((hy 4) ⊠ (hy 0)) ⊞ ((hy 3) ⊠ (hy 1))) ⊞ ((nm 16) ⊠ (hy 2))) refl (h0, (h1, (h2, (weak (pos 0) m h3, (weak (pos 0) y h4, tt))))))

-- and the steps to which they lead
-- by h0 + h1 + h3*h2 + h4*(512 + 32*h5)
pub step_gap : (e t u a b d : ℤ) → (a *ℤ (pos 18446744073709551616)) ≤ℤ (e *ℤ t) → (e *ℤ u) ≤ℤ ((b *ℤ (pos 18446744073709551616)) +ℤ (pos 18446744073709551616))
    → (t -ℤ u) ≤ℤ ((pos 512) +ℤ ((pos 32) *ℤ d)) → (pos 0) ≤ℤ e → e ≤ℤ (pos 36028797018963968) → (pos 0) ≤ℤ d → ((pos 16) *ℤ (a -ℤ b)) ≤ℤ (d +ℤ (pos 32))
step_gap e t u a b d h0 h1 h2 h3 h4 h5 =
    cancel (pos 1152921504606846976) ((pos 16) *ℤ (a -ℤ b)) (d +ℤ (pos 32)) (omega (arith, ints))
    (cert (e ∷ t ∷ u ∷ a ∷ b ∷ d ∷ []) ((((va 3) ⊗ (ko (pos 18446744073709551616))) ≼ ((va 0) ⊗ (va 1)))
    ∷ (((va 0) ⊗ (va 2)) ≼ (((va 4) ⊗ (ko (pos 18446744073709551616))) ⊕ (ko (pos 18446744073709551616)))) ∷ (((va 1) ⊖ (va 2))
    ≼ ((ko (pos 512)) ⊕ ((ko (pos 32)) ⊗ (va 5)))) ∷ ((ko (pos 0)) ≼ (va 0)) ∷ ((va 0) ≼ (ko (pos 36028797018963968))) ∷ ((ko (pos 0)) ≼ (va 5)) ∷ [])
    ((ko (pos 1152921504606846976)) ⊗ ((ko (pos 16)) ⊗ ((va 3) ⊖ (va 4)))) ((ko (pos 1152921504606846976)) ⊗ ((va 5) ⊕ (ko (pos 32))))
    ((((hy 0) ⊞ (hy 1)) ⊞ ((hy 3) ⊠ (hy 2))) ⊞ ((hy 4) ⊠ ((nm 512) ⊞ ((nm 32) ⊠ (hy 5))))) refl (h0, (h1, (h2, (h3, (h4, (h5, tt)))))))

-- by 5192296858534827628530496329220096*h0
pub angles_near : (x y d : ℤ) → (x -ℤ y) ≤ℤ d → (((x *ℤ (pos 72057594037927936)) -ℤ (y *ℤ (pos 72057594037927936))) *ℤ (pos 72057594037927936))
    ≤ℤ (d *ℤ ((pos 72057594037927936) *ℤ (pos 72057594037927936)))
angles_near x y d h0 =
    cert (x ∷ y ∷ d ∷ []) ((((va 0) ⊖ (va 1)) ≼ (va 2)) ∷ [])
    ((((va 0) ⊗ (ko (pos 72057594037927936))) ⊖ ((va 1) ⊗ (ko (pos 72057594037927936)))) ⊗ (ko (pos 72057594037927936)))
    ((va 2) ⊗ ((ko (pos 72057594037927936)) ⊗ (ko (pos 72057594037927936)))) ((nm 5192296858534827628530496329220096) ⊠ (hy 0)) refl (h0, tt)

-- by h2*h0 + h1 + 13*h2
pub round : (z d w : ℤ) → ((pos 16) *ℤ z) ≤ℤ (d +ℤ (pos 32)) → (d *ℤ w) ≤ℤ ((pos 9007199254740992) +ℤ ((pos 3) *ℤ w)) → (pos 0) ≤ℤ w
    → (z *ℤ (w *ℤ (pos 16))) ≤ℤ ((pos 9007199254740992) +ℤ ((pos 3) *ℤ (w *ℤ (pos 16))))
round z d w h0 h1 h2 =
    cert (z ∷ d ∷ w ∷ []) ((((ko (pos 16)) ⊗ (va 0)) ≼ ((va 1) ⊕ (ko (pos 32)))) ∷ (((va 1) ⊗ (va 2)) ≼ ((ko (pos 9007199254740992)) ⊕ ((ko (pos 3)) ⊗ (va 2))))
    ∷ ((ko (pos 0)) ≼ (va 2)) ∷ []) ((va 0) ⊗ ((va 2) ⊗ (ko (pos 16)))) ((ko (pos 9007199254740992)) ⊕ ((ko (pos 3)) ⊗ ((va 2) ⊗ (ko (pos 16)))))
    ((((hy 2) ⊠ (hy 0)) ⊞ (hy 1)) ⊞ ((nm 13) ⊠ (hy 2))) refl (h0, (h1, (h2, tt)))
