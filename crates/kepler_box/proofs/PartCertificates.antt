-- Inequalities of the parts of the equation, each by a certificate.
-- The terms are made: tools/inequality_certificate.py writes a lemma from its claim and the products of its hypotheses,
-- h0, h1, .. in the order in which they stand: they are over each lemma, after `by`. Who changes a claim writes its term anew there;
-- the check proves what is written.
use Rattle.std.proofs.Common.{[], ◌∷◌, ℤ, pos, ◌+ℤ◌, ◌-ℤ◌, ◌*ℤ◌, ◌≤ℤ◌, refl}
use Rattle.whole_math.proofs.Ring.{va, ko, ◌⊕◌, ◌⊖◌, ◌⊗◌}
use Rattle.whole_math.proofs.Certificates.{cert, ◌≼◌, hy, nm, ◌⊞◌, ◌⊠◌}

-- by h3*h0 + 256*h4 + h2*h5 + 2305843009213693952*h1 + 4611686018427387904
pub corner_high : (p q e t w : ℤ) → (w -ℤ t) ≤ℤ (pos 256) → (p -ℤ e) ≤ℤ (pos 2) → e ≤ℤ p → (pos 0) ≤ℤ e → e ≤ℤ (pos 36028797018963968)
    → w ≤ℤ (pos 2305843009213693952) → (p *ℤ w) ≤ℤ ((e *ℤ t) +ℤ (pos 18446744073709551616))
corner_high p q e t w h0 h1 h2 h3 h4 h5 =
    cert (p ∷ q ∷ e ∷ t ∷ w ∷ []) ((((va 4) ⊖ (va 3)) ≼ (ko (pos 256))) ∷ (((va 0) ⊖ (va 2)) ≼ (ko (pos 2))) ∷ ((va 2) ≼ (va 0))
    ∷ ((ko (pos 0)) ≼ (va 2)) ∷ ((va 2) ≼ (ko (pos 36028797018963968))) ∷ ((va 4) ≼ (ko (pos 2305843009213693952))) ∷ []) ((va 0) ⊗ (va 4))
    (((va 2) ⊗ (va 3)) ⊕ (ko (pos 18446744073709551616)))
    ((((((hy 3) ⊠ (hy 0)) ⊞ ((nm 256) ⊠ (hy 4))) ⊞ ((hy 2) ⊠ (hy 5))) ⊞ ((nm 2305843009213693952) ⊠ (hy 1))) ⊞ (nm 4611686018427387904)) refl
    (h0, (h1, (h2, (h3, (h4, (h5, tt))))))

-- by h3*h0 + 256*h4 + h2*h5 + 2305843009213693952*h1 + 4611686018427387904
pub corner_low : (p q e t w : ℤ) → (t -ℤ w) ≤ℤ (pos 256) → (p -ℤ e) ≤ℤ (pos 2) → e ≤ℤ p → (pos 0) ≤ℤ e → e ≤ℤ (pos 36028797018963968)
    → ((pos 0) -ℤ (pos 2305843009213693952)) ≤ℤ w → ((e *ℤ t) -ℤ (pos 18446744073709551616)) ≤ℤ (p *ℤ w)
corner_low p q e t w h0 h1 h2 h3 h4 h5 =
    cert (p ∷ q ∷ e ∷ t ∷ w ∷ []) ((((va 3) ⊖ (va 4)) ≼ (ko (pos 256))) ∷ (((va 0) ⊖ (va 2)) ≼ (ko (pos 2))) ∷ ((va 2) ≼ (va 0))
    ∷ ((ko (pos 0)) ≼ (va 2)) ∷ ((va 2) ≼ (ko (pos 36028797018963968))) ∷ (((ko (pos 0)) ⊖ (ko (pos 2305843009213693952))) ≼ (va 4)) ∷ [])
    (((va 2) ⊗ (va 3)) ⊖ (ko (pos 18446744073709551616))) ((va 0) ⊗ (va 4))
    ((((((hy 3) ⊠ (hy 0)) ⊞ ((nm 256) ⊠ (hy 4))) ⊞ ((hy 2) ⊠ (hy 5))) ⊞ ((nm 2305843009213693952) ⊠ (hy 1))) ⊞ (nm 4611686018427387904)) refl
    (h0, (h1, (h2, (h3, (h4, (h5, tt))))))
