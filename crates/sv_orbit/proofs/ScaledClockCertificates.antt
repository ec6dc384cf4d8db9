-- Inequalities of a clock over 10^4, each by a certificate.
-- The terms are made: tools/inequality_certificate.py writes a lemma from its claim and the products of its hypotheses,
-- h0, h1, .. in the order in which they stand: they are over each lemma, after `by`. Who changes a claim writes its term anew there;
-- the check proves what is written.
use Rattle.std.proofs.Common.{[], ◌∷◌, ℤ, pos, ◌*ℤ◌, ◌≤ℤ◌, refl}
use Rattle.whole_math.proofs.Ring.{va, ko, ◌⊗◌}
use Rattle.whole_math.proofs.Certificates.{cert, ◌≼◌, hy, ◌⊞◌, ◌⊠◌}

-- by h0 + h2*h1
pub low : (n d l a : ℤ) → (a *ℤ d) ≤ℤ (n *ℤ pos 1152921504606846976) → (l *ℤ pos 10000) ≤ℤ a → pos 0 ≤ℤ d → (l *ℤ (pos 10000 *ℤ d)) ≤ℤ (n *ℤ pos 1152921504606846976)
low n d l a h0 h1 h2 =
    cert (n ∷ d ∷ l ∷ a ∷ []) (((va 3 ⊗ va 1) ≼ (va 0 ⊗ ko (pos 1152921504606846976))) ∷ ((va 2 ⊗ ko (pos 10000)) ≼ va 3) ∷ (ko (pos 0) ≼ va 1) ∷ [])
    (va 2 ⊗ (ko (pos 10000) ⊗ va 1)) (va 0 ⊗ ko (pos 1152921504606846976)) ((hy 0) ⊞ ((hy 2) ⊠ (hy 1))) refl (h0, (h1, (h2, tt)))

-- by h0 + h2*h1
pub high : (n d u b : ℤ) → (n *ℤ pos 1152921504606846976) ≤ℤ (b *ℤ d) → b ≤ℤ (u *ℤ pos 10000) → pos 0 ≤ℤ d → (n *ℤ pos 1152921504606846976) ≤ℤ (u *ℤ (pos 10000 *ℤ d))
high n d u b h0 h1 h2 =
    cert (n ∷ d ∷ u ∷ b ∷ []) (((va 0 ⊗ ko (pos 1152921504606846976)) ≼ (va 3 ⊗ va 1)) ∷ (va 3 ≼ (va 2 ⊗ ko (pos 10000))) ∷ (ko (pos 0) ≼ va 1) ∷ [])
    (va 0 ⊗ ko (pos 1152921504606846976)) (va 2 ⊗ (ko (pos 10000) ⊗ va 1)) ((hy 0) ⊞ ((hy 2) ⊠ (hy 1))) refl (h0, (h1, (h2, tt)))
