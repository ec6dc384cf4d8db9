-- Inequalities of near-roots, each by a certificate.
-- The terms are made: tools/inequality_certificate.py writes a lemma from its claim and the products of its hypotheses,
-- h0, h1, .. in the order in which they stand: they are over each lemma, after `by`. Who changes a claim writes its term anew there;
-- the check proves what is written.
use Rattle.std.proofs.Common.{[], ◌∷◌, ℤ, pos, ◌-ℤ◌, ◌*ℤ◌, neg_ℤ, ◌≤ℤ◌, ◌<ℤ◌, refl}
use Rattle.whole_math.proofs.Ring.{va, ko, ◌⊖◌, ◌⊗◌, ng}
use Rattle.whole_math.proofs.Certificates.{cert, cancel, weak, ◌≼◌, hy, ◌⊠◌}

-- by h0*h1
pub high : (a d n e : ℤ) → (pos 0) ≤ℤ e → ((((a *ℤ a) *ℤ e) -ℤ (n *ℤ (d *ℤ d))) *ℤ (pos 1152921504606846976)) ≤ℤ (n *ℤ (d *ℤ d))
    → (((pos 1152921504606846976) *ℤ (((a *ℤ a) *ℤ e) -ℤ (n *ℤ (d *ℤ d)))) *ℤ e) ≤ℤ (n *ℤ ((pos 1) *ℤ ((d *ℤ d) *ℤ e)))
high a d n e h0 h1 =
    cert (a ∷ d ∷ n ∷ e ∷ []) (((ko (pos 0)) ≼ (va 3)) ∷ ((((((va 0) ⊗ (va 0)) ⊗ (va 3)) ⊖ ((va 2) ⊗ ((va 1) ⊗ (va 1)))) ⊗ (ko (pos 1152921504606846976)))
    ≼ ((va 2) ⊗ ((va 1) ⊗ (va 1)))) ∷ []) (((ko (pos 1152921504606846976)) ⊗ ((((va 0) ⊗ (va 0)) ⊗ (va 3)) ⊖ ((va 2) ⊗ ((va 1) ⊗ (va 1))))) ⊗ (va 3))
    ((va 2) ⊗ ((ko (pos 1)) ⊗ (((va 1) ⊗ (va 1)) ⊗ (va 3)))) ((hy 0) ⊠ (hy 1)) refl (h0, (h1, tt))

-- by h0*h1
pub low : (a d n e : ℤ) → (pos 0) ≤ℤ e → ((neg_ℤ (((a *ℤ a) *ℤ e) -ℤ (n *ℤ (d *ℤ d)))) *ℤ (pos 1152921504606846976)) ≤ℤ (n *ℤ (d *ℤ d))
    → (((pos 1152921504606846976) *ℤ ((n *ℤ (d *ℤ d)) -ℤ ((a *ℤ a) *ℤ e))) *ℤ e) ≤ℤ (n *ℤ ((pos 1) *ℤ (e *ℤ (d *ℤ d))))
low a d n e h0 h1 =
    cert (a ∷ d ∷ n ∷ e ∷ []) (((ko (pos 0)) ≼ (va 3)) ∷ (((ng ((((va 0) ⊗ (va 0)) ⊗ (va 3)) ⊖ ((va 2) ⊗ ((va 1) ⊗ (va 1))))) ⊗ (ko (pos 1152921504606846976)))
    ≼ ((va 2) ⊗ ((va 1) ⊗ (va 1)))) ∷ []) (((ko (pos 1152921504606846976)) ⊗ (((va 2) ⊗ ((va 1) ⊗ (va 1))) ⊖ (((va 0) ⊗ (va 0)) ⊗ (va 3)))) ⊗ (va 3))
    ((va 2) ⊗ ((ko (pos 1)) ⊗ ((va 3) ⊗ ((va 1) ⊗ (va 1))))) ((hy 0) ⊠ (hy 1)) refl (h0, (h1, tt))

-- by h0
pub from_high : (a d n e : ℤ) → (((pos 1152921504606846976) *ℤ (((a *ℤ a) *ℤ e) -ℤ (n *ℤ (d *ℤ d)))) *ℤ e) ≤ℤ (n *ℤ ((pos 1) *ℤ ((d *ℤ d) *ℤ e)))
    → (pos 0) <ℤ e → ((((a *ℤ a) *ℤ e) -ℤ (n *ℤ (d *ℤ d))) *ℤ (pos 1152921504606846976)) ≤ℤ (n *ℤ (d *ℤ d))
from_high a d n e h0 h1 =
    cancel e ((((a *ℤ a) *ℤ e) -ℤ (n *ℤ (d *ℤ d))) *ℤ (pos 1152921504606846976)) (n *ℤ (d *ℤ d)) h1
    (cert (a ∷ d ∷ n ∷ e ∷ []) (((((ko (pos 1152921504606846976)) ⊗ ((((va 0) ⊗ (va 0)) ⊗ (va 3)) ⊖ ((va 2) ⊗ ((va 1) ⊗ (va 1))))) ⊗ (va 3))
    ≼ ((va 2) ⊗ ((ko (pos 1)) ⊗ (((va 1) ⊗ (va 1)) ⊗ (va 3))))) ∷ ((ko (pos 0)) ≼ (va 3)) ∷ [])
    ((va 3) ⊗ (((((va 0) ⊗ (va 0)) ⊗ (va 3)) ⊖ ((va 2) ⊗ ((va 1) ⊗ (va 1)))) ⊗ (ko (pos 1152921504606846976))))
    ((va 3) ⊗ ((va 2) ⊗ ((va 1) ⊗ (va 1)))) (hy 0) refl (h0, (weak (pos 0) e h1, tt)))

-- by h0
pub from_low : (a d n e : ℤ) → (((pos 1152921504606846976) *ℤ ((n *ℤ (d *ℤ d)) -ℤ ((a *ℤ a) *ℤ e))) *ℤ e) ≤ℤ (n *ℤ ((pos 1) *ℤ (e *ℤ (d *ℤ d))))
    → (pos 0) <ℤ e → ((neg_ℤ (((a *ℤ a) *ℤ e) -ℤ (n *ℤ (d *ℤ d)))) *ℤ (pos 1152921504606846976)) ≤ℤ (n *ℤ (d *ℤ d))
from_low a d n e h0 h1 =
    cancel e ((neg_ℤ (((a *ℤ a) *ℤ e) -ℤ (n *ℤ (d *ℤ d)))) *ℤ (pos 1152921504606846976)) (n *ℤ (d *ℤ d)) h1
    (cert (a ∷ d ∷ n ∷ e ∷ []) (((((ko (pos 1152921504606846976)) ⊗ (((va 2) ⊗ ((va 1) ⊗ (va 1))) ⊖ (((va 0) ⊗ (va 0)) ⊗ (va 3)))) ⊗ (va 3))
    ≼ ((va 2) ⊗ ((ko (pos 1)) ⊗ ((va 3) ⊗ ((va 1) ⊗ (va 1)))))) ∷ ((ko (pos 0)) ≼ (va 3)) ∷ [])
    ((va 3) ⊗ ((ng ((((va 0) ⊗ (va 0)) ⊗ (va 3)) ⊖ ((va 2) ⊗ ((va 1) ⊗ (va 1))))) ⊗ (ko (pos 1152921504606846976))))
    ((va 3) ⊗ ((va 2) ⊗ ((va 1) ⊗ (va 1)))) (hy 0) refl (h0, (weak (pos 0) e h1, tt)))
