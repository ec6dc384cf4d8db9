-- Inequalities of the time over a range, each by a certificate.
-- The terms are made: tools/inequality_certificate.py writes a lemma from its claim and the products of its hypotheses,
-- h0, h1, .. in the order in which they stand: they are over each lemma, after `by`. Who changes a claim writes its term anew there;
-- the check proves what is written.
use Rattle.std.proofs.Common.{[], ◌∷◌, refl, ℤ, pos, ◌*ℤ◌, ◌≤ℤ◌, arith}
use Rattle.std.proofs.lemmas.Int.{ints}
use Rattle.whole_math.proofs.Ring.{va, ko, ◌⊗◌}
use Rattle.whole_math.proofs.Certificates.{cert, cancel, ◌≼◌, hy, nm, ◌⊞◌, ◌⊠◌}

-- ---- a box of times, from the ends of the range's over the speed of light
-- by 16777216*h0 + h2*h1
pub time_low : (n d l a : ℤ) → (a *ℤ d) ≤ℤ ((pos 299792458 *ℤ n) *ℤ pos 68719476736) → (l *ℤ pos 299792458) ≤ℤ (a *ℤ pos 16777216) → pos 0 ≤ℤ d → (l *ℤ d) ≤ℤ (n *ℤ pos 1152921504606846976)
time_low n d l a h0 h1 h2 =
    cancel (pos 299792458) (l *ℤ d) (n *ℤ pos 1152921504606846976) (omega (arith, ints))
    (cert (n ∷ d ∷ l ∷ a ∷ []) (((va 3 ⊗ va 1) ≼ ((ko (pos 299792458) ⊗ va 0) ⊗ ko (pos 68719476736)))
    ∷ ((va 2 ⊗ ko (pos 299792458)) ≼ (va 3 ⊗ ko (pos 16777216))) ∷ (ko (pos 0) ≼ va 1) ∷ []) (ko (pos 299792458) ⊗ (va 2 ⊗ va 1))
    (ko (pos 299792458) ⊗ (va 0 ⊗ ko (pos 1152921504606846976))) (((nm 16777216) ⊠ (hy 0)) ⊞ ((hy 2) ⊠ (hy 1))) refl (h0, (h1, (h2, tt))))

-- by 16777216*h0 + h2*h1
pub time_high : (n d u b : ℤ) → ((pos 299792458 *ℤ n) *ℤ pos 68719476736) ≤ℤ (b *ℤ d) → (b *ℤ pos 16777216) ≤ℤ (u *ℤ pos 299792458) → pos 0 ≤ℤ d → (n *ℤ pos 1152921504606846976) ≤ℤ (u *ℤ d)
time_high n d u b h0 h1 h2 =
    cancel (pos 299792458) (n *ℤ pos 1152921504606846976) (u *ℤ d) (omega (arith, ints)) (cert (n ∷ d ∷ u ∷ b ∷ [])
    ((((ko (pos 299792458) ⊗ va 0) ⊗ ko (pos 68719476736)) ≼ (va 3 ⊗ va 1)) ∷ ((va 3 ⊗ ko (pos 16777216)) ≼ (va 2 ⊗ ko (pos 299792458)))
    ∷ (ko (pos 0) ≼ va 1) ∷ []) (ko (pos 299792458) ⊗ (va 0 ⊗ ko (pos 1152921504606846976))) (ko (pos 299792458) ⊗ (va 2 ⊗ va 1))
    (((nm 16777216) ⊠ (hy 0)) ⊞ ((hy 2) ⊠ (hy 1))) refl (h0, (h1, (h2, tt))))
