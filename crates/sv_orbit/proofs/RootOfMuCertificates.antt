-- Inequalities of the box of the near-roots of μ, each by a certificate.
-- The terms are made: tools/inequality_certificate.py writes a lemma from its claim and the products of its hypotheses,
-- h0, h1, .. in the order in which they stand: they are over each lemma, after `by`. Who changes a claim writes its term anew there;
-- the check proves what is written.
use Rattle.std.proofs.Common.{[], ◌∷◌, ℤ, pos, ◌+ℤ◌, ◌*ℤ◌, ◌≤ℤ◌, arith, refl}
use Rattle.std.proofs.lemmas.Int.{ints}
use Rattle.whole_math.proofs.Ring.{va, ko, ◌⊕◌, ◌⊗◌}
use Rattle.whole_math.proofs.Certificates.{cert, cancel, ◌≼◌, hy, nm, ◌⊞◌, ◌⊠◌}

-- by h0 + 1152921504606846977*h1 + 69167645036420956023099416298871073802610200805376
pub not_high : (n x : ℤ) → ((x *ℤ x) *ℤ (pos 1152921504606846976)) ≤ℤ (n *ℤ (pos 1152921504606846977))
    → n ≤ℤ (pos 1882337641255082017001832448000000000) → (x *ℤ x) ≤ℤ (pos 1882397634623893373688885373462118401)
not_high n x h0 h1 =
    cancel (pos 1152921504606846976) (x *ℤ x) (pos 1882397634623893373688885373462118401) (omega (arith, ints))
    (cert (n ∷ x ∷ []) (((((va 1) ⊗ (va 1)) ⊗ (ko (pos 1152921504606846976))) ≼ ((va 0) ⊗ (ko (pos 1152921504606846977))))
    ∷ ((va 0) ≼ (ko (pos 1882337641255082017001832448000000000))) ∷ []) ((ko (pos 1152921504606846976)) ⊗ ((va 1) ⊗ (va 1)))
    ((ko (pos 1152921504606846976)) ⊗ (ko (pos 1882397634623893373688885373462118401)))
    (((hy 0) ⊞ ((nm 1152921504606846977) ⊠ (hy 1))) ⊞ (nm 69167645036420956023099416298871073802610200805376)) refl (h0, (h1, tt)))

-- by 1152921504606846975*h0 + 1152921504606846977*h1 + 1329227995784915871750885555673497600*(h2*(h2 + 2*h3 + 4))
--    + 2305843009213693952*(h3*h4)
pub not_wide : (n y x : ℤ) → ((x *ℤ x) *ℤ (pos 1152921504606846976)) ≤ℤ (n *ℤ (pos 1152921504606846977))
    → (n *ℤ (pos 1152921504606846975)) ≤ℤ ((y *ℤ y) *ℤ (pos 1152921504606846976)) → (y +ℤ (pos 2)) ≤ℤ x → (pos 0) ≤ℤ y
    → y ≤ℤ (pos 2305843009213693950) → (pos 5316911983139663487003542222693990400) ≤ℤ (pos 0)
not_wide n y x h0 h1 h2 h3 h4 =
    cert (n ∷ y ∷ x ∷ []) (((((va 2) ⊗ (va 2)) ⊗ (ko (pos 1152921504606846976))) ≼ ((va 0) ⊗ (ko (pos 1152921504606846977))))
    ∷ (((va 0) ⊗ (ko (pos 1152921504606846975))) ≼ (((va 1) ⊗ (va 1)) ⊗ (ko (pos 1152921504606846976)))) ∷ (((va 1) ⊕ (ko (pos 2))) ≼ (va 2))
    ∷ ((ko (pos 0)) ≼ (va 1)) ∷ ((va 1) ≼ (ko (pos 2305843009213693950))) ∷ []) (ko (pos 5316911983139663487003542222693990400)) (ko (pos 0))
    (((((nm 1152921504606846975) ⊠ (hy 0)) ⊞ ((nm 1152921504606846977) ⊠ (hy 1))) ⊞ ((nm 1329227995784915871750885555673497600)
    ⊠ ((hy 2) ⊠ (((hy 2) ⊞ ((nm 2) ⊠ (hy 3))) ⊞ (nm 4))))) ⊞ ((nm 2305843009213693952) ⊠ ((hy 3) ⊠ (hy 4)))) refl (h0, (h1, (h2, (h3, (h4, tt)))))
